-- A pair's place in the bytes of a plan that was read.
use Rattle.std.specs.Prelude.{◌≡◌, List, ◌∷◌, ◌++◌, ℕ, ◌≤◌, length, drop, Result}
use Rattle.format.specs.Bytes.{byte}
use Rattle.format.specs.Kind.{Kind, tag}
use Rattle.format.specs.Tree.{nodes}
use Rattle.format.specs.Syntax.{Spelling, Value, write_number}
use Rattle.format.specs.Limits.{number_limit}
use Rattle.format.specs.Fits.{IsPlan}
use Rattle.format.specs.Table.{flat, table_of}
use Rattle.format.specs.Reading.{terms_of}
use Rattle.rewriting.specs.declared.splice.Splice.{Splice}
use Rattle.rewriting.specs.Rewriting.{raising}
use Rattle.format.specs.declared.codes.Refusal.{Refusal}
use Rattle.placing.specs.Passing.{Ahead}
use Rattle.placing.specs.Locating.{placing_answer, spot_for}

-- ---- the plan that was read, with its table

pub record Given (s t : List ℕ) (n : ℕ) : Type 0 where
  pub value : Value
  pub plan : IsPlan (terms_of t) s value
  pub counted : n ≡ nodes value
  pub rest : List ℕ
  pub table : t ≡ flat (table_of value) ++ rest

-- ---- the gap

-- an array's head stands ahead
pub record HeadAhead (s : List ℕ) (at : ℕ) : Type 0 where
  pub spelling : Spelling
  pub pairs : ℕ
  pub few : pairs ≤ number_limit
  pub rest : List ℕ
  pub text : drop at s ≡ tag Kind.array ∷ byte ":" ∷ write_number spelling pairs (byte ":" ∷ byte "{" ∷ rest)

pub record BehindHead (s rest : List ℕ) (r : ℕ) : Type 0 where
  pub here : drop r s ≡ rest
  pub inside : r ≤ length s

-- and behind it so many nodes with all that closes them
pub record SpotAhead (s : List ℕ) (at nodes : ℕ) : Type 0 where
  pub head : HeadAhead s at
  pub rest : List ℕ
  pub pairs : (i : ℕ) → drop i s ≡ head.rest → i ≤ length s → Ahead s i nodes
  pub same : (i : ℕ) (e : drop i s ≡ head.rest) (h : i ≤ length s) → (pairs i e h).rest ≡ rest

pub record SpotIs (s head rest : List ℕ) (at count ordinal : ℕ) (r : Splice) : Type 0 where
  pub tag : r.at ≡ at
  pub first : BehindHead s head r.inside
  pub gap : BehindHead s rest r.from
  pub none : r.to ≡ r.from
  pub counted : r.count ≡ count
  pub taken : r.renumbering ≡ raising ordinal

-- ---- the steps between reading and writing

abbrev pub FindsSpot : (s t : List ℕ) (node place : ℕ) (key value : List ℕ) → Result Splice Refusal → Type 0
FindsSpot s t node place key value r = placing_answer r ≡ spot_for (terms_of t) s node place key value
