-- WHAT PLACING PROMISES. The other files here say what its private functions promise each other; nothing public rests on them.
use Rattle.std.specs.Prelude.{◌≡◌, List, [], ◌∷◌, ℕ, zero, suc, ◌+◌, length, Result, Ok, Err}
use Rattle.format.specs.Tree.{leaf, ref, branch, none, pair, TreePath, count}
use Rattle.format.specs.Syntax.{Value, Values, write_key, write, write_pairs}
use Rattle.format.specs.Limits.{Terms}
use Rattle.format.specs.Answer.{Answer, ok, refused, ◌>>=◌}
use Rattle.format.specs.declared.codes.Refusal.{Refusal}
use Rattle.format.specs.Codes.{number_of}
use Rattle.format.specs.Reading.{terms_of, cleared, table_after}
use Rattle.format.specs.Edit.{upto, new_ordinal}
use Rattle.format.specs.Writing.{Insertion, insertion_of}
use Rattle.tokens.specs.Tokens.{opening, write_token}
use Rattle.rewriting.specs.declared.splice.Splice.{Splice}
use Rattle.rewriting.specs.Rewriting.{raising}

-- the paper's number and values for each case: where the pair goes; "A refusal returns its number and a position"
abbrev pub placing_answer : Result Splice Refusal → Answer Splice
placing_answer (Ok p) = ok p
placing_answer (Err r) = refused (number_of r.code) r.at

-- ---- what stands before: the bytes of a plan up to a point of the container at a path, those of that container being given by `part`

-- of pairs: those before a place, and a part of the value there
abbrev pub before_in : (place : ℕ) → (part : Value → List ℕ) → Values → List ℕ
before_in q part none = []
before_in zero part (pair k v ps) = write_key k (part v)
before_in (suc q) part (pair k v ps) = write_key k (write v (before_in q part ps))

abbrev pub before : (part : Value → List ℕ) → TreePath → Value → List ℕ
before part [] v = part v
before part (q ∷ a) (leaf x) = []
before part (q ∷ a) (ref r) = []
before part (q ∷ a) (branch h ps) = write_token (opening h (count ps)) (before_in q (before part a) ps)

-- none of the container's bytes: up to its tag
abbrev pub nothing : Value → List ℕ
nothing v = []

-- its head, and its pairs before a place
abbrev pub pairs_before : (place : ℕ) → Value → List ℕ
pairs_before p (leaf x) = []
pairs_before p (ref r) = []
pairs_before p (branch h ps) = write_token (opening h (count ps)) (write_pairs (upto p ps) [])

-- "put in before the key that had that place, or before the array's `}` if the place is the count": the positions of the array's tag, of its first pair and
-- of the gap, where nothing is left out, each the length of what stands before; the array's new count; and references from k on one higher
abbrev pub splice_of : (place : ℕ) → Insertion → Splice
splice_of p i = record {
  at = length (before nothing i.site.path i.plan);
  inside = length (before (pairs_before 0) i.site.path i.plan);
  from = length (before (pairs_before p) i.site.path i.plan);
  to = length (before (pairs_before p) i.site.path i.plan);
  count = count i.site.pairs + 1;
  renumbering = raising (new_ordinal i.site.path p i.plan);
}

-- ---- the answer and the table

-- "Inserting: reading, 11, 12, 13, 9 (new key present), 8 (array at depth 64), 7 (two more nodes), 14": all before 14
unfoldable pub spot_for : (terms : Terms) → (source : List ℕ) → (node place : ℕ) → (key value : List ℕ) → Answer Splice
spot_for terms source node place key value = do
  i ← insertion_of terms source node place key value
  ok (splice_of place i)

-- the table is that of the plan given; a refusal "makes every word of the table zero"
abbrev pub table_located : Terms → Answer Splice → (source table : List ℕ) → List ℕ
table_located terms (ok p) source t = table_after terms source t
table_located terms (refused n p) source t = cleared t

pub record Locates (s : List ℕ) (node place : ℕ) (key value t t' : List ℕ) (r : Result Splice Refusal) : Type 0 where
  pub answer : placing_answer r ≡ spot_for (terms_of t) s node place key value
  pub table : t' ≡ table_located (terms_of t) (spot_for (terms_of t) s node place key value) s t
