-- A spliced source, written piece by piece. Assumes nothing.
use Prim.Native.Nat.{ℕ, ◌-◌, ◌≤◌}
use mathlib.Core.Path.{◌≡◌, sym}
use mathlib.Core.List.{List}
use mathlib.Core.Bool.{Bool, true, ◌&&◌}
use lib.Dec.{T, leb, leb→le}
use lib.ListN.{length}
use Rattle.decimal.proofs.Decide.{T_of, and_left, and_right}
use Rattle.format.specs.Limits.{number_limit}
use Rattle.rewriting.specs.declared.rewrite.Change.{Change}
use Rattle.rewriting.specs.declared.splice.Renumbering.{Renumbering}
use Rattle.rewriting.specs.declared.splice.Splice.{Splice}
use Rattle.rewriting.specs.declared.output.Output.{Output}
use Rattle.rewriting.specs.Output.{Appends}
use Rattle.rewriting.specs.Rewriting.{rewritten_text, renumbered_between}
use Rattle.rewriting.specs.Edited.{spliced_head, spliced_text, stands}
use Rattle.rewriting.proofs.Anywhere.{renumbered_anywhere}
use Rattle.rewriting.proofs.Outputs.{appends_then, appends-as}

-- what the tests say
pub record Room (n : ℕ) (p : Splice) : Type 0 where
  pub some : 2 ≤ p.inside
  pub long : p.at ≤ p.inside - 2
  pub inside : p.inside ≤ n
  pub low : p.count ≤ number_limit
  pub up : p.renumbering.up ≤ number_limit
  pub down : p.renumbering.down ≤ p.renumbering.from

pub room_of : (n : ℕ) (p : Splice) → stands n p ≡ true → Room n p
room_of n p e =
    let a : Bool = leb 2 p.inside in
    let b : Bool = leb p.at (p.inside - 2) in
    let c : Bool = leb p.inside n in
    let d : Bool = leb p.count number_limit in
    let f : Bool = leb p.renumbering.up number_limit in
    let g : Bool = leb p.renumbering.down p.renumbering.from in
    let behind-a : T (b && (c && (d && (f && g)))) = and_right a (b && (c && (d && (f && g)))) (T_of e) in
    let behind-b : T (c && (d && (f && g))) = and_right b (c && (d && (f && g))) behind-a in
    let behind-c : T (d && (f && g)) = and_right c (d && (f && g)) behind-b in
    let behind-d : T (f && g) = and_right d (f && g) behind-c in
    record {
      some = leb→le 2 p.inside (and_left a (b && (c && (d && (f && g)))) (T_of e));
      long = leb→le p.at (p.inside - 2) (and_left b (c && (d && (f && g))) behind-a);
      inside = leb→le p.inside n (and_left c (d && (f && g)) behind-b);
      low = leb→le p.count number_limit (and_left d (f && g) behind-c);
      up = leb→le p.renumbering.up number_limit (and_left f g behind-d);
      down = leb→le p.renumbering.down p.renumbering.from (and_right f g behind-d);
    }

-- ---- the pieces

-- the same whatever the table says
wrote : (m : Renumbering) (t s : List ℕ) (from to : ℕ) {a b : Output} → Appends (rewritten_text (Change.Renumber m) t 0 s from to) a b
    → Appends (renumbered_between m s from to) a b
wrote m t s from to q = appends-as (sym (renumbered_anywhere m t 0 s from to)) q

module _ (p : Splice) (t s : List ℕ) where
  abbrev rewritten : (from to : ℕ) → List ℕ
  rewritten from to = rewritten_text (Change.Renumber p.renumbering) t 0 s from to

  pub all-written : {key value : List ℕ} {o₀ o₁ o₂ o₃ o₄ o₅ o₆ : Output} → Appends (rewritten 0 p.at) o₀ o₁ → Appends (spliced_head s p) o₁ o₂
      → Appends (rewritten p.inside p.from) o₂ o₃ → Appends key o₃ o₄ → Appends value o₄ o₅ → Appends (rewritten p.to (length s)) o₅ o₆
      → Appends (spliced_text s key value p) o₀ o₆
  all-written p₁ p₂ p₃ p₄ p₅ p₆ =
      let m : Renumbering = p.renumbering in
      appends_then (wrote m t s 0 p.at p₁) (appends_then p₂ (appends_then (wrote m t s p.inside p.from p₃)
      (appends_then p₄ (appends_then p₅ (wrote m t s p.to (length s) p₆)))))
