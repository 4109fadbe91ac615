-- Where the pair goes in the bytes, and what is then to be written. Assumes nothing.
use Prim.Native.Nat.{ℕ, ◌+◌, ◌-◌, ◌≤◌}
use native.Mathlib.Omega.{arith}
use mathlib.Core.Path.{◌≡◌, sym, ap, ◌∙◌, subst}
use mathlib.Core.Bool.{true}
use mathlib.Core.List.{List}
use lib.ListN.{length}
use Rattle.format.specs.Syntax.{Key, Scalar}
use Rattle.format.specs.Limits.{number_limit, source_limit, Terms}
use Rattle.format.specs.Answer.{Answer, ok}
use Rattle.format.specs.Reading.{terms_of}
use Rattle.format.specs.Writing.{Site, with_room, Insertion, insertion_of, insert_bytes}
use Rattle.format.proofs.Answers.{ok_same, bind_ok}
use Rattle.insertion.proofs.Steps.{WithNodes, passes, steps_pass}
use Rattle.keys.specs.declared.KeyWords.{KeyWords}
use Rattle.rewriting.specs.declared.splice.Splice.{Splice}
use Rattle.rewriting.specs.Edited.{stands, spliced_text, Parted}
use Rattle.placing.specs.declared.pass.Passed.{Passed}
use Rattle.placing.specs.Passing.{Ahead, Reached}
use Rattle.placing.specs.Locating.{splice_of, spot_for}
use Rattle.placing.specs.Placing.{Given, SpotAhead, SpotIs}
use Rattle.placing.proofs.StepLaws.{GapFound, gap_is, new_is}
use Rattle.placing.proofs.SplicedTexts.{Splices, spliced_is, head-stands}
use Rattle.placing.proofs.Gaps as gaps

-- ---- the spot that the code finds

module _ {s t : List ℕ} {n : ℕ} {g : Given s t n} {node place : ℕ} {key value : List ℕ} {m o gap new : ℕ} {w : KeyWords}
    (f : GapFound g node place key value m o gap new w) where
  abbrev site : Site
  site = f.array.site

  -- the count with one pair more
  pub one_more : m + 1 ≤ number_limit
  one_more = omega (arith, gaps.one_more g.value g.plan.fits.valid node site f.array.at place, f.array.counted)

  -- the tokens before the array
  abbrev pub ahead : Ahead s 0 node
  ahead = gaps.ahead g.value g.plan.fits.valid node site f.array.at place s g.plan.printed

  module _ {x : Passed} (r : (a : Ahead s 0 node) → Reached s a.rest a.around x) where
    pub around-is : x.around ≡ length f.array.site.path
    around-is = (r ahead).still

    -- the array's head, and its pairs before the place
    abbrev pub spot-ahead : SpotAhead s x.at (gap - (node + 1))
    spot-ahead = gaps.spot-ahead g.value g.plan.fits.valid node site f.array.at place s g.plan.printed x (r ahead) gap (gap_is f)

    pub spot-found : WithNodes (terms_of t) s node place key value g.value f.array.site f.pair.keyed.key f.pair.scalar
        → {z : Splice} → ((a : SpotAhead s x.at (gap - (node + 1))) → SpotIs s a.head.rest a.rest x.at (m + 1) new z)
        → ok z ≡ spot_for (terms_of t) s node place key value
    unfolding spot_for
    spot-found enough {z} i =
        let k : Key = f.pair.keyed.key in
        let y : Scalar = f.pair.scalar in
        ap {B = Answer Splice} (λ u. ok u)
        (gaps.spot_is g.value g.plan.fits.valid node site f.array.at place s g.plan.printed k y x (r ahead) (m + 1) new z (i spot-ahead)
        (ap (λ (n : ℕ). n + 1) f.array.counted) (new_is f))
        ∙ sym (rw (steps_pass (terms_of t) s node place key value g.value site k y enough))

-- ---- what that spot leads to

-- no refusal before 14: rewriting writes the bytes, "the old ones with three changes", for an array's head stands at the spot, tokens fill the source around
-- it and the gap, and no reference rises by more than one
pub record Located (terms : Terms) (s : List ℕ) (node place : ℕ) (key value : List ℕ) (p : Splice) : Type 0 where
  pub stands : stands (length s) p ≡ true
  pub parted : Parted s p
  pub by_one : p.renumbering.up ≤ 1
  pub short : length s ≤ source_limit
  pub bytes : (room : ℕ) → insert_bytes terms room s node place key value ≡ with_room room (spliced_text s key value p)

module _ (terms : Terms) (s : List ℕ) (node place : ℕ) (key value : List ℕ) where
  leads : (i : Insertion) → insertion_of terms s node place key value ≡ ok i → Located terms s node place key value (splice_of place i)
  unfolding insert_bytes
  leads i d =
      let pair = (passes terms s node place key value i d).level.fresh.pair in
      let array = pair.spot.array in
      let was = array.was in
      let e : Splices s (splice_of place i) =
      gaps.splices i.plan was.fits.valid node i.site array.at place s was.printed i.key i.value in
      record {
        stands = head-stands e;
        parted = e.parted;
        by_one = omega arith;
        short = omega (arith, was.fits.valid.short, ap length was.printed);
        bytes = λ room.
            rw d
            (ap (with_room room) (gaps.written_is i.plan node i.site array.at place i.key i.value key value pair.key-is
            pair.value-is ∙ sym (spliced_is e key value)));
      }

  pub spot-leads : (p : Splice) → spot_for terms s node place key value ≡ ok p → Located terms s node place key value p
  unfolding spot_for
  spot-leads p e =
      let a = bind_ok (insertion_of terms s node place key value) _ p e in
      subst (Located terms s node place key value) (ok_same a.2) (leads a.0 a.1)
