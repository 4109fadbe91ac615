-- Demand 3, from bytes to bytes: what an insertion that is not refused writes, and what that means. Assumes nothing.
use mathlib.Core.Path.{◌≡◌, refl, ap, ◌∙◌, subst}
use mathlib.Core.List.{List, [], ◌∷◌, ◌++◌}
use mathlib.Core.Bool.{not}
use Prim.Native.Nat.{ℕ, suc, ◌+◌, ◌-◌, ◌≤◌, ◌<◌}
use native.Mathlib.Omega.{arith}
use lib.Dec.{T, leb, leb→le}
use lib.ListN.{length, get_or}
use Rattle.decimal.proofs.Decide.{and_left, and_right}
use Rattle.format.specs.Tree.{TreePath, count, nodes, ordinals, paths}
use Rattle.format.specs.Syntax.{Key, Scalar, Value, own, write_key, write_scalar, print}
use Rattle.format.specs.Keys.{key_meaning, has_key}
use Rattle.format.specs.Limits.{source_limit, Terms}
use Rattle.format.specs.Fits.{KeyFits, ScalarFits, Valid, IsPlan}
use Rattle.format.specs.Answer.{ok, require}
use Rattle.format.specs.Meaning.{scalar_meaning, Meaning, meaning, Means}
use Rattle.format.specs.Table.{table_of}
use Rattle.format.specs.Shows.{follow}
use Rattle.format.specs.Edit.{keys, new_ordinal, insert}
use Rattle.format.specs.Writing.{Site, fits_in, insertion_of, insert_bytes}
use Rattle.format.proofs.Answers.{ok_same, bind_ok, require-ok}
use Rattle.format.proofs.Unique.{one-meaning}
use Rattle.insertion.specs.Shift.{shift, insert_meaning}
use Rattle.insertion.specs.Ways.{WayTo}
use Rattle.insertion.proofs.SiteRows.{site-followed}
use Rattle.insertion.proofs.Meanings.{meaning-insert, new-number, lower-numbers, higher-numbers}
use Rattle.insertion.proofs.Kept.{nodes-insert, ordinals-insert, insert-valid}
use Rattle.insertion.proofs.Steps.{passes, new-key}

-- the new value's number, and what becomes of the old ones: number t belongs to entry t - 1 of the paths
pub record Numbered (a : TreePath) (p : ℕ) (old new : Value) : Type 0 where
  -- "The new value has number k"
  pub newest : get_or (paths own new) (new_ordinal a p old - 1) [] ≡ a ++ (p ∷ [])
  pub lower : (t : ℕ) → 1 ≤ t → t < new_ordinal a p old → get_or (paths own new) (t - 1) [] ≡ shift a p (get_or (paths own old) (t - 1) [])
  -- "old numbers from k on are one higher"
  pub higher : (t : ℕ) → new_ordinal a p old ≤ t → get_or (paths own new) t [] ≡ shift a p (get_or (paths own old) (t - 1) [])

pub record Inserted (terms : Terms) (room : ℕ) (source : List ℕ) (node place : ℕ) (key value bytes : List ℕ) : Type 0 where
  pub old : Value
  pub site : Site
  pub k : Key
  pub x : Scalar
  pub was : IsPlan terms source old
  -- the array at the node; its path leads there through the table
  pub at : WayTo old node site.path site.pairs
  pub followed : follow (table_of old) 0 site.path ≡ node
  pub within : place ≤ count site.pairs
  -- "Both go in as they stand."
  pub key-is : key ≡ write_key k []
  pub key_fits : KeyFits k
  pub value-is : value ≡ write_scalar x []
  pub value-fits : ScalarFits x
  pub text : bytes ≡ print (insert site.path place k x old)
  pub plan : IsPlan terms bytes (insert site.path place k x old)
  -- "Demand 3 stands over demand 2's meaning"
  pub means : (m : Meaning) → Means source m → Means bytes (insert_meaning site.path place (key_meaning k) (scalar_meaning x) m)
  pub numbered : Numbered site.path place old (insert site.path place k x old)
  -- "Fresh reading … returns two nodes and one number more."
  pub nodes-more : nodes (insert site.path place k x old) ≡ nodes old + 2
  pub ordinals-more : ordinals own (insert site.path place k x old) ≡ suc (ordinals own old)
  pub short : length bytes ≤ room

means-more : (source bytes : List ℕ) (v w : Value) (f : Meaning → Meaning) → Valid v → source ≡ print v → Valid w → bytes ≡ print w → meaning w ≡ f (meaning v)
    → (m : Meaning) → Means source m → Means bytes (f m)
means-more source bytes v w f a s b t e m n =
    let same : meaning v ≡ m = one-meaning source (meaning v) m (record { syntax = v; valid = a; printed = s; is = refl }) n in
    record { syntax = w; valid = b; printed = t; is = e ∙ ap f same }

pub inserted : (terms : Terms) (room : ℕ) (source : List ℕ) (node place : ℕ) (key value bytes : List ℕ)
    → insert_bytes terms room source node place key value ≡ ok bytes → Inserted terms room source node place key value bytes
unfolding insert_bytes
inserted terms room source node place key value bytes e =
    let a = bind_ok (insertion_of terms source node place key value) _ bytes e in
    let v : Value = a.0.plan in
    let s : Site = a.0.site in
    let k : Key = a.0.key in
    let x : Scalar = a.0.value in
    let w : Value = insert s.path place k x v in
    let b = bind_ok (require (fits_in room (length (print w))) 14 0) _ bytes a.2 in
    let enough = passes terms source node place key value a.0 a.1 in
    let pair = enough.level.fresh.pair in
    let was = pair.spot.array.was in
    let way = pair.spot.array.at in
    let within : place ≤ count s.pairs = pair.spot.within in
    let new : T (not (has_key k (keys s.pairs))) = new-key terms source node place key value enough.level.fresh in
    let fits : T (fits_in room (length (print w))) = require-ok (fits_in room (length (print w))) 14 0 b.0 b.1 in
    let short : length (print w) ≤ room = leb→le (length (print w)) room (and_left (leb (length (print w)) room) (leb (length (print w)) source_limit) fits) in
    let limit : length (print w) ≤ source_limit =
    leb→le (length (print w)) source_limit (and_right (leb (length (print w)) room) (leb (length (print w)) source_limit) fits) in
    let valid : Valid w = insert-valid way place within k x pair.key_fits pair.value-fits new enough.level.shallow limit was.fits.valid in
    let more : nodes w ≡ nodes v + 2 = nodes-insert way place within k x in
    subst (Inserted terms room source node place key value) (ok_same b.2) (record {
      old = v;
      site = s;
      k = k;
      x = x;
      was = was;
      at = way;
      followed = site-followed v node s way;
      within = within;
      key-is = pair.key-is;
      key_fits = pair.key_fits;
      value-is = pair.value-is;
      value-fits = pair.value-fits;
      text = refl;
      plan = record { printed = refl; fits = record { valid = valid; small = omega (arith, enough.small) } };
      means =
          means-more source (print w) v w (insert_meaning s.path place (key_meaning k) (scalar_meaning x)) was.fits.valid was.printed valid refl
          (meaning-insert way place within k x was.fits.valid);
      numbered = record { newest = new-number way place within k x; lower = lower-numbers way place within k x; higher = higher-numbers way place within k x };
      nodes-more = more;
      ordinals-more = ordinals-insert way place within k x;
      short = short;
    })
