-- What reading accepts is the print of a syntax that fits. Assumes nothing.
use mathlib.Core.Path.{◌≡◌, ap, ◌∙◌}
use mathlib.Core.List.{List, [], ◌∷◌}
use mathlib.Core.Bool.{Bool, true, false}
use Prim.Native.Nat.{ℕ}
use lib.Dec.{T}
use Rattle.format.specs.Bytes.{byte, bytes}
use Rattle.format.specs.Kind.{key_kinds, tag}
use Rattle.format.specs.Tree.{leaf, ref, branch, none, pair, count}
use Rattle.format.specs.Syntax.{array, object, Key, Container, ref_kind, Value, Values, write_number, write_key, write_container}
use Rattle.format.specs.Syntax.{write, write_pairs}
use Rattle.format.specs.Limits.{Terms, Seen}
use Rattle.format.specs.Fits.{KeyFits, allowed, Sound, SoundIn, Limited, LimitedIn, IsPlan}
use Rattle.format.specs.Canonical.{shortest}
use Rattle.format.specs.Answer.{ok}
use Rattle.format.specs.Read.{plan_form, setting, is_array, read_key, read_value, read}
use Rattle.format.proofs.Forms.{WritesKey, Writing, WritingIn, Fresh, FreshIn, key_got, value_got, accepted-fits}
use Rattle.format.proofs.PlanForm.{plan-steady}
use Rattle.format.proofs.Texts.{tag-ok, expect-ok, scalar_text-ok, head_ok, named_ok, key-kind, key_text-ok, key-allowed}

-- ---- a writing in the plan's form is a print

pub record GotKey (c : Container) (s : List ℕ) (q : Key × List ℕ) : Type 0 where
  pub text : s ≡ write_key q.0 q.1
  pub fits : KeyFits q.0
  allow : T (allowed c q.0)

key-text : (c : Container) (k : Key) (s r : List ℕ) → WritesKey plan_form (is_array c) k s r → GotKey c s (k, r)
key-text c k s r w =
    let among = w.tagged 0 in
    let t = key_text-ok (is_array c) w.kind 0 w.rest (k, r) (key-kind c 0 s (w.kind, w.rest) among) (w.text 0) in
    record {
      text = (tag-ok (key_kinds (is_array c)) 4 0 s (w.kind, w.rest) among).text ∙ t.text;
      fits = t.fits;
      allow = key-allowed c 0 s (w.kind, w.rest) k r among t.text;
    }

pub record Got (v : Value) (s r : List ℕ) : Type 0 where
  pub text : s ≡ write v r
  pub sound : Sound v
  limited : Limited v

record GotPairs (c : Container) (earlier : List Key) (ps : Values) (s r : List ℕ) : Type 0 where
  text : s ≡ write_pairs ps r
  sound : SoundIn c earlier ps
  limited : LimitedIn ps

mutual
  unfolding write

  value-text : (v : Value) (s r : List ℕ) → Writing plan_form v s r → Fresh v → Got v s r
  value-text (leaf x) s r w f =
      let g = scalar_text-ok w.kind 0 w.rest (x, r) (w.text 0) in
      record { text = w.here ∙ g.text; sound = g.fits; limited = tt }
  value-text (ref n) s r w f =
      let g = named_ok 0 w.rest ((n.spelling, n.named), r) (w.text 0) in
      record { text = w.here ∙ ap {B = List ℕ} (λ x. tag (ref_kind n.kind) ∷ x) g.text; sound = tt; limited = g.fits }
  value-text (branch h ps) s r w f =
      let c : Container = h.container in
      let g = head_ok (is_array c) 0 w.2.rest ((c, (h.spelling, count ps)), w.0) (w.2.text 0) in
      let p = pairs-text c [] ps w.0 w.1 w.3 f in
      record {
        text = w.2.here ∙ g.text
            ∙ ap (λ (x : List ℕ). write_container c (write_number h.spelling (count ps) (byte ":" ∷ byte "{" ∷ x)))
            (p.text ∙ ap (write_pairs ps) (expect-ok 0 (bytes "}") w.1 r (w.4 0)));
        sound = (g.fits, p.sound);
        limited = (g.few, p.limited);
      }

  pairs-text : (c : Container) (earlier : List Key) (ps : Values) (s r : List ℕ) → WritingIn plan_form (is_array c) ps s r → FreshIn earlier ps
      → GotPairs c earlier ps s r
  pairs-text c earlier none s r w f = record { text = w; sound = tt; limited = tt }
  pairs-text c earlier (pair k v ps) s r w f =
      let gk = key-text c k s w.0 w.2 in
      let gv = value-text v w.0 w.1 w.3 f.1 in
      let gp = pairs-text c (k ∷ earlier) ps w.1 r w.4 f.2 in
      record {
        text = gk.text ∙ ap (write_key k) (gv.text ∙ ap (write v) gp.text);
        sound = (gk.fits, gk.allow, f.0, gv.sound, gp.sound);
        limited = (gv.limited, gp.limited);
      }

-- ---- what was read of a key or a value is what was written
module _ (terms : Terms) (source : List ℕ) where
  pub key-ok : (c : Container) (earlier : List Key) (before : ℕ) (s : List ℕ) (q : Key × List ℕ)
      → read_key (setting terms source) (is_array c) earlier before s ≡ ok q → GotKey c s q
  key-ok c earlier before s q e = key-text c q.0 s q.1 (key_got (setting terms source) plan-steady (is_array c) earlier before s q e).written

  pub value-ok : (d : ℕ) (seen : Seen) (before : ℕ) (s : List ℕ) (q : Value × List ℕ) → read_value (setting terms source) d seen before s ≡ ok q
      → Got q.0 s q.1
  value-ok d seen before s q e =
      let g = value_got (setting terms source) plan-steady d seen before s q e in
      value-text q.0 s q.1 g.written g.fresh

  pub key-written : (of_array : Bool) (earlier : List Key) (before : ℕ) (s : List ℕ) (q : Key × List ℕ)
      → read_key (setting terms source) of_array earlier before s ≡ ok q → s ≡ write_key q.0 q.1
  key-written true earlier before s q e = (key-ok array earlier before s q e).text
  key-written false earlier before s q e = (key-ok (object (record { spelling = shortest; text = [] })) earlier before s q e).text

  pub value_written : (d : ℕ) (seen : Seen) (before : ℕ) (s : List ℕ) (q : Value × List ℕ) → read_value (setting terms source) d seen before s ≡ ok q
      → s ≡ write q.0 q.1
  value_written d seen before s q e = (value-ok d seen before s q e).text

-- WHAT IS ACCEPTED FITS: it is the print of what was read.
pub read_ok : (terms : Terms) (source : List ℕ) (v : Value) → read terms source ≡ ok v → IsPlan terms source v
read_ok terms source v e =
    let f = accepted-fits plan_form terms source v plan-steady e in
    let g = value-text v source [] f.written f.fresh in
    record {
      printed = g.text;
      fits = record {
        valid = record { short = rw g.text at f.short; shallow = f.shallow; backward = f.backward; sound = g.sound; limited = g.limited };
        small = f.small;
      };
    }
