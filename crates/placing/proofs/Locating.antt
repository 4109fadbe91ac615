-- From reading to the place. Assumes nothing.
use Prim.Native.Nat.{ℕ}
use mathlib.Core.Path.{◌≡◌, sym, ap, ◌∙◌, subst}
use mathlib.Core.List.{List}
use Rattle.std.specs.Prelude.{Ok, Err}
use Rattle.format.specs.Limits.{Terms}
use Rattle.format.specs.Fits.{IsPlan}
use Rattle.format.specs.Answer.{Answer, refused}
use Rattle.format.specs.declared.codes.Refusal.{Refusal}
use Rattle.format.specs.Codes.{number_of}
use Rattle.format.specs.Reading as reading
use Rattle.format.specs.Reading.{terms_of, cleared}
use Rattle.format.proofs.Inversion.{read_ok}
use Rattle.format.proofs.Results.{after-accepted, after-refused, after-terms}
use Rattle.format.specs.Read.{read}
use Rattle.insertion.proofs.Steps as steps
use Rattle.insertion.proofs.Steps.{row_step}
use Rattle.reader.specs.Promise.{Reads}
use Rattle.reader.specs.declared.Counts.{Counts}
use Rattle.reader.proofs.Promised.{accepted, refusal}
use Rattle.rewriting.specs.declared.splice.Splice.{Splice}
use Rattle.placing.specs.Placing.{Given}
use Rattle.placing.specs.Locating.{spot_for, table_located, Locates}

unread : (s : List ℕ) (terms : Terms) (node place : ℕ) (key value : List ℕ) {c p : ℕ} → read terms s ≡ refused c p
    → spot_for terms s node place key value ≡ refused c p
unfolding spot_for
unread s terms node place key value {c} {p} u = rw (row_step terms s node place key value c p (steps.reading c p u))

-- ---- reading's refusal is inserting's

pub locates-unread : {s t t' : List ℕ} {r : Refusal} (node place : ℕ) (key value : List ℕ) → Reads s t t' (Err r)
    → Locates s node place key value t t' (Err r)
locates-unread {s} {t} {r = r} node place key value reads =
    let u = refusal reads in
    let told : spot_for (terms_of t) s node place key value ≡ refused (number_of r.code) r.at = unread s (terms_of t) node place key value u in
    record {
      answer = sym told;
      table = reads.table ∙ after-refused (terms_of t) s t (number_of r.code) r.at u ∙ ap (λ (a : Answer Splice). table_located (terms_of t) a s t) (sym told);
    }

-- ---- a plan that was read

module _ {s t t' : List ℕ} {c : Counts} (reads : Reads s t t' (Ok c)) where
  same-terms : terms_of t' ≡ terms_of t
  same-terms = ap terms_of reads.table ∙ after-terms s t

  pub given : Given s t' c.nodes
  given =
      let a = accepted reads in
      record {
        value = a.value;
        plan = subst (λ (c : Terms). IsPlan c s a.value) (sym same-terms) (read_ok (terms_of t) s a.value a.read);
        counted = ap (λ (c : reading.Counts). c.nodes) a.counted;
        rest = _;
        table = reads.table ∙ after-accepted (terms_of t) s t a.value a.read;
      }
