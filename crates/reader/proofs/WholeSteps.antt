-- A whole plan, by the definitions of reading. Assumes nothing.
use Rattle.std.proofs.Common.{◌≡◌, ℕ, ◌+◌, ◌-◌, ◌*◌, ◌/◌, ◌<◌, ◌≤◌, List, ◌++◌, length, Ok, Err, drop, replicate, sym, ap, ◌∙◌, subst, ap₂, zero-add, arith}
use Rattle.std.proofs.Common.{drop_of_length-le, drop-cons, le-leb}
use lib.Seq.{sets-eq}
use borrow.Author.Tests.{lt-leb}
use Rattle.format.specs.Bytes.{is_empty}
use Rattle.format.specs.Tree.{nodes, ordinals}
use Rattle.format.specs.Syntax.{Value, own}
use Rattle.format.specs.Limits.{source_limit, depth_limit}
use Rattle.format.specs.declared.codes.Refusal.{Refusal}
use Rattle.format.specs.Codes.{number_of}
use Rattle.format.specs.Answer.{Answer, ok, refused, ◌>>=◌, require}
use Rattle.format.specs.Read.{read_in, read}
use Rattle.format.specs.Table.{width, flat, table_of, target_of}
use Rattle.format.specs.Reading.{terms_of, answer}
use Rattle.format.proofs.Results.{table_of-length, flat-length, after-accepted, after-refused}
use Rattle.reader.specs.declared.cursor.Cursor.{Cursor}
use Rattle.reader.specs.Promise.{reading_answer, Reads}
use Rattle.reader.specs.Steps.{Step, terms_at, value_at, GoodValue, GoodWhole, Whole}
use Rattle.reader.proofs.Snoc.{takes_whole}
use Rattle.reader.proofs.Stored.{points_none}
use Rattle.reader.proofs.Tagged.{position-is}

-- the cursor at a plan's first byte
abbrev pub start : Cursor
start = record { at = 0; node = 0; ordinal = 0; levels = depth_limit }

module _ (s : List ℕ) (capacity : ℕ) where
  pub whole_long : source_limit < length s → read (terms_at capacity) s ≡ refused 1 0
  unfolding read_in
  whole_long h = rw (lt-leb (length s) source_limit h)

  abbrev ending : Value × List ℕ → Answer Value
  ending q = require (is_empty q.1) 10 (length s - length q.1) >>= λ u. ok q.0

  opened : length s ≤ source_limit → read (terms_at capacity) s ≡ (value_at s capacity start >>= ending)
  unfolding read_in value_at
  opened h = rw (le-leb (length s) source_limit h)

  pub whole_bad : length s ≤ source_limit → (code at : ℕ) → value_at s capacity start ≡ refused code at → read (terms_at capacity) s ≡ refused code at
  whole_bad h code at e = opened h ∙ ap (λ (o : Answer (Value × List ℕ)). o >>= ending) e

  module _ (t t' : List ℕ) (c : Cursor) (h : length s ≤ source_limit) (g : GoodValue s t t' capacity start (value_at s capacity start) c) where
    closed : read (terms_at capacity) s ≡ ending (g.value, drop c.at s)
    closed = opened h ∙ ap (λ (o : Answer (Value × List ℕ)). o >>= ending) g.is

    pub whole-more : c.at < length s → read (terms_at capacity) s ≡ refused 10 c.at
    whole-more l = closed ∙ rw (ap is_empty (drop-cons s c.at 0 l), position-is s c.at g.inside)

    pub whole_good : length s ≤ c.at → GoodWhole s t t' capacity c
    unfolding table_of
    whole_good l =
        record {
          value = g.value;
          is = closed ∙ rw (drop_of_length-le s l);
          node = g.node ∙ zero-add (nodes g.value);
          fits = g.fits;
          ordinal = g.ordinal ∙ zero-add (ordinals own g.value);
          table = (g.wrote.of (target_of g.value) (points_none (target_of g.value) t) (takes_whole g.value)).0;
        }

module _ (s t t₁ t₂ : List ℕ) (r : Step) where
  pub reads-refused : (why : Refusal) → Whole s t t₁ (length t / width) r → r ≡ Err why → t₂ ≡ replicate (length t₁) 0 → length t₁ ≡ length t
      → Reads s t t₂ (Err why)
  unfolding reading_answer answer
  reads-refused why w e k l =
      let q : read (terms_of t) s ≡ refused (number_of why.code) why.at = subst (Whole s t t₁ (length t / width)) e w in
      record {
        answer = sym (rw q);
        table = k ∙ ap (λ (n : ℕ). replicate n 0) l ∙ sym (after-refused (terms_of t) s t (number_of why.code) why.at q);
      }

  pub reads-accepted : (c : Cursor) → Whole s t t₁ (length t / width) r → r ≡ Ok c → Reads s t t₁ (Ok (record { nodes = c.node; ordinals = c.ordinal }))
  unfolding reading_answer answer
  reads-accepted c w e =
      let g : GoodWhole s t t₁ (length t / width) c = subst (Whole s t t₁ (length t / width)) e w in
      record {
        answer = ap₂ (λ (n o : ℕ). ok (record { nodes = n; ordinals = o })) g.node g.ordinal ∙ sym (rw g.is);
        table = g.table ∙ sets-eq (flat (table_of g.value)) t 0 (fits g)
            ∙ ap (λ (n : ℕ). flat (table_of g.value) ++ drop n t) (zero-add (length (flat (table_of g.value))) ∙ long g)
            ∙ sym (after-accepted (terms_of t) s t g.value g.is);
      }
    where
      long : (g : GoodWhole s t t₁ (length t / width) c) → length (flat (table_of g.value)) ≡ nodes g.value * width
      long g = flat-length (table_of g.value) ∙ ap (λ (n : ℕ). n * width) (table_of-length g.value)

      fits : (g : GoodWhole s t t₁ (length t / width) c) → 0 + length (flat (table_of g.value)) ≤ length t
      fits g = omega (arith, long g, g.node, g.fits)
