-- What follows a value's tag, by the texts that are scanned. Assumes nothing.
use Rattle.std.proofs.Common.{◌≡◌, ℕ, suc, ◌+◌, Bool, true, false, ◌&&◌, eqb, ltb, leb, List, [], length, sym, refl, ap, ◌∙◌, ⊎_elim, true≢false, arith}
use Rattle.format.specs.Bytes.{bytes}
use Rattle.format.specs.Kind.{Kind, tag}
use Rattle.format.specs.Tree.{leaf, ref, branch}
use Rattle.format.specs.Syntax.{null, bool, int, float, string, int_key, string_key, array, object, Spelling, Scalar, Key, Container, RefKind, object_ref}
use Rattle.format.specs.Syntax.{variable_ref, ref_kind, Value, write_number}
use Rattle.format.specs.Limits.{Seen, see_branch}
use Rattle.format.specs.Answer.{Answer, ok, ◌>>=◌, require}
use Rattle.format.specs.Read.{expect, int_text, quoted_text, bool_text, float_text, scalar_text, key_text, Setting, is_array, Inner, read_pairs, read_branch}
use Rattle.format.specs.Read.{read_reference, read_scalar, read_body}
use Rattle.format.specs.Table.{Node, single, key_node, scalar_node, branch_node}
use Rattle.format.proofs.Answers.{ok_same, not_both, bind_ok}
use Rattle.scanner.specs.Scans.{container_told, scalar_told}
use Rattle.bytes_at.proofs.BytesAt.{plus-two}
use Rattle.scanner.proofs.Printed.{scalar_kind}
use Rattle.keys.specs.KeyWords.{key_kind}
use Rattle.reader.specs.Texts.{kind_for, is_array_tag, scalar_tag, container_tag, reference_tag, key_told}
use Rattle.reader.specs.Nodes.{node_of}

-- ---- scalars

pub body-scalar : (set : Setting) (inner : Inner) (b l : ℕ) (seen : Seen) (before : ℕ) (s : List ℕ) → scalar_tag b
    → read_body set inner (kind_for b) l seen before s ≡ (set.form.scalar_text (kind_for b) l s >>= λ q. ok (leaf q.0, q.1))
unfolding read_body read_scalar kind_for
body-scalar set inner b l seen before s o = ⊎_elim (λ e. rw e)
    (λ o. ⊎_elim (λ e. rw e) (λ o. ⊎_elim (λ e. rw e) (λ o. ⊎_elim (λ e. rw e) (λ o. ⊎_elim (λ e. rw e) (λ z. absurd z) o) o) o) o) o

-- what is read behind a tag is of its kind
scalar-kind : (k : Kind) (l : ℕ) (s : List ℕ) (q : Scalar × List ℕ) → scalar_text k l s ≡ ok q → scalar_kind q.0 ≡ k
unfolding scalar_text
scalar-kind Kind.null l s q e = ap (λ (x : Scalar × List ℕ). scalar_kind x.0) (sym (ok_same (bind_ok (expect l (bytes ";") s) _ q e).2))
scalar-kind Kind.bool l s q e = ap (λ (x : Scalar × List ℕ). scalar_kind x.0) (sym (ok_same (bind_ok (bool_text l s) _ q e).2))
scalar-kind Kind.int l s q e = ap (λ (x : Scalar × List ℕ). scalar_kind x.0) (sym (ok_same (bind_ok (int_text l s) _ q e).2))
scalar-kind Kind.float l s q e = ap (λ (x : Scalar × List ℕ). scalar_kind x.0) (sym (ok_same (bind_ok (float_text l s) _ q e).2))
scalar-kind Kind.string l s q e = ap (λ (x : Scalar × List ℕ). scalar_kind x.0) (sym (ok_same (bind_ok (quoted_text l (bytes "\";") s) _ q e).2))
scalar-kind Kind.array l s q e = absurd (not_both e)
scalar-kind Kind.object l s q e = absurd (not_both e)
scalar-kind Kind.object_reference l s q e = absurd (not_both e)
scalar-kind Kind.variable_reference l s q e = absurd (not_both e)

scalar-tag : (b : ℕ) → scalar_tag b → tag (kind_for b) ≡ b
unfolding kind_for
scalar-tag b o = ⊎_elim (λ e. rw e)
    (λ o. ⊎_elim (λ e. rw e) (λ o. ⊎_elim (λ e. rw e) (λ o. ⊎_elim (λ e. rw e) (λ o. ⊎_elim (λ e. rw e) (λ z. absurd z) o) o) o) o) o

-- an offset counts from behind the tag, or from it
from-tag : (o n : ℕ) → o + 4 + n ≡ o + 1 + 3 + n
from-tag o n = omega arith

scalar-told : (o i n next : ℕ) (x : Scalar) → scalar_node o i n x ≡ node_of (tag (scalar_kind x)) n (suc i) (scalar_told (o + 1) x next)
scalar-told o i n next null = refl
scalar-told o i n next (bool b) = refl
scalar-told o i n next (int x) = refl
scalar-told o i n next (float t) = ap (λ (k : ℕ). single Kind.float n k (length t) i) (sym (plus-two o))
scalar-told o i n next (string q) = ap (λ (k : ℕ). single Kind.string n k (length q.text) i)
    (from-tag o (length (write_number q.spelling (length q.text) [])))

-- so its node is the one that its tag and its text tell
pub scalar-node : (b l o i n next : ℕ) (s : List ℕ) (q : Scalar × List ℕ) → scalar_tag b → scalar_text (kind_for b) l s ≡ ok q
    → scalar_node o i n q.0 ≡ node_of b n (suc i) (scalar_told (o + 1) q.0 next)
scalar-node b l o i n next s q t e =
    scalar-told o i n next q.0
    ∙ ap (λ (k : ℕ). node_of k n (suc i) (scalar_told (o + 1) q.0 next)) (ap tag (scalar-kind (kind_for b) l s q e) ∙ scalar-tag b t)

-- ---- keys

pub key-told : (o i next : ℕ) (k : Key) → key_node o i k ≡ node_of (tag (key_kind k)) 0 (suc i) (key_told (o + 1) k next)
key-told o i next (int_key x) = refl
key-told o i next (string_key q) = ap (λ (k : ℕ). single Kind.string 0 k (length q.text) i)
    (from-tag o (length (write_number q.spelling (length q.text) [])))

pub key-of-int : (a : Bool) (l : ℕ) (s : List ℕ) (q : Key × List ℕ) → key_text a Kind.int l s ≡ ok q → key_kind q.0 ≡ Kind.int
unfolding key_text
key-of-int a l s q e = ap (λ (x : Key × List ℕ). key_kind x.0) (sym (ok_same (bind_ok (int_text l s) _ q e).2))

pub key-of-string : (a : Bool) (l : ℕ) (s : List ℕ) (q : Key × List ℕ) → key_text a Kind.string l s ≡ ok q → key_kind q.0 ≡ Kind.string
unfolding key_text
key-of-string a l s q e = ap (λ (x : Key × List ℕ). key_kind x.0) (sym (ok_same (bind_ok (quoted_text l (bytes "\";") s) _ q e).2))

-- ---- containers

-- what follows a container's head
module _ (set : Setting) (inner : Inner) (l : ℕ) (seen : Seen) (before : ℕ) where
  abbrev pub pairs_of : (Container × (Spelling × ℕ)) × List ℕ → Answer (Value × List ℕ)
  pairs_of ((c, (w, n)), s₁) = read_pairs set inner (is_array c) n [] (see_branch seen) (suc before) s₁
      >>= λ q. expect l set.form.close q.1 >>= λ s₂. ok (branch (record { container = c; spelling = w }) q.0, s₂)

  pub body-head : (b : ℕ) (s : List ℕ) → container_tag b
      → read_body set inner (kind_for b) l seen before s ≡ (set.form.head_text (is_array_tag b) l s >>= pairs_of)
  unfolding read_body read_branch kind_for is_array_tag
  body-head b s o = ⊎_elim (λ e. rw e) (λ o. ⊎_elim (λ e. rw e) (λ z. absurd z) o) o

pub head-node : (b o n end next : ℕ) (c : Container) (link : ℕ) → container_tag b → is_array c ≡ is_array_tag b
    → branch_node o n c link end ≡ node_of b n end (container_told (o + 1) c link next)
unfolding is_array_tag
head-node b o n end next array link t e = ⊎_elim (λ q. rw q) (λ t. ⊎_elim (λ q. absurd (true≢false (rw q at e))) (λ z. absurd z) t) t
head-node b o n end next (object q) link t e =
    ⊎_elim (λ p. absurd (true≢false (sym (rw p at e))))
    (λ t. ⊎_elim (λ p. rw p (ap (λ (k : ℕ). named k) (from-tag o (length (write_number q.spelling (length q.text) []))))) (λ z. absurd z) t) t
  where
    named : ℕ → Node
    named k = record { tag = tag Kind.object; ordinal = n; content = k; size = length q.text; link = link; end = end }

-- ---- references

unfoldable pub ref_for : ℕ → RefKind
ref_for b = elim (eqb b (tag Kind.object_reference)) [ true ↦ object_ref | false ↦ variable_ref ]

-- what follows the ordinal that a reference names
abbrev pub resolved : RefKind → (l : ℕ) → Seen → (Spelling × ℕ) × List ℕ → Answer (Value × List ℕ)
resolved k l seen ((w, t), s) = require (ltb 0 t && leb t seen) 6 l >>= λ u. ok (ref (record { kind = k; spelling = w; named = t }), s)

pub body-reference : (set : Setting) (inner : Inner) (b l : ℕ) (seen : Seen) (before : ℕ) (s : List ℕ) → reference_tag b
    → read_body set inner (kind_for b) l seen before s ≡ (set.form.named_text l s >>= resolved (ref_for b) l seen)
unfolding read_body read_reference kind_for ref_for
body-reference set inner b l seen before s o = ⊎_elim (λ e. rw e) (λ o. ⊎_elim (λ e. rw e) (λ z. absurd z) o) o

pub ref-tag : (b : ℕ) → reference_tag b → tag (ref_kind (ref_for b)) ≡ b
unfolding ref_for
ref-tag b o = ⊎_elim (λ e. rw e) (λ o. ⊎_elim (λ e. rw e) (λ z. absurd z) o) o
