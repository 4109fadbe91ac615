-- What reading answers and leaves: the counts are the table's, and the table keeps its length. Assumes nothing.
use mathlib.Core.Path.{◌≡◌, refl, sym, ap, ap₂, ◌∙◌}
use mathlib.Core.List.{List, [], ◌∷◌, ◌++◌}
use Prim.Native.Nat.{ℕ, zero, suc, ◌*◌, ◌/◌, ◌≤◌}
use native.Mathlib.Omega.{arith}
use lib.ListN.{length, drop, replicate, length-append, length-drop, length-replicate}
use Rattle.format.specs.Tree.{nodes, ordinals}
use Rattle.format.specs.Syntax.{Value, own}
use Rattle.format.specs.Limits.{Terms}
use Rattle.format.specs.Answer.{Answer, ok, refused}
use Rattle.format.specs.Read.{read}
use Rattle.format.specs.Table.{Node, width, flat, target_of, table_of}
use Rattle.format.specs.Shows.{ordinals_of, up_from}
use Rattle.format.specs.Reading.{capacity_of, terms_of, answer, over, filled, table_after}
use Rattle.format.proofs.Inversion.{read_ok}
use Rattle.format.proofs.Rows.{table-length}
use Rattle.format.proofs.Ordinals.{ordinals_in_order}

pub table_of-length : (v : Value) → length (table_of v) ≡ nodes v
unfolding table_of
table_of-length v = table-length (target_of v) v 0 0 1

pub flat-length : (ns : List Node) → length (flat ns) ≡ length ns * width
flat-length [] = refl
flat-length (n ∷ ns) = omega (arith, flat-length ns)

-- ---- what stands in the table afterwards

-- "Words after the last node keep what they held": the words of the nodes, then what the table held
pub after-accepted : (terms : Terms) (source t : List ℕ) (v : Value) → read terms source ≡ ok v
    → table_after terms source t ≡ flat (table_of v) ++ drop (nodes v * width) t
unfolding table_after
after-accepted terms source t v e = rw (
  e,
  filled,
) (ap (λ (n : ℕ). flat (table_of v) ++ drop n t) (flat-length (table_of v) ∙ ap (λ (n : ℕ). n * width) (table_of-length v)))

-- "A refusal … makes every word of the table zero"
pub after-refused : (terms : Terms) (source t : List ℕ) (n p : ℕ) → read terms source ≡ refused n p → table_after terms source t ≡ replicate (length t) 0
unfolding table_after
after-refused terms source t n p e = rw (e, filled)

-- ---- the counts

up-length : (n c : ℕ) → length (up_from n c) ≡ c
up-length n zero = refl
up-length n (suc c) = ap suc (up-length (suc n) c)

-- "Reading returns the count of nodes and of numbers taken."
pub answer-counts : (terms : Terms) (source : List ℕ) (v : Value) → read terms source ≡ ok v
    → answer terms source ≡ ok (record { nodes = length (table_of v); ordinals = length (ordinals_of (table_of v)) })
unfolding answer
answer-counts terms source v e =
    rw e (ap₂ (λ (a b : ℕ). ok (record { nodes = a; ordinals = b })) (sym (table_of-length v))
    (sym (ap length (ordinals_in_order v) ∙ up-length 1 (ordinals own v))))

-- ---- the table keeps its length
over-length : (ws t : List ℕ) → length ws ≤ length t → length (over ws t) ≡ length t
over-length ws t h = length-append ws (drop (length ws) t) ∙ omega (arith, length-drop (length ws) t)

filled-length : (terms : Terms) (source t : List ℕ) → terms.capacity ≤ capacity_of t → (a : Answer Value) → read terms source ≡ a
    → length (filled a t) ≡ length t
filled-length terms source t r (ok v) e =
    let small : nodes v ≤ terms.capacity = (read_ok terms source v e).fits.small in
    over-length (flat (table_of v)) t (omega (arith, flat-length (table_of v), table_of-length v))
filled-length terms source t r (refused n p) e = length-replicate (length t) 0

-- a lent slice cannot grow: the nodes of an accepted plan have room in it
pub after-length : (terms : Terms) (source t : List ℕ) → terms.capacity ≤ capacity_of t → length (table_after terms source t) ≡ length t
unfolding table_after
after-length terms source t r = filled-length terms source t r (read terms source) refl

-- so what a service goes by stays
pub after-terms : (source t : List ℕ) → terms_of (table_after (terms_of t) source t) ≡ terms_of t
after-terms source t = ap (λ (n : ℕ). record { capacity = n / width }) (after-length (terms_of t) source t (omega arith))
