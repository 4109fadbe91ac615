-- Laws of words stored in the table, and of the nodes that ordinals name. Assumes nothing.
use Rattle.std.proofs.Common.{◌≡◌, ℕ, zero, suc, ◌+◌, ◌*◌, ◌<◌, ◌≤◌, Bool, true, false, T, List, [], ◌∷◌, ◌++◌, length, get_or, set, sym, refl, ap}
use Rattle.std.proofs.Common.{◌∙◌, subst, add-zero, add-suc, suc-add, arith, length-append, get_or-set_other, get_or-set_same, set-set}
use Rattle.std.specs.Prelude.{Option, Some, None, unwrap_or}
use lib.Seq.{sets, set_comm, length-sets}
use Rattle.decimal.proofs.Decide.{Order, below, above, order}
use Rattle.decimal.proofs.Stores.{sets-append}
use Rattle.format.specs.Tree.{one}
use Rattle.format.specs.Table.{width, word_at, ordinal_word, taken}
use Rattle.reader.specs.Nodes.{CarrierIn}
use Rattle.reader.specs.Steps.{Points, KeptBelow}

-- ---- runs of stores

-- a store before a run may come first
set-sets : (vs l : List ℕ) (i j x : ℕ) → i < j → set (sets l j vs) i x ≡ sets (set l i x) j vs
set-sets [] l i j x h = refl
set-sets (v ∷ vs) l i j x h =
    set-sets vs (set l j v) i (suc j) x (omega arith)
    ∙ ap (λ (k : List ℕ). sets k (suc j) vs) (set_comm l j i v x (λ e. omega arith))

-- a node's last word, stored again after the nodes that follow it
pub node-around : (t t₁ t₂ t₃ front ws : List ℕ) (k y x : ℕ) → length front ≡ 5 → t₁ ≡ sets t k (front ++ (y ∷ [])) → t₂ ≡ sets t₁ (k + width) ws
    → t₃ ≡ sets t₂ (k + 5) (x ∷ []) → t₃ ≡ sets t k (front ++ (x ∷ []) ++ ws)
node-around t t₁ t₂ t₃ front ws k y x l e₁ e₂ e₃ =
    e₃
    ∙ ap (λ (u : List ℕ). set u (k + 5) x) e₂
    ∙ set-sets ws t₁ (k + 5) (k + width) x (omega arith)
    ∙ ap (λ (u : List ℕ). sets (set u (k + 5) x) (k + width) ws) (e₁ ∙ sym (sets-append front (y ∷ []) t k (k + 5) (omega arith)))
    ∙ ap (λ (u : List ℕ). sets u (k + width) ws) (set-set (sets t k front) (k + 5) y x ∙ sets-append front (x ∷ []) t k (k + 5) (omega arith))
    ∙ sets-append (front ++ (x ∷ [])) ws t k (k + width) (omega (arith, length-append front (x ∷ [])))

-- words before a run, and in it
sets-before : (ws t : List ℕ) (k i : ℕ) → i < k → get_or (sets t k ws) i 0 ≡ get_or t i 0
sets-before [] t k i h = refl
sets-before (w ∷ ws) t k i h = sets-before ws (set t k w) (suc k) i (omega arith) ∙ get_or-set_other t k i w 0 (λ e. omega arith)

sets-at : (ws t : List ℕ) (k j : ℕ) → j < length ws → k + length ws ≤ length t → get_or (sets t k ws) (k + j) 0 ≡ get_or ws j 0
sets-at [] t k j h l = absurd (omega arith)
sets-at (w ∷ ws) t k zero h l =
    ap (λ (i : ℕ). get_or (sets (set t k w) (suc k) ws) i 0) (add-zero k) ∙ sets-before ws (set t k w) (suc k) k (omega arith)
    ∙ get_or-set_same t k w 0 (omega arith)
sets-at (w ∷ ws) t k (suc j) h l =
    ap (λ (i : ℕ). get_or (sets (set t k w) (suc k) ws) i 0) (add-suc k j ∙ sym (suc-add k j))
    ∙ sets-at ws (set t k w) (suc k) j (omega arith) (omega (arith, length-sets t k (w ∷ [])))

pub run_kept : (t t' ws : List ℕ) (node : ℕ) → t' ≡ sets t (node * width) ws → KeptBelow t t' node
run_kept t t' ws node e i h = ap (λ (u : List ℕ). get_or u i 0) e ∙ sets-before ws t (node * width) i h

pub run_word : (t t' ws : List ℕ) (node j : ℕ) → t' ≡ sets t (node * width) ws → j < length ws → node * width + length ws ≤ length t
    → word_at t' node j ≡ get_or ws j 0
run_word t t' ws node j e h l = ap (λ (u : List ℕ). get_or u (node * width + j) 0) e ∙ sets-at ws t (node * width) j h l

-- ---- ordinals

pub points_none : (to : ℕ → ℕ) (t : List ℕ) → Points to t 0 0
points_none to t = record { below = λ i h. absurd (omega arith); found = λ n a b. absurd (omega arith); only = λ n i a h e. absurd (omega arith) }

pub points_keep : (to : ℕ → ℕ) (t t' : List ℕ) (node ordinal : ℕ) → Points to t node ordinal
    → ((i : ℕ) → i < node → word_at t' i ordinal_word ≡ word_at t i ordinal_word)
    → Points to t' node ordinal
points_keep to t t' node ordinal p k =
    record {
      below = λ i h. omega (arith, p.below i h, k i h);
      found = λ n a b. let q = p.found n a b in (q.0, k (to n) q.0 ∙ q.1);
      only = λ n i a h e. p.only n i a h (sym (k i h) ∙ e);
    }

-- the nodes before one are as they were
pub points_kept : (to : ℕ → ℕ) (t t' : List ℕ) (node ordinal : ℕ) → Points to t node ordinal → KeptBelow t t' node → Points to t' node ordinal
points_kept to t t' node ordinal p k = points_keep to t t' node ordinal p (λ i h. k (i * width + 1) (omega arith))

module _ (to : ℕ → ℕ) (t : List ℕ) (node ordinal : ℕ) (p : Points to t node ordinal) where
  same : (i : ℕ) → node ≤ i → i < node + 1 → i ≡ node
  same i a b = omega arith

  here : (i : ℕ) → node ≤ i → i < node + 1 → word_at t i ordinal_word ≡ word_at t node ordinal_word
  here i a b = ap (λ (x : ℕ). word_at t x ordinal_word) (same i a b)

  -- a node that takes the next ordinal
  pub points_step : word_at t node ordinal_word ≡ ordinal + 1 → to (suc ordinal) ≡ node → Points to t (node + 1) (ordinal + 1)
  points_step w e =
      record {
        below = λ i h. go-below i (order i node) h;
        found = λ n a b. go-found n a b (order n (ordinal + 1));
        only = λ n i a h q. go-only n i a h q (order i node);
      }
    where
      last : (n : ℕ) → ordinal + 1 ≤ n → n ≤ ordinal + 1 → n ≡ suc ordinal
      last n a b = omega arith

      go-below : (i : ℕ) → Order i node → i < node + 1 → word_at t i ordinal_word ≤ ordinal + 1
      go-below i (below l) h = omega (arith, p.below i l)
      go-below i (above l) h = omega (arith, w, here i l h)

      go-found : (n : ℕ) → 1 ≤ n → n ≤ ordinal + 1 → Order n (ordinal + 1) → (to n < node + 1) × (word_at t (to n) ordinal_word ≡ n)
      go-found n a b (below l) = let q = p.found n a (omega arith) in (omega (arith, q.0), q.1)
      go-found n a b (above l) =
          let q : to n ≡ node = ap to (last n l b) ∙ e in
          (omega arith, ap (λ (x : ℕ). word_at t x ordinal_word) q ∙ w ∙ omega arith)

      go-only : (n i : ℕ) → 1 ≤ n → i < node + 1 → word_at t i ordinal_word ≡ n → Order i node → i ≡ to n
      go-only n i a h q (below l) = p.only n i a l q
      go-only n i a h q (above l) =
          let z : n ≡ suc ordinal = sym q ∙ here i l h ∙ w ∙ omega arith in
          same i l h ∙ sym e ∙ ap to (sym z)

  -- a node that takes none
  pub points_skip : word_at t node ordinal_word ≡ 0 → Points to t (node + 1) ordinal
  points_skip w =
      record {
        below = λ i h. go-below i (order i node) h;
        found = λ n a b. let q = p.found n a b in (omega (arith, q.0), q.1);
        only = λ n i a h q. go-only n i a h q (order i node);
      }
    where
      go-below : (i : ℕ) → Order i node → i < node + 1 → word_at t i ordinal_word ≤ ordinal
      go-below i (below l) h = p.below i l
      go-below i (above l) h = omega (arith, w, here i l h)

      go-only : (n i : ℕ) → 1 ≤ n → i < node + 1 → word_at t i ordinal_word ≡ n → Order i node → i ≡ to n
      go-only n i a h q (below l) = p.only n i a l q
      go-only n i a h q (above l) = absurd (omega (arith, w, q, here i l h))

  -- either
  pub points_add : (own : Bool) → word_at t node ordinal_word ≡ taken own (ordinal + 1) → (T own → to (suc ordinal) ≡ node)
      → Points to t (node + 1) (ordinal + one own)
  points_add true w e = points_step w (e tt)
  points_add false w e = subst (Points to t (node + 1)) (sym (add-zero ordinal)) (points_skip w)

  -- the node found for an ordinal is the one that took it
  pub link-is : (n : ℕ) (r : Option ℕ) → CarrierIn t 0 node n r → 1 ≤ n → n ≤ ordinal → unwrap_or r node ≡ to n
  link-is n (Some i) f a b = p.only n i a f.found.0 f.found.1
  link-is n None f a b = let q = p.found n a b in absurd (f.none (to n) (omega arith) q.0 q.1)
