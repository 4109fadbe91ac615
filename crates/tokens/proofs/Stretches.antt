-- The tokens between two indices: they are what stands there. Assumes nothing.
use Prim.Native.Nat.{ℕ, zero, suc, ◌≤◌, ◌<◌}
use native.Mathlib.Omega.{arith}
use mathlib.Core.Path.{◌≡◌, refl, sym, ap, ◌∙◌}
use mathlib.Core.Bool.{Bool, true, false}
use mathlib.Core.List.{List, [], ◌∷◌}
use lib.Dec.{ltb}
use lib.ListN.{length, drop, length-drop}
use borrow.Author.Tests.{lt-ltb, le-ltb}
use Rattle.decimal.proofs.Decide.{Order, below, above, order}
use Rattle.format.specs.Answer.{Answer, ok, refused}
use Rattle.tokens.specs.Tokens.{Token, read_token, write_token, write_tokens, AllFit}
use Rattle.tokens.specs.Between.{tokens_up_to, next_of, tokens_between, Stretch}
use Rattle.tokens.proofs.TokenLaws.{token-printed, token_longer, tokens_longer}
use Rattle.tokens.proofs.TokenRead.{token-read}

-- ---- one step

-- by whether more bytes are left
abbrev step : (n behind : ℕ) (s : List ℕ) (b : Bool) → List Token
step n behind s b = elim b [
  | true ↦ next_of (tokens_up_to n behind) (read_token 0 s)
  | false ↦ []
]

-- a token is left
pub upto-more : (n behind : ℕ) (s : List ℕ) (t : Token) (r : List ℕ) → behind < length s → read_token 0 s ≡ ok (t, r)
    → tokens_up_to (suc n) behind s ≡ t ∷ tokens_up_to n behind r
upto-more n behind s t r h e = ap (step n behind s) (lt-ltb behind (length s) h) ∙ ap (next_of (tokens_up_to n behind)) e

pub upto-end : (n behind : ℕ) (s : List ℕ) → length s ≤ behind → tokens_up_to n behind s ≡ []
upto-end zero behind s h = refl
upto-end (suc n) behind s h = ap (step n behind s) (le-ltb behind (length s) h)

-- none is
pub upto-unfit : (n behind : ℕ) (s : List ℕ) (c l : ℕ) → read_token 0 s ≡ refused c l → tokens_up_to n behind s ≡ []
upto-unfit zero behind s c l e = refl
upto-unfit (suc n) behind s c l e = by (order behind (length s))
  where
    by : Order behind (length s) → tokens_up_to (suc n) behind s ≡ []
    by (below h) = ap (step n behind s) (lt-ltb behind (length s) h) ∙ ap (next_of (tokens_up_to n behind)) e
    by (above h) = upto-end (suc n) behind s h

-- ---- more steps than bytes change nothing

next-same : (f g : List ℕ → List Token) (s : List ℕ) (a : Answer (Token × List ℕ)) → read_token 0 s ≡ a → ((r : List ℕ) → length r < length s → f r ≡ g r)
    → next_of f a ≡ next_of g a
next-same f g s (ok (t, r)) e h =
    let g₁ = token-read 0 s (t, r) e in
    ap {B = List Token} (λ ts. t ∷ ts) (h r (omega (arith, ap length g₁.0, token_longer t r)))
next-same f g s (refused c at) e h = refl

steps_same : (m n behind : ℕ) (s : List ℕ) → length s ≤ m → length s ≤ n → tokens_up_to m behind s ≡ tokens_up_to n behind s
steps_same zero n behind s h k = sym (upto-end n behind s (omega arith))
steps_same (suc m) zero behind s h k = upto-end (suc m) behind s (omega arith)
steps_same (suc m) (suc n) behind s h k = by (ltb behind (length s))
    (next-same (tokens_up_to m behind) (tokens_up_to n behind) s (read_token 0 s) refl (λ r i. steps_same m n behind r (omega arith) (omega arith)))
  where
    by : (b : Bool) → step m behind s true ≡ step n behind s true → step m behind s b ≡ step n behind s b
    by true e = e
    by false e = refl

module _ (s : List ℕ) (at to : ℕ) where
  pub between_more : (t : Token) (next : ℕ) → at < to → at < length s → read_token 0 (drop at s) ≡ ok (t, drop next s)
      → tokens_between s at to ≡ t ∷ tokens_between s next to
  unfolding tokens_between
  between_more t next h i e =
      let b : ℕ = length (drop to s) in
      steps_same (length s) (suc (length s)) b (drop at s) (omega (arith, length-drop at s)) (omega (arith, length-drop at s))
      ∙ upto-more (length s) b (drop at s) t (drop next s) (omega (arith, length-drop at s, length-drop to s)) e

  pub between-end : to ≤ at → tokens_between s at to ≡ []
  unfolding tokens_between
  between-end h = upto-end (length s) (length (drop to s)) (drop at s) (omega (arith, length-drop at s, length-drop to s))

  pub between-outside : length s ≤ at → tokens_between s at to ≡ []
  unfolding tokens_between
  between-outside h = upto-end (length s) (length (drop to s)) (drop at s) (omega (arith, length-drop at s))

  pub between-unfit : (c l : ℕ) → read_token 0 (drop at s) ≡ refused c l → tokens_between s at to ≡ []
  unfolding tokens_between
  between-unfit c l e = upto-unfit (length s) (length (drop to s)) (drop at s) c l e

-- ---- a stretch

upto_all : (n : ℕ) (ts : List Token) (r : List ℕ) → AllFit ts → length (write_tokens ts r) ≤ n → tokens_up_to n (length r) (write_tokens ts r) ≡ ts
upto_all n [] r f h = upto-end n (length r) r (omega arith)
upto_all zero (t ∷ ts) r f h = absurd (omega (arith, h, token_longer t (write_tokens ts r)))
upto_all (suc n) (t ∷ ts) r f h =
    upto-more n (length r) (write_tokens (t ∷ ts) r) t (write_tokens ts r) (omega (arith, token_longer t (write_tokens ts r), tokens_longer ts r))
    (token-printed 0 t (write_tokens ts r) f.0)
    ∙ ap {B = List Token} (λ us. t ∷ us) (upto_all n ts r f.1 (omega (arith, h, token_longer t (write_tokens ts r))))

-- TOKENS THAT FILL THE BYTES ARE THOSE BETWEEN
pub between_stretch : {s : List ℕ} {from to : ℕ} (g : Stretch s from to) → tokens_between s from to ≡ g.tokens
unfolding tokens_between
between_stretch {s} {from} {to} g =
    ap (tokens_up_to (length s) (length (drop to s))) g.text
    ∙ upto_all (length s) g.tokens (drop to s) g.fit (omega (arith, sym (ap length g.text), length-drop from s))

-- ---- any bytes

pub record Prefix (s : List ℕ) (ts : List Token) : Type 0 where
  pub fit : AllFit ts
  pub rest : List ℕ
  pub text : s ≡ write_tokens ts rest

next-prefix : (more : List ℕ → List Token) → ((s : List ℕ) → Prefix s (more s)) → (s : List ℕ) (a : Answer (Token × List ℕ)) → read_token 0 s ≡ a
    → Prefix s (next_of more a)
next-prefix more m s (ok (t, r)) e =
    let g = token-read 0 s (t, r) e in
    let p = m r in
    record { fit = (g.1, p.fit); rest = p.rest; text = g.0 ∙ ap (write_token t) p.text }
next-prefix more m s (refused c at) e = record { fit = tt; rest = s; text = refl }

upto-prefix : (n behind : ℕ) (s : List ℕ) → Prefix s (tokens_up_to n behind s)
upto-prefix zero behind s = record { fit = tt; rest = s; text = refl }
upto-prefix (suc n) behind s = by (next-prefix (tokens_up_to n behind) (upto-prefix n behind) s (read_token 0 s) refl) (ltb behind (length s))
  where
    by : Prefix s (next_of (tokens_up_to n behind) (read_token 0 s)) → (b : Bool) → Prefix s (step n behind s b)
    by p true = p
    by p false = record { fit = tt; rest = s; text = refl }

pub between-prefix : (s : List ℕ) (from to : ℕ) → Prefix (drop from s) (tokens_between s from to)
unfolding tokens_between
between-prefix s from to = upto-prefix (length s) (length (drop to s)) (drop from s)
