-- The tokens that stand in any bytes from one index up to another.
use Rattle.std.specs.Prelude.{◌≡◌, List, [], ◌∷◌, true, false, ℕ, zero, suc, ◌≤◌, ltb, length, drop}
use Rattle.format.specs.Answer.{Answer, ok, refused}
use Rattle.tokens.specs.Tokens.{Token, read_token, write_tokens, AllFit}

-- one behind another, as long as more bytes are left than stand behind the end; up to the first that is none. A token has a byte or more,
-- so as many steps as bytes are enough
abbrev pub next_of : (more : List ℕ → List Token) → Answer (Token × List ℕ) → List Token
next_of more (ok (t, s)) = t ∷ more s
next_of more (refused c at) = []

abbrev pub tokens_up_to : (steps behind : ℕ) → List ℕ → List Token
tokens_up_to zero behind s = []
tokens_up_to (suc n) behind s = elim (ltb behind (length s)) [
  | true ↦ next_of (tokens_up_to n behind) (read_token 0 s)
  | false ↦ []
]

unfoldable pub tokens_between : List ℕ → (from to : ℕ) → List Token
tokens_between s from to = tokens_up_to (length s) (length (drop to s)) (drop from s)

-- tokens that fit and fill the bytes from one index up to another
pub record Stretch (s : List ℕ) (from to : ℕ) : Type 0 where
  pub tokens : List Token
  pub fit : AllFit tokens
  pub text : drop from s ≡ write_tokens tokens (drop to s)
  pub inside : to ≤ length s
