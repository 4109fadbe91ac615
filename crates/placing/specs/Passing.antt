-- Passing over tokens of a plan that was read.
use Rattle.std.specs.Prelude.{◌≡◌, List, ◌∷◌, Bool, ◌&&◌, ◌||◌, ℕ, ◌+◌, ◌≤◌, ltb, eqb, length, drop}
use Rattle.format.specs.Bytes.{byte}
use Rattle.tokens.specs.Tokens.{Token, write_tokens, AllFit, nodes_of, opened, closed}
use Rattle.placing.specs.declared.pass.Passed.{Passed}

-- a node is left, or the closing brace of what was opened on the way
abbrev pub goes_on : (next left opened closed : ℕ) → Bool
goes_on b left o c = ltb 0 left || (ltb c o && eqb b (byte "}"))

-- the tokens of so many nodes stand ahead, with the closing braces behind them of all that they opened, or with something else than a brace behind
pub record Ahead (s : List ℕ) (from nodes : ℕ) : Type 0 where
  pub tokens : List Token
  pub fit : AllFit tokens
  pub rest : List ℕ
  pub text : drop from s ≡ write_tokens tokens rest
  pub counted : nodes_of tokens ≡ nodes
  pub around : ℕ
  pub level : opened tokens ≡ closed tokens + around
  pub stops : (r : List ℕ) → rest ≡ byte "}" ∷ r → around ≡ 0
  pub inside : from ≤ length s

pub record Reached (s rest : List ℕ) (around : ℕ) (r : Passed) : Type 0 where
  pub here : drop r.at s ≡ rest
  pub inside : r.at ≤ length s
  pub still : r.around ≡ around
