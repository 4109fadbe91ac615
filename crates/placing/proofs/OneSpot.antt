-- One spot and no other: a wrong ordinal that leads to the same bytes does not meet the promise. Assumes nothing.
use Rattle.std.proofs.Common.{ℕ, Ok}
use native.Mathlib.Omega.{arith}
use mathlib.Core.Path.{◌≡◌, refl, ap, ◌∙◌}
use Rattle.decimal.specs.Digits.{decimal, decimal_in}
use Rattle.format.specs.Bytes.{bytes}
use Rattle.format.specs.Syntax.{write}
use Rattle.format.specs.Limits.{Terms}
use Rattle.format.specs.Answer.{ok}
use Rattle.format.specs.Read.{digits, number, int_text, scalar_text, count_text, head_text, key_text, read_key, read_branch, read_scalar, read_body, read_in}
use Rattle.format.specs.Writing.{key_of, scalar_of, insertion_of}
use Rattle.format.proofs.Answers.{ok_same}
use Rattle.tokens.specs.Tokens.{read_token, token_behind}
use Rattle.tokens.specs.Between.{tokens_between}
use Rattle.rewriting.specs.declared.splice.Splice.{Splice}
use Rattle.rewriting.specs.Rewriting.{raising}
use Rattle.rewriting.specs.Edited.{spliced_text}
use Rattle.placing.specs.Locating.{placing_answer, spot_for}

abbrev spot : (ordinal : ℕ) → Splice
spot n = record { at = 0; inside = 5; from = 5; to = 5; count = 1; renumbering = raising n }

-- into `a:0:{}`, whose new value has ordinal 2
abbrev pub three_nodes : Terms
three_nodes = record { capacity = 3 }

pub empty-array : spot_for three_nodes (bytes "a:0:{}") 0 0 (bytes "i:0;") (bytes "N;") ≡ ok (spot 2)
unfolding spot_for insertion_of key_of scalar_of read_in read_body read_scalar read_branch read_key key_text head_text count_text scalar_text digits number int_text decimal decimal_in write
empty-array = refl

-- no reference stands there, so every ordinal gives the same bytes
pub same_bytes : spliced_text (bytes "a:0:{}") (bytes "i:0;") (bytes "N;") (spot 999) ≡ spliced_text (bytes "a:0:{}") (bytes "i:0;") (bytes "N;") (spot 2)
unfolding tokens_between read_token token_behind
same_bytes = refl

pub no_other : (p : Splice) → placing_answer (Ok p) ≡ spot_for three_nodes (bytes "a:0:{}") 0 0 (bytes "i:0;") (bytes "N;") → p.renumbering.from ≡ 999 → ⊥
no_other p e f = omega (arith, f, ap (λ (q : Splice). q.renumbering.from) (ok_same (e ∙ empty-array)))
