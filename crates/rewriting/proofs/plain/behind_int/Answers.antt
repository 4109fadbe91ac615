-- `rewriting::plain::behind_int` meets its contract. Assumes nothing.
use native.Mathlib.Omega.{arith}
use mathlib.Core.Path.{sym, ◌∙◌}
use lib.Dec.{lit<}
use Rattle.format.specs.Bytes.{byte}
use Rattle.bytes_at.proofs.BytesAt.{byte-there}
use Rattle.rewriting.proofs.PlainTokens as plain
use Rattle.rewriting.proofs.plain.behind_int.Goals as goal

pub bounds-source-at-2 : goal.bounds-source-at-2
bounds-source-at-2 c =
    let semicolon = sym c.byte_is-else-digits-gt-SAFE_DIGITS.ensures ∙ c.if-not-byte_is-2.false in
    omega (arith, c.run_at-end.ensures.next, byte-there _ _ (byte ";") (lit< tt) semicolon)

pub returns : goal.returns
returns c = plain.if-passed c.then_some.ensures (λ e.
    plain.plain_int _ _ c.requires (sym c.byte_is.ensures ∙ c.if-not-byte_is.false) _ c.run_at-end.ensures
    (omega (arith, c.run_at-end.ensures.next)) (omega arith)
    (sym c.byte_is-else-digits-gt-SAFE_DIGITS.ensures ∙ c.if-not-byte_is-2.false) (c.is_shortest.ensures e))
