-- `rewriting::plain::behind_float` meets its contract. Assumes nothing.
use mathlib.Core.Path.{sym, ◌∙◌}
use Rattle.rewriting.proofs.PlainTokens as plain
use Rattle.rewriting.proofs.plain.behind_float.Goals as goal

pub returns : goal.returns
returns c = plain.plain_float _ _ c.requires (sym c.byte_is.ensures ∙ c.if-not-byte_is.false) c.in_ok-end.ensures.float
