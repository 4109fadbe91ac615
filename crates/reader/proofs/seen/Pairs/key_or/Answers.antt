-- `reader::seen::Pairs::key_or` meets its contract. Assumes nothing.
use Rattle.std.proofs.Common.{sym, ◌∙◌}
use Rattle.reader.proofs.KeyLaws as keys
use Rattle.reader.proofs.seen.Pairs.key_or.Goals as goal

pub returns-then-i-self : goal.returns-then-i-self
returns-then-i-self c = c.key_at.ensures ∙ keys.or_key _ _ _ _ c.if-i-self.true c.args.self.now.fits

pub returns : goal.returns
returns c = sym (keys.or_behind _ _ _ _ c.if-i-self.false)
