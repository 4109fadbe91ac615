-- `placing::texts::exact` meets its contract. Assumes nothing.
use mathlib.Core.Path.{sym, ◌∙◌}
use Rattle.placing.proofs.TextLaws as laws
use Rattle.placing.proofs.texts.exact.Goals as goal

pub returns-in_err-told : goal.returns-in_err-told
returns-in_err-told c = let first = c.in_ok-tag.ensures.item.3 in
    rw c.from_residual-in_err-told.ensures
    (laws.none-unfit _ first.0 (first.1 0) c.scalar.ensures.scans (sym c.ok.ensures.value ∙ c.in_err-told.was))

pub returns-then-told-text : goal.returns-then-told-text
returns-then-told-text c = let first = c.in_ok-tag.ensures.item.3 in
    laws.none_longer _ first.0 (first.1 0) c.scalar.ensures.scans (laws.told_ok _ _ (sym c.ok.ensures.value ∙ c.in_ok-told.was)) c.if-told-text.true

pub returns : goal.returns
returns c = let first = c.in_ok-tag.ensures.item.3 in
    laws.is-scalar _ first.0 (first.1 0) c.scalar.ensures.scans (laws.told_ok _ _ (sym c.ok.ensures.value ∙ c.in_ok-told.was)) c.if-told-text.false
