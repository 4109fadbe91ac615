-- `placing::texts::pair_texts` meets its contract. Assumes nothing.
use Rattle.placing.proofs.TextLaws as laws
use Rattle.placing.proofs.texts.pair_texts.Goals as goal

pub returns-in_err-told : goal.returns-in_err-told
returns-in_err-told c = rw c.from_residual.ensures (laws.texts_unfit _ _ (λ k x f t g u. c.in_err-told.ensures k f t))

pub returns-in_err-exact : goal.returns-in_err-exact
returns-in_err-exact c = rw c.from_residual-in_err-exact.ensures (laws.texts_unfit _ _ (λ k x f t g u. c.in_err-exact.ensures x g u))

pub returns : goal.returns
returns c = laws.texts_fit _ _ c.in_ok-told.ensures c.in_ok-exact.ensures
