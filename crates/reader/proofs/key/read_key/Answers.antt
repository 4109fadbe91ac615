-- `reader::key::read_key` meets its contract. Assumes nothing.
use Rattle.std.proofs.Common.{sym, refl, ◌∙◌}
use Rattle.reader.proofs.ScalarTexts.{key-scanned}
use Rattle.reader.proofs.Exits.{exit, found_at, unfit_at}
use Rattle.reader.proofs.KeySteps as steps
use Rattle.reader.proofs.key.read_key.Goals as goal

pub returns-then-source-at-clause-meets_key : goal.returns-then-source-at-clause-meets_key
returns-then-source-at-clause-meets_key c = rw c.at.ensures (λ earlier e. steps.key-end _ _ _ _ earlier c.if-source-at.true c.requires.fit.inside)

pub returns-then-not-key_allowed-clause-meets_key : goal.returns-then-not-key_allowed-clause-meets_key
returns-then-not-key_allowed-clause-meets_key c = rw c.at-then-not-key_allowed.ensures
    (λ earlier e. steps.key-other _ _ _ _ earlier _ c.if-source-at.false refl (sym c.key_allowed.ensures ∙ c.if-not-key_allowed.true))

pub returns-then-capacity-node-clause-meets_key : goal.returns-then-capacity-node-clause-meets_key
returns-then-capacity-node-clause-meets_key c =
    let may = sym c.key_allowed.ensures ∙ c.if-not-key_allowed.false in
    rw c.at-then-capacity-node.ensures
    (λ earlier e. steps.key-full _ _ _ _ earlier _ c.if-source-at.false refl may c.if-capacity-node.true)

pub returns-in_err-text-clause-meets_key : goal.returns-in_err-text-clause-meets_key
returns-in_err-text-clause-meets_key c =
    let may = sym c.key_allowed.ensures ∙ c.if-not-key_allowed.false in
    let told = key-scanned c.args.container _ may c.key.ensures.scans in
    λ earlier e. exit _ _ _ _ c.from_residual.ensures.1
    (steps.key_not _ _ _ _ earlier _ c.if-source-at.false refl may c.if-capacity-node.false _ _ (unfit_at told _ _ _ c.in_err-text.ensures))

pub returns-then-has-clause-meets_key : goal.returns-then-has-clause-meets_key
returns-then-has-clause-meets_key c =
    let may = sym c.key_allowed.ensures ∙ c.if-not-key_allowed.false in
    let is = found_at (key-scanned c.args.container _ may c.key.ensures.scans) _ c.in_ok-text.ensures in
    let tested = steps.told_array c.args.container c.has.ensures in
    rw c.at-then-has.ensures (λ earlier e.
    steps.key_twice _ _ _ _ earlier _ c.if-source-at.false refl may c.if-capacity-node.false _ is tested e c.if-has.true)

pub returns-clause-meets_key : goal.returns-clause-meets_key
returns-clause-meets_key c =
    let may = sym c.key_allowed.ensures ∙ c.if-not-key_allowed.false in
    let is = found_at (key-scanned c.args.container _ may c.key.ensures.scans) _ c.in_ok-text.ensures in
    let tested = steps.told_array c.args.container c.has.ensures in
    λ earlier e.
    steps.key_good _ _ _ _ earlier _ c.if-source-at.false refl may c.if-capacity-node.false _ is tested e c.if-has.false
    _ _ c.requires.fit c.add_node.ensures

pub returns-clause-remembers : goal.returns-clause-remembers
returns-clause-remembers c =
    let keys = steps.told_array c.args.container c.has.ensures in
    steps.one_more _ _ _ _ _ _ _ _ _ _ _ _ _ _ _ c.requires.fit c.if-capacity-node.false keys c.add_node.ensures
