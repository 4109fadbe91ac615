-- `placing::pass::pass` meets its contract. Assumes nothing.
use mathlib.Core.Path.{refl, sym, ◌∙◌}
use Rattle.scanner.proofs.Numbers.{found_of}
use Rattle.placing.proofs.Passes as passes
use native.Mathlib.Omega.{arith}
use Rattle.placing.proofs.pass.pass.Goals as goal

pub loop-text-init : goal.loop-text-init
loop-text-init c = passes.passing_none _ _ _ c.requires

pub overflow_sub-nodes : goal.overflow_sub-nodes
overflow_sub-nodes c = passes.passed-most c.loop-text.invariant c.requires

pub returns-in_default : goal.returns-in_default
returns-in_default c =
    absurd (passes.fit-token c.loop-text.invariant (sym c.goes_on.ensures ∙ c.loop-text-test.true) c.requires _ _ c.token.ensures.scans c.in_default.is)

pub bounds-source-at : goal.bounds-source-at
bounds-source-at c = passes.at-token c.loop-text.invariant (sym c.goes_on.ensures ∙ c.loop-text-test.true) c.requires

pub loop-text-smaller : goal.loop-text-smaller
loop-text-smaller c = let text = found_of c.token.ensures.scans c.in-Ok.is in
    omega (arith, text.on, text.inside)

pub loop-text-preserved : goal.loop-text-preserved
loop-text-preserved c =
    passes.passing_more c.loop-text.invariant (sym c.goes_on.ensures ∙ c.loop-text-test.true) _ (found_of c.token.ensures.scans c.in-Ok.is) _ _
    c.closes-shut.ensures.0 c.opens-opened.ensures.0 c.closes-shut.ensures.1 c.opens-opened.ensures.1

pub overflow_sub-result : goal.overflow_sub-result
overflow_sub-result c = passes.closed-most c.loop-text.invariant (sym c.goes_on.ensures ∙ c.loop-text-test.false) c.requires

pub returns : goal.returns
returns c = λ a. passes.passing_all c.loop-text.invariant (sym c.goes_on.ensures ∙ c.loop-text-test.false) a _ refl refl
