-- `scanner::quoted::quoted` meets its contract. Assumes nothing.
use Prim.Native.Nat.{◌+◌, ◌≤◌, ◌<◌}
use native.Mathlib.Omega.{arith}
use mathlib.Core.Path.{refl}
use lib.ListN.{length}
use Rattle.format.specs.Limits.{number_limit}
use Rattle.bytes_at.proofs.BytesAt.{pair-there}
use Rattle.scanner.proofs.Numbers.{exits, found_of, answered}
use Rattle.scanner.proofs.Quotes as quotes
use Rattle.scanner.proofs.quoted.quoted.Goals as goal
use Rattle.scanner.proofs.quoted.quoted.Goals.{then-source-colon-ne58-via-then-source-colon-ne58 as no_colon}
use Rattle.scanner.proofs.quoted.quoted.Goals.{then-source-colon-ne58-via-else-source-colon-ne58+then-source-colon-ne34 as no_quote}
use Rattle.scanner.proofs.quoted.quoted.Goals.{then-source-colon-ne58-via-else-source-colon-ne58+else-source-colon-ne34+then-source-end-ne34 as no_end_quote}
use Rattle.scanner.proofs.quoted.quoted.Goals.{then-source-colon-ne58-via-else-source-colon-ne58+else-source-colon-ne34+else-source-end-ne34+then-source-end as no_close}

pub returns-in_err-expect : goal.returns-in_err-expect
returns-in_err-expect c =
    answered (exits c.from_residual.ensures.1 c.in_err-expect.ensures.1 (quotes.quoted_colon _ _ c.args.close (omega arith) c.in_err-expect.ensures.0))

pub returns-in_err-run : goal.returns-in_err-run
returns-in_err-run c =
    let colon = c.in_ok-expect.ensures.0 in
    let small : c.args.close < 256 = omega arith in
    answered (exits c.from_residual-in_err-run.ensures.1 refl (quotes.quoted_not _ _ _ small colon _ _ c.number.ensures c.in_err-run.was))

pub overflow_sub-source : goal.overflow_sub-source
overflow_sub-source c =
    let size = found_of c.number.ensures c.in_ok-run.was in
    omega (arith, size.inside)

pub overflow_add-size : goal.overflow_add-size
overflow_add-size c =
    let colon = c.in_ok-expect.ensures.0 in
    let small : c.args.close < 256 = omega arith in
    let size = found_of c.number.ensures c.in_ok-run.was in
    let fits : c.in_ok-run.run'.content ≤ number_limit = quotes.fits _ _ _ small colon _ size in
    omega (arith, fits)

pub returns-then-source-colon : goal.returns-then-source-colon
returns-then-source-colon c =
    let colon = c.in_ok-expect.ensures.0 in
    let small : c.args.close < 256 = omega arith in
    let size = found_of c.number.ensures c.in_ok-run.was in
    answered (quotes.quoted_unframed _ _ _ small colon _ size
    (λ o e. omega (arith, pair-there _ _ _ _ e small, c.if-source-colon.true)))

pub returns-then-source-colon-ne58 : goal.returns-then-source-colon-ne58
returns-then-source-colon-ne58 c =
    let colon = c.in_ok-expect.ensures.0 in
    let small : c.args.close < 256 = omega arith in
    let size = found_of c.number.ensures c.in_ok-run.was in
    let room : c.in_ok-run.run'.next + 2 + c.in_ok-run.run'.content + 1 < length c.args.source.now = omega (arith, c.if-source-colon.false, size.inside) in
    let front : c.in_ok-run.run'.next + 1 < length c.args.source.now = omega (arith, room) in
    answered (quotes.quoted_unframed _ _ _ small colon _ size (λ o e. elim c.then-source-colon-ne58.branch [
      | no_colon w ↦ w.if-source-colon-ne58.true (quotes.first-is _ _ _ _ front o)
      | no_quote w ↦ w.if-source-colon-ne34.true (quotes.second_is _ _ _ _ front o)
      | no_end_quote w ↦ w.if-source-end-ne34.true (quotes.first-is _ _ _ _ room e)
      | no_close w ↦ w.if-source-end.true (quotes.second_is _ _ _ _ room e)
    ]))

pub returns : goal.returns
returns c =
    let colon = c.in_ok-expect.ensures.0 in
    let small : c.args.close < 256 = omega arith in
    let size = found_of c.number.ensures c.in_ok-run.was in
    let room : c.in_ok-run.run'.next + 2 + c.in_ok-run.run'.content + 1 < length c.args.source.now = omega (arith, c.if-source-colon.false, size.inside) in
    let front : c.in_ok-run.run'.next + 1 < length c.args.source.now = omega (arith, room) in
    answered (quotes.quoted_is _ _ _ small colon _ size
    (quotes.pair_is _ _ _ _ front c.if-source-colon-ne58.false c.if-source-colon-ne34.false)
    (quotes.pair_is _ _ _ _ room c.if-source-end-ne34.false c.if-source-end.false) _ refl)
