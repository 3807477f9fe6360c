-- What the call promises of the caller's tally by value carries over to the eight: the caller's own is raised by tried, which fits, and the
-- others stay. Of a refused call nothing was tried, and they all stay.
use Rattle.std.proofs.Common.{arith, length, ◌≡◌}
use Rattle.std.proofs.lemmas.Result.{err_from_is_err_and}
use Rattle.cadwezin.proofs.VerdictLaws.{known, fits, charged-own, refused-own}
use Rattle.std.specs.Prelude.{Ok}
use Rattle.cadwezin.proofs.cadwezin_verdict.Goals as goal

pub returns-in_err-verdict : goal.returns-in_err-verdict
returns-in_err-verdict c =
    let size : length c.args.tallies.now.counts ≡ 8 = omega arith in
    let p = err_from_is_err_and c.from_residual.result c.from_residual.ensures.1 in
    rw (p.1, p.2) (refused-own c.args.tallies.now.counts size c.in_err-verdict.field-0.0 (rw c.account-account.ensures at c.in_err-verdict.ensures))

pub charge-requires-clause-known : goal.charge-requires-clause-known
charge-requires-clause-known c = rw c.account-account.ensures (known c.args.tallies.now.counts c.in_ok-verdict.verdict (rw c.account-account.ensures at c.in_ok-verdict.ensures))

pub charge-requires-clause-fits : goal.charge-requires-clause-fits
charge-requires-clause-fits c = rw (c.account-account.ensures, c.tried_of.ensures) (fits c.args.tallies.now.counts c.in_ok-verdict.verdict (rw c.account-account.ensures at c.in_ok-verdict.ensures))

pub returns : goal.returns
returns c =
    let size : length c.args.tallies.now.counts ≡ 8 = omega arith in
    rw (c.charge.ensures, c.account-account.ensures, c.tried_of.ensures)
    (charged-own c.args.tallies.now.counts size (Ok c.in_ok-verdict.verdict) (rw c.account-account.ensures at c.in_ok-verdict.ensures))
