use Rattle.std.proofs.lemmas.Result.{err_from_is_err_and}
use Rattle.promise.specs.Calls as calls
use Rattle.bank.proofs.cabinets.Cabinets.leave.Goals as goal

pub returns-in_err-index : goal.returns-in_err-index
returns-in_err-index g c =
    let p = err_from_is_err_and c.from_residual.result c.from_residual.ensures.1 in
    rw (p.1, p.2) record { leaves = calls.refused c.in_err-index.ensures.cases }

pub returns-in_err-event : goal.returns-in_err-event
returns-in_err-event g c =
    let p = err_from_is_err_and c.from_residual-in_err-event.result c.from_residual-in_err-event.ensures.1 in
    rw (p.1, p.2)
    record { leaves = calls.inside c.in_ok-index.ensures.cases.2 c.in_err-event.ensures.happens }

pub returns : goal.returns
returns g c =
    record { leaves = calls.done c.in_ok-index.ensures.cases.2 c.in_ok-event.ensures.happens }
