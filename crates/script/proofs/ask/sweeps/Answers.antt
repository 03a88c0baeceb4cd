use Rattle.std.proofs.Common.{◌≡◌, rules, arith}
use Rattle.std.proofs.lemmas.Result.{err_from_is_err_and}
use Rattle.script.specs.Calls as calls
use Rattle.script.proofs.Asking.{one_more, count_is}
use Rattle.script.proofs.ask.sweeps.Goals as goal

pub loop-init : goal.loop-init
loop-init g c = calls.begun

pub returns-in_err-sweep : goal.returns-in_err-sweep
returns-in_err-sweep g c =
    let p = err_from_is_err_and c.from_residual.result c.from_residual.ensures.1 in
    rw (p.1, p.2) record { sweeps = calls.stopped c.loop.invariant (search rules) c.in_err-sweep.ensures.sweeps }

pub loop-preserved : goal.loop-preserved
loop-preserved g c = one_more _ _ _ c.loop.last c.in_ok-sweep.field-0 _ _ _ c.or-last.ensures c.loop.invariant c.in_ok-sweep.ensures.sweeps

pub returns : goal.returns
returns g c =
    let e : c.loop.counter ≡ c.args.count = omega arith in
    record { sweeps = calls.all (count_is _ _ _ _ _ _ e c.loop.invariant) }
