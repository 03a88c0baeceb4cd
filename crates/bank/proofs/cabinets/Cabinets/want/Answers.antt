use Rattle.std.proofs.lemmas.Result.{err_from_is_err_and}
use Rattle.promise.specs.Calls as calls
use Rattle.bank.proofs.Called.{wanted}
use Rattle.bank.proofs.cabinets.Cabinets.want.Goals as goal

pub returns-in_err-index : goal.returns-in_err-index
returns-in_err-index g c =
    let p = err_from_is_err_and c.from_residual.result c.from_residual.ensures.1 in
    rw (p.1, p.2) record { wants = calls.refused c.in_err-index.ensures.cases }

pub returns-in_err-reaction : goal.returns-in_err-reaction
returns-in_err-reaction g c =
    let p = err_from_is_err_and c.from_residual-in_err-reaction.result c.from_residual-in_err-reaction.ensures.1 in
    rw (p.1, p.2)
    record { wants = calls.inside c.in_ok-index.ensures.cases.2 c.in_err-reaction.ensures.happens }

pub returns-then-reaction : goal.returns-then-reaction
returns-then-reaction g c =
    record {
      wants =
          wanted _ _ _ _ c.in_ok-reaction.reaction _ _ c.in_ok-index.ensures.cases.2
          c.in_ok-reaction.ensures.happens c.restart.ensures.after c.if-reaction.true;
    }

pub returns-else-reaction : goal.returns-else-reaction
returns-else-reaction g c =
    record {
      wants =
          wanted _ _ _ _ c.in_ok-reaction.reaction _ _ c.in_ok-index.ensures.cases.2
          c.in_ok-reaction.ensures.happens c.restart.ensures.after c.if-reaction.false;
    }
