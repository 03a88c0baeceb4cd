use Rattle.std.proofs.lemmas.Result.{err_from_is_err_and}
use Rattle.std.proofs.Common.{Ok, Err}
use Rattle.bank.proofs.Sends.{event_refused, event_posted, first_stopped, both_posted}
use Rattle.bank.proofs.cabinets.Cabinets.event.Goals as goal

pub returns-in_err-reaction-clause-happens : goal.returns-in_err-reaction-clause-happens
returns-in_err-reaction-clause-happens g c =
    let p = err_from_is_err_and c.from_residual.result c.from_residual.ensures.1 in
    rw (p.1, p.2) (event_refused _ _ _ _ _ _ c.in_err-reaction.ensures.value c.in_err-reaction.ensures.after)

pub returns-in_err-send-clause-happens : goal.returns-in_err-send-clause-happens
returns-in_err-send-clause-happens g c =
    let p = err_from_is_err_and c.from_residual-in_err-send.result c.from_residual-in_err-send.ensures.1 in
    rw (p.1, p.2)
    (event_posted _ _ _ _ c.in_ok-reaction.reaction _ (Err _) _ c.in_ok-reaction.ensures.value c.in_ok-reaction.ensures.after
    (first_stopped _ _ _ c.in_ok-reaction.reaction _ _ _ c.in_err-send.ensures.sends))

pub returns-in_err-send-2-clause-happens : goal.returns-in_err-send-2-clause-happens
returns-in_err-send-2-clause-happens g c =
    let p = err_from_is_err_and c.from_residual-in_err-send-2.result c.from_residual-in_err-send-2.ensures.1 in
    rw (p.1, p.2)
    (event_posted _ _ _ _ c.in_ok-reaction.reaction _ (Err _) _ c.in_ok-reaction.ensures.value c.in_ok-reaction.ensures.after
    (both_posted _ _ _ c.in_ok-reaction.reaction _ _ _ _ c.in_ok-send.ensures.sends c.in_err-send-2.ensures.sends))

pub returns-clause-happens : goal.returns-clause-happens
returns-clause-happens g c =
    event_posted _ _ _ _ c.in_ok-reaction.reaction _ (Ok tt) _ c.in_ok-reaction.ensures.value c.in_ok-reaction.ensures.after
    (both_posted _ _ _ c.in_ok-reaction.reaction _ _ _ _ c.in_ok-send.ensures.sends c.in_ok-send-2.ensures.sends)
