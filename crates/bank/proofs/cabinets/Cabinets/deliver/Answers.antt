use Rattle.std.proofs.Common.{sym, ◌∙◌}
use Rattle.std.proofs.lemmas.Result.{err_from_is_err_and}
use Rattle.bank.proofs.Sweeping.{brought_stopped, brought_done}
use Rattle.bank.proofs.cabinets.Cabinets.deliver.Goals as goal

pub returns-in_err-reaction-clause-brings : goal.returns-in_err-reaction-clause-brings
returns-in_err-reaction-clause-brings g c =
    let p = err_from_is_err_and c.from_residual-in_err-reaction.result c.from_residual-in_err-reaction.ensures.1 in
    let ends = sym c.in_ok-from.ensures.ok_part ∙ c.ends.ensures.value in
    rw (p.1, p.2) (λ _. brought_stopped _ _ _ _ _ _ _ ends _ c.arrival.ensures.value _ c.in_err-reaction.ensures.happens)

pub returns-clause-brings : goal.returns-clause-brings
returns-clause-brings g c =
    let ends = sym c.in_ok-from.ensures.ok_part ∙ c.ends.ensures.value in
    λ _.
    brought_done _ _ _ _ _ _ _ ends _ c.arrival.ensures.value c.in_ok-reaction.reaction _ c.then_some.ensures c.in_ok-reaction.ensures.happens
