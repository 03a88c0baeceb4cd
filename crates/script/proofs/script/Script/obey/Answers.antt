use Rattle.std.proofs.Common.{refl, ap}
use Rattle.std.proofs.lemmas.Result.{err_from_is_err_and}
use Rattle.script.specs.Obeying as obeying
use Rattle.script.specs.Stages.{stage_of, over_straight, over_clean, over_retry}
use Rattle.script.proofs.Coming.{comes_on}
use Rattle.script.proofs.Outside.{asked_outside, first_outside, draft_outside}
use Rattle.script.proofs.Running.{asked_so}
use Rattle.script.proofs.script.Script.obey.Goals as goal

pub returns-in-Straight : goal.returns-in-Straight
returns-in-Straight c =
    rw c.in-Straight.is
    record { obeys = asked_so _ _ over_straight (λ b. refl) (λ o a b d h. obeying.asks_straight h) _ _ _ _ c.ask.ensures.asked; outside = λ k. asked_outside _ _ c.ask.ensures.promised _ _ _ _ (comes_on k) c.ask.ensures.asked }

pub returns-in-Clean : goal.returns-in-Clean
returns-in-Clean c =
    rw c.in-Clean.is
    record { obeys = asked_so _ _ over_clean (λ b. refl) (λ o a b d h. obeying.asks_clean h) _ _ _ _ c.ask-in-Clean.ensures.asked; outside = λ k. asked_outside _ _ c.ask-in-Clean.ensures.promised _ _ _ _ (comes_on k) c.ask-in-Clean.ensures.asked }

pub returns-in-Retry : goal.returns-in-Retry
returns-in-Retry c =
    rw c.in-Retry.is
    record { obeys = asked_so _ _ over_retry (λ b. refl) (λ o a b d h. obeying.asks_retry h) _ _ _ _ c.ask-in-Retry.ensures.asked; outside = λ k. asked_outside _ _ c.ask-in-Retry.ensures.promised _ _ _ _ (comes_on k) c.ask-in-Retry.ensures.asked }

pub returns-in-Unnamed-clause-outside : goal.returns-in-Unnamed-clause-outside
returns-in-Unnamed-clause-outside c =
    let e = ap stage_of c.in-Unnamed.is in
    λ k. first_outside _ _ e (c.begin.ensures.begins e)

pub returns-in-Plant-clause-outside : goal.returns-in-Plant-clause-outside
returns-in-Plant-clause-outside c = λ k. draft_outside _ _ _ c.plant.ensures.obeys

pub returns-in_err-obey-in-Drafted-clause-outside : goal.returns-in_err-obey-in-Drafted-clause-outside
returns-in_err-obey-in-Drafted-clause-outside c =
    let p = err_from_is_err_and c.from_residual.result c.from_residual.ensures.1 in
    rw (p.1, p.2) (λ k. draft_outside _ _ _ c.in_err-obey-in-Drafted.ensures.prepares)
