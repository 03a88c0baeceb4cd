use Rattle.std.proofs.Common.{◌≡◌, true, false, take, rules, arith}
use Rattle.std.proofs.option.Match.{if_none}
use Rattle.std.proofs.lemmas.Iterator.{IsFirst-from_position, YieldsList-from_slice}
use borrow.Author.Tests.{tests}
use Rattle.cabinet.specs.Cabinets.{model_of}
use Rattle.cabinet.specs.Models.{waits}
use Rattle.bank.proofs.Phases.{no_wait_by_phase, none_waits}
use Rattle.bank.proofs.tell.first_waiting.Goals as goal

pub returns-in_err-k : goal.returns-in_err-k
returns-in_err-k c =
    let cs = take c.args.count c.args.cabinets.now in
    let none =
    IsFirst-from_position _ _ _ (λ x. waits (model_of x) ≡ true) (λ x. waits (model_of x) ≡ false) c.position.ensures.ran
    (YieldsList-from_slice cs cc) (λ x q k. search (rules, tests)) (λ x q k. search (rules, tests, no_wait_by_phase)) in
    rw c.from_residual.ensures record { tells = none_waits c.args.cabinets.now c.args.count (omega arith) (if_none _ _ (c.in_err-k.was) none) }
