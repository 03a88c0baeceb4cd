-- The privilege is neither made nor lost by an event: what a cabinet had, and what arrived, it has then, or has passed on.
use Rattle.std.proofs.Common.{◌≡◌, ℕ, ◌+◌, true, false, cond, not, ◌&&◌, Some, None, Option, sym, refl, ◌∙◌, arith}
use Rattle.std.proofs.lemmas.Bool.{cond-true, cond-false}
use Rattle.cable.specs.Rows.{oldest}
use Rattle.cable.specs.declared.number.CabinetNo.{CabinetNo}
use Rattle.cabinet.proofs.LawsHold.{some_served}
use Rattle.cabinet.specs.Models.{Model, acted, served, given, stepped}
use Rattle.cabinet.specs.Parties.{own, same}
use Rattle.cabinet.specs.declared.event.Event.{Event}
use Rattle.cabinet.specs.declared.event.Event.TheVariants.{Want, Leave, Request, Privilege}
use Rattle.cabinet.specs.declared.party.Party.{Party}
use Rattle.cabinet.specs.declared.party.Party.TheVariants.{Own, Neighbour}
use Rattle.promise.proofs.Ends.{Due}

abbrev pub mine : Model → ℕ
mine m = cond (own m.holder) 1 0

abbrev pub arrived : Event → ℕ
arrived Want = 0
arrived Leave = 0
arrived (Request v) = 0
arrived (Privilege v) = 1

abbrev pub passes : Option Party → ℕ
passes None = 0
passes (Some Own) = 0
passes (Some (Neighbour v)) = 1

not_own : (v : CabinetNo) (p : Party) → same (Neighbour v) p ≡ true → own p ≡ false
not_own v Own e = sym e
not_own v (Neighbour n) e = refl

act_balance : (m : Model) (e : Event) → Due m e → mine (acted m e) ≡ mine m + arrived e
act_balance m Want d = omega arith
act_balance m Leave d = omega arith
act_balance m (Request v) d = omega arith
act_balance m (Privilege v) d = omega (arith, cond-false {A = ℕ} (own m.holder) 1 0 (not_own v m.holder d))

give_balance : (o : Option Party) (m : Model) → ((p : Party) → o ≡ Some p → own m.holder ≡ true) → mine (given o m) + passes o ≡ mine m
give_balance None m h = omega arith
give_balance (Some Own) m h = sym (cond-true {A = ℕ} (own m.holder) 1 0 (h Own refl))
give_balance (Some (Neighbour v)) m h = sym (cond-true {A = ℕ} (own m.holder) 1 0 (h (Neighbour v) refl))

pub event_balance : (m : Model) (e : Event) → Due m e → mine (stepped m e) + passes (served (acted m e)) ≡ mine m + arrived e
event_balance m e d =
    give_balance (served (acted m e)) (acted m e)
    (λ p s. let f = (some_served (own (acted m e).holder && not (acted m e).inside) (oldest (acted m e).queue) p s).0 in
    let o : own (acted m e).holder ≡ true = grind arith in o)
    ∙ act_balance m e d
