-- The phase after an event is told by the phase before it, the event, and whether the cabinet went in.
use Rattle.std.proofs.Common.{◌≡◌, ℕ, Bool, true, false, cond, ltb, List, [], ◌∷◌, ◌++◌, Some, None, Option, sym, refl, ap, ◌∙◌, subst, arith}
use Rattle.std.proofs.lemmas.Bool.{lt-ltb, le-ltb, cond-true, cond-false}
use Rattle.cable.specs.Rows.{oldest, rest}
use Rattle.cable.specs.declared.number.CabinetNo.{CabinetNo}
use Rattle.cabinet.proofs.Keeping.{free, times-push, want_free, leave_in}
use Rattle.cabinet.proofs.LawsHold.{oldest-rest, own_is, some_served}
use Rattle.cabinet.specs.Kept.{Kept, near_by}
use Rattle.cabinet.specs.Models.{Model, waits, refused, acted, served, given, assigned, asks, stepped}
use Rattle.cabinet.specs.Parties.{own, times}
use Rattle.cabinet.specs.Phases.{phase_of, phase_after}
use Rattle.cabinet.specs.Reactions.{reaction, reaction_to}
use Rattle.cabinet.specs.declared.cabinet.phase.Phase.{Phase}
use Rattle.cabinet.specs.declared.cabinet.phase.Phase.TheVariants.{Rest, Waits, In}
use Rattle.cabinet.specs.declared.event.Event.{Event}
use Rattle.cabinet.specs.declared.event.Event.TheVariants.{Want, Leave, Request, Privilege}
use Rattle.cabinet.specs.declared.party.Party.{Party}
use Rattle.cabinet.specs.declared.party.Party.TheVariants.{Own, Neighbour}

-- the phase of a record with this mark "in", in whose queue own stands so often
abbrev by : Bool → ℕ → Phase
by inside n = cond inside In (cond (ltb 0 n) Waits Rest)

module _ (bs : List Bool) (m : Model) (h : Kept bs m) where
  acted_phase : (e : Event) → refused (near_by bs) m e ≡ None → phase_of (acted m e) ≡ phase_after (phase_of m) e false
  acted_phase Want n =
      let f = want_free (near_by bs) m n in
      ap (λ i. by i (times Own (m.queue ++ Own ∷ []))) f.1
      ∙ cond-true (ltb 0 (times Own (m.queue ++ Own ∷ []))) Waits Rest (lt-ltb 0 _ (omega (arith, times-push m.queue Own Own)))
  acted_phase Leave n =
      let at_own = own_is m.holder (h.home (leave_in (near_by bs) m n)) in
      let none : times Own m.queue ≡ 0 = subst (λ p. times p m.queue ≡ 0) at_own h.apart in
      cond-false (ltb 0 (times Own m.queue)) Waits Rest (le-ltb 0 _ (omega arith))
  acted_phase (Request u) n =
      let same_often : times Own (m.queue ++ Neighbour u ∷ []) ≡ times Own m.queue = omega (arith, times-push m.queue (Neighbour u) Own) in
      ap (by m.inside) same_often
  acted_phase (Privilege u) n = refl

-- while a neighbour is served, nobody is in, and own stands in the queue as often as before
other_served : (m : Model) (v : CabinetNo) → served m ≡ Some (Neighbour v) → phase_of (given (Some (Neighbour v)) m) ≡ phase_of m
other_served m v s =
    let f = some_served (free m) (oldest m.queue) (Neighbour v) s in
    let out : m.inside ≡ false = let g = f.0 in grind arith in
    let front = ap (times Own) (oldest-rest m.queue (Neighbour v) f.1) in
    let same_often : times Own m.queue ≡ times Own (rest m.queue) = omega (arith, front) in
    sym (ap (λ i. by i (times Own m.queue)) out ∙ ap (by false) same_often)

assigned_phase : (m : Model) (p : Phase) (e : Event) (r : Option CabinetNo) (o : Option Party) → served m ≡ o → phase_of m ≡ phase_after p e false
    → phase_of (given o m) ≡ phase_after p e (reaction_to o r).entered
assigned_phase m p e r None s is = is
assigned_phase m p e r (Some Own) s is = refl
assigned_phase m p e r (Some (Neighbour v)) s is = other_served m v s ∙ is

pub phase_told : (bs : List Bool) (m : Model) (e : Event) → Kept bs m → refused (near_by bs) m e ≡ None
    → phase_of (stepped m e) ≡ phase_after (phase_of m) e (reaction m e).entered
phase_told bs m e h n =
    assigned_phase (acted m e) (phase_of m) e (asks (assigned (acted m e))) (served (acted m e)) refl (acted_phase bs m h e n)
