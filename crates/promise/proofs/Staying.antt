-- Who is in, and who waits, after an event at one cabinet.
use Rattle.std.proofs.Common.{◌≡◌, ℕ, ◌<◌, Bool, true, false, not, ◌&&◌, ◌⊎◌, List, Some, None, Option, sym, refl, ap, ◌∙◌, inl, inr, ⊎_elim, arith}
use Rattle.std.proofs.lemmas.Bool.{cond-true, cond-false}
use Rattle.cable.specs.Rows.{oldest}
use Rattle.cable.specs.declared.message.Message.{Message}
use Rattle.cable.specs.declared.message.Message.TheVariants.{Request as REQUEST, Privilege as PRIVILEGE}
use Rattle.cable.specs.declared.number.CabinetNo.{CabinetNo}
use Rattle.cabinet.proofs.Counting.{same_self}
use Rattle.cabinet.proofs.Keeping.{times-push}
use Rattle.cabinet.proofs.LawsHold.{oldest-rest, some_served}
use Rattle.cabinet.specs.Kept as cabinet
use Rattle.cabinet.specs.Kept.{near_by}
use Rattle.cabinet.specs.Models.{Model, refused, acted, served, given, assigned, asks, stepped}
use Rattle.cabinet.specs.Parties.{own, same, times}
use Rattle.cabinet.specs.Reactions.{reaction, reaction_to}
use Rattle.cabinet.specs.declared.event.Event.{Event}
use Rattle.cabinet.specs.declared.event.Event.TheVariants.{Want, Leave, Request, Privilege}
use Rattle.cabinet.specs.declared.party.Party.{Party}
use Rattle.cabinet.specs.declared.party.Party.TheVariants.{Own, Neighbour}
use Rattle.promise.proofs.Goings.{in_waits}
use Rattle.promise.proofs.Owing.{times_given}
use Rattle.promise.specs.Sweeps.{arrival}

-- only assigning sets the mark
in_by : (o : Option Party) (m : Model) → (given o m).inside ≡ true → ((o ≡ None) × (m.inside ≡ true)) ⊎ (o ≡ Some Own)
in_by None m e = inl (refl, e)
in_by (Some Own) m e = inr refl
in_by (Some (Neighbour v)) m e = absurd (grind arith)

entered_by : (o : Option Party) (a : Option CabinetNo) → o ≡ Some Own → (reaction_to o a).entered ≡ true
entered_by o a e = ap (λ k. (reaction_to k a).entered) e

entered_none : (o : Option Party) (a : Option CabinetNo) → o ≡ None → (reaction_to o a).entered ≡ false
entered_none o a e = ap (λ k. (reaction_to k a).entered) e

acted_inside : (m : Model) (e : Event) → (acted m e).inside ≡ true → m.inside ≡ true
acted_inside m Want i = i
acted_inside m Leave i = absurd (grind arith)
acted_inside m (Request u) i = i
acted_inside m (Privilege u) i = i

-- while somebody is in, nobody is served
none_served : (m : Model) → m.inside ≡ true → served m ≡ None
none_served m i = cond-false _ _ _ (let f : (own m.holder && not m.inside) ≡ false = grind arith in f)

module _ (bs : List Bool) (m : Model) (kept : cabinet.Kept bs m) (e : Event) (n : refused (near_by bs) m e ≡ None) where
  -- who was not in and now is, went in
  pub new_in : m.inside ≡ false → (stepped m e).inside ≡ true → (reaction m e).entered ≡ true
  new_in out i =
      ⊎_elim
      (λ (k : (served (acted m e) ≡ None) × ((acted m e).inside ≡ true)).
      let z = sym out ∙ acted_inside m e k.1 in absurd (grind arith))
      (λ (k : served (acted m e) ≡ Some Own). entered_by (served (acted m e)) (asks (assigned (acted m e))) k)
      (in_by (served (acted m e)) (acted m e) i)

  -- who is in is not queued, and so is not the one that is served after its leave
  not_again : m.inside ≡ true → (a : Event) → e ≡ a → served (acted m e) ≡ Some Own → ⊥
  not_again i Want is s = let z = sym (ap (λ k. served (acted m k)) is ∙ none_served (acted m Want) i) ∙ s in absurd (grind arith)
  not_again i Leave is s =
      let t : served (acted m Leave) ≡ Some Own = ap (λ k. served (acted m k)) (sym is) ∙ s in
      let o = some_served (own m.holder && not false) (oldest m.queue) Own t in
      let q = oldest-rest m.queue Own o.1 in
      omega (arith, in_waits bs m kept i, ap (times Own) q, cond-true {A = ℕ} (same Own Own) 1 0 (same_self Own))
  not_again i (Request u) is s = let z = sym (ap (λ k. served (acted m k)) is ∙ none_served (acted m (Request u)) i) ∙ s in absurd (grind arith)
  not_again i (Privilege u) is s = let z = sym (ap (λ k. served (acted m k)) is ∙ none_served (acted m (Privilege u)) i) ∙ s in absurd (grind arith)

  -- who was in and still is, did not go in anew
  pub still_in : m.inside ≡ true → (stepped m e).inside ≡ true → (reaction m e).entered ≡ false
  still_in was i =
      ⊎_elim
      (λ (k : (served (acted m e) ≡ None) × ((acted m e).inside ≡ true)). entered_none (served (acted m e)) (asks (assigned (acted m e))) k.0)
      (λ (k : served (acted m e) ≡ Some Own). absurd (not_again was e refl k)) (in_by (served (acted m e)) (acted m e) i)

-- on an arrival nobody begins to wait
pub waited : (m : Model) (a : Message) (from : ℕ) → 0 < times Own (stepped m (arrival a from)).queue → 0 < times Own m.queue
waited m REQUEST from h =
    let k = acted m (arrival REQUEST from) in
    omega (arith, times_given Own (served k) k, h, times-push m.queue (Neighbour (record { 0 = from })) Own)
waited m PRIVILEGE from h = let k = acted m (arrival PRIVILEGE from) in omega (arith, times_given Own (served k) k, h)
