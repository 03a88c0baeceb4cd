-- All cabinets and lanes together, by numbers. An event at one cabinet keeps every cable in order.
use Rattle.std.proofs.Common.{◌≡◌, ℕ, ◌≤◌, List, ◌++◌, sym, refl, ap, subst, ⊎_elim}
use Rattle.std.proofs.lemmas.Bool.{cases_eq}
use Rattle.cable.specs.declared.message.Message.{Message}
use Rattle.cable.specs.declared.number.CabinetNo.{CabinetNo}
use Rattle.cabinet.specs.Models.{Model, acted, served, assigned, asks, stepped}
use Rattle.cabinet.specs.Parties.{times}
use Rattle.cabinet.specs.declared.event.Event.{Event}
use Rattle.cabinet.specs.declared.party.Party.TheVariants.{Neighbour}
use Rattle.promise.proofs.Edges.{EdgeView, EdgeOk, ok_turned}
use Rattle.promise.proofs.Ends.{aim, seen, before, passed, called, Due, event_edge, ok_is}

-- the records of the cabinets, and what is on the lane from one to another
pub record Net : Type 0 where
  pub cab : ℕ → Model
  pub lane : ℕ → ℕ → List Message

abbrev pub no : ℕ → CabinetNo
no k = record { 0 = k }

abbrev pub edge : Net → ℕ → ℕ → EdgeView
edge n x y =
    seen (Neighbour (no y)) (n.cab x) (aim (Neighbour (no x)) (n.cab y)) (times (Neighbour (no x)) (n.cab y).queue) (n.lane x y) (n.lane y x)

-- every cable is in order, seen from either end; near tells which cabinets are neighbours
abbrev pub InOrder : (ℕ → ℕ → Type 0) → Net → Type 0
InOrder near n = (x y : ℕ) → near x y → EdgeOk (edge n x y)

-- an event at cabinet x: its record is stepped, what arrived has left its lane, and what is sent has joined its lanes
pub record EventAt (near : ℕ → ℕ → Type 0) (n : Net) (x : ℕ) (e : Event) (n' : Net) : Type 0 where
  pub self : n'.cab x ≡ stepped (n.cab x) e
  pub others : (k : ℕ) → (k ≡ x → ⊥) → n'.cab k ≡ n.cab k
  pub out : (y : ℕ) → near x y
      → n'.lane x y ≡ (n.lane x y ++ passed (no y) (served (acted (n.cab x) e))) ++ called (no y) (asks (assigned (acted (n.cab x) e)))
  pub back : (y : ℕ) → near x y → n.lane y x ≡ before (no y) e (n'.lane y x)
  pub rest : (y z : ℕ) → (y ≡ x → ⊥) → (z ≡ x → ⊥) → near y z → n'.lane y z ≡ n.lane y z

module _ (near : ℕ → ℕ → Type 0) (apart : (x : ℕ) → near x x → ⊥) (shared : (x y : ℕ) → near x y → near y x) (n n' : Net) (x : ℕ) (e : Event)
    (due : Due (n.cab x) e) (once : (y : ℕ) → times (Neighbour (no y)) (acted (n.cab x) e).queue ≤ 1) (s : EventAt near n x e n')
    (ok : InOrder near n) where
  from_here : (y : ℕ) → near x y → EdgeOk (edge n' x y)
  from_here y h =
      let not_x : y ≡ x → ⊥ = λ i. apart x (subst (near x) i h) in
      let old : EdgeOk (seen (Neighbour (no y)) (n.cab x) (aim (Neighbour (no x)) (n.cab y)) (times (Neighbour (no x)) (n.cab y).queue) (n.lane x y) (before (no y) e (n'.lane y x)))
      = ok_is _ _ refl refl refl refl refl (s.back y h) (ok x y h)
      in
      ok_is _ _ (ap (aim (Neighbour (no y))) (sym s.self)) (ap (aim (Neighbour (no x))) (sym (s.others y not_x)))
      (ap (λ m. times (Neighbour (no y)) m.queue) (sym s.self)) (ap (λ m. times (Neighbour (no x)) m.queue) (sym (s.others y not_x)))
      (sym (s.out y h)) refl
      (event_edge (no y) (n.cab x) e _ _ (n.lane x y) (n'.lane y x) due (once y) old)

  elsewhere : (y z : ℕ) → (y ≡ x → ⊥) → (z ≡ x → ⊥) → near y z → EdgeOk (edge n' y z)
  elsewhere y z ny nz h =
      ok_is _ _ (ap (aim (Neighbour (no z))) (sym (s.others y ny))) (ap (aim (Neighbour (no y))) (sym (s.others z nz)))
      (ap (λ m. times (Neighbour (no z)) m.queue) (sym (s.others y ny))) (ap (λ m. times (Neighbour (no y)) m.queue) (sym (s.others z nz)))
      (sym (s.rest y z ny nz h)) (sym (s.rest z y nz ny (shared y z h))) (ok y z h)

  pub event_in_order : InOrder near n'
  event_in_order y z h =
      ⊎_elim (λ (i : y ≡ x). subst (λ k. EdgeOk (edge n' k z)) (sym i) (from_here z (subst (λ k. near k z) i h)))
      (λ (i : y ≡ x → ⊥). ⊎_elim
      (λ (j : z ≡ x). subst (λ k. EdgeOk (edge n' y k)) (sym j) (ok_turned (edge n' x y) (from_here y (shared y x (subst (near y) j h)))))
      (λ (j : z ≡ x → ⊥). elsewhere y z i j h) (cases_eq z x)) (cases_eq y x)
