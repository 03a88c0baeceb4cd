-- A cabinet that is in does not wait, so that its phase tells whether it waits.
use Rattle.std.proofs.Common.{◌≡◌, ℕ, ◌<◌, ◌≤◌, Bool, true, false, cond, ltb, List, [], ◌∷◌, map, length, get_or, take, sym, refl, ap, ◌∙◌, arith}
use Rattle.std.proofs.lemmas.List.{get_or-map, get_or-take, length-take-le}
use Rattle.cabinet.specs.Cabinets.{model_of}
use Rattle.cabinet.specs.Models.{waits}
use Rattle.cabinet.specs.Parties.{own, times}
use Rattle.cabinet.specs.Phases.{phase_of}
use Rattle.cabinet.specs.Tables.{view_of, blank}
use Rattle.cabinet.specs.declared.cabinet.Cabinet.{Cabinet}
use Rattle.cabinet.specs.declared.cabinet.phase.Phase.{Phase}
use Rattle.cabinet.specs.declared.cabinet.phase.Phase.TheVariants.{Rest, Waits, In}
use Rattle.cabinet.specs.declared.party.Party.{Party}
use Rattle.cabinet.specs.declared.party.Party.TheVariants.{Own, Neighbour}
use Rattle.bank.specs.Answers.{waits_at}

own_apart : (p : Party) (qs : List Party) → own p ≡ true → times p qs ≡ 0 → times Own qs ≡ 0
own_apart Own qs o e = e
own_apart (Neighbour n) qs o e = absurd (grind arith)

pub in_does_not_wait : (c : Cabinet) → (model_of c).inside ≡ true → waits (model_of c) ≡ false
in_does_not_wait c i = ap (ltb 0) (own_apart (model_of c).holder (model_of c).queue (c.home i) c.apart)

abbrev at : Bool → Bool → Phase
at i w = cond i In (cond w Waits Rest)

waits_told : (i w : Bool) → Waits ≡ at i w → w ≡ true
waits_told true w e = absurd (grind arith)
waits_told false true e = refl
waits_told false false e = absurd (grind arith)

rest_told : (i w : Bool) → (i ≡ true → w ≡ false) → (at i w ≡ Waits → ⊥) → w ≡ false
rest_told true w h n = h refl
rest_told false true h n = absurd (n refl)
rest_told false false h n = refl

pub waits_by_phase : (c : Cabinet) → Waits ≡ phase_of (model_of c) → waits (model_of c) ≡ true
waits_by_phase c e = waits_told (model_of c).inside (waits (model_of c)) e

pub no_wait_by_phase : (c : Cabinet) → (phase_of (model_of c) ≡ Waits → ⊥) → waits (model_of c) ≡ false
no_wait_by_phase c n = rest_told (model_of c).inside (waits (model_of c)) (in_does_not_wait c) n

-- the cabinets of a table, as others see them
module _ (cs : List Cabinet) (k : ℕ) where
  pub view_at : (x : Cabinet) → k < length cs → x ≡ get_or cs k x → get_or (map view_of cs) k blank ≡ view_of x
  view_at x within is = get_or-map view_of cs k x blank within ∙ ap view_of (sym is)

-- none of the first n waits
pub none_waits : (cs : List Cabinet) (n : ℕ) → n ≤ length cs
    → ((k : ℕ) (d : Cabinet) → 0 ≤ k → k < length (take n cs) → waits (model_of (get_or (take n cs) k d)) ≡ false) → (k : ℕ) → k < n
    → waits_at (map view_of cs) k ≡ false
none_waits [] n few h k l = absurd (omega arith)
none_waits (c ∷ cs) n few h k l =
    ap (λ v. waits v.model) (get_or-map view_of (c ∷ cs) k c blank (omega arith)) ∙ ap (λ x. waits (model_of x)) (sym (get_or-take n (c ∷ cs) k c l))
    ∙ h k c (omega arith) (omega (arith, length-take-le n (c ∷ cs) few))
