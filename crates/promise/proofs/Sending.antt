-- What a cabinet sends, lane by lane.
use Rattle.std.proofs.Common.{◌≡◌, ℕ, ◌≤◌, Bool, true, false, cond, eqb, List, [], ◌∷◌, ◌++◌, length, Some, None, Option, sym, refl, ap, ◌∙◌, ⊎_elim, arith}
use Rattle.std.proofs.lemmas.Bool.{cases_eq, cond-false, eq-eqb, ne_eqb}
use Rattle.std.specs.List.{AllByRecursion}
use Rattle.cable.specs.declared.message.Message.{Message}
use Rattle.cable.specs.declared.message.Message.TheVariants.{Request as REQUEST, Privilege as PRIVILEGE}
use Rattle.cable.specs.declared.number.CabinetNo.{CabinetNo}
use Rattle.cabinet.specs.Laws.{sent, sending}
use Rattle.cabinet.specs.Reactions.{reaction_to}
use Rattle.cabinet.specs.declared.party.Party.{Party}
use Rattle.cabinet.specs.declared.party.Party.TheVariants.{Own, Neighbour}
use Rattle.promise.proofs.Balance.{passes}
use Rattle.promise.proofs.Ends.{passed, called}
use Rattle.promise.proofs.Nets.{no}
use Rattle.promise.proofs.Posting.{is_lane, on_lane, privileges_in}
use Rattle.tree.proofs.Cables.{lane_once}
use Rattle.tree.specs.Trees.{lane_from}

module _ (ps : List CabinetNo) (x : ℕ) where
  -- no message from x goes on a lane from elsewhere
  pub elsewhere : (l : ℕ) → ((v : ℕ) → lane_from ps x v ≡ Some l → ⊥) → (msgs : List (CabinetNo × Message)) → on_lane ps x l msgs ≡ []
  elsewhere l h [] = refl
  elsewhere l h (t ∷ msgs) = cond-false _ _ _ (by_lane (lane_from ps x t.0.0) refl) ∙ elsewhere l h msgs
    where
      by_lane : (o : Option ℕ) → lane_from ps x t.0.0 ≡ o → is_lane o l ≡ false
      by_lane None e = refl
      by_lane (Some k) e = ne_eqb k l (λ i. h t.0.0 (e ∙ ap Some i))

  pub lane_to : (y l : ℕ) → lane_from ps x y ≡ Some l → (v : ℕ) → is_lane (lane_from ps x v) l ≡ eqb v y
  lane_to y l at v =
      ⊎_elim
      (λ (i : v ≡ y). ap (λ o. is_lane o l) (ap (lane_from ps x) i ∙ at) ∙ eq-eqb l l refl ∙ sym (eq-eqb v y i))
      (λ (i : v ≡ y → ⊥). by_lane i (lane_from ps x v) refl ∙ sym (ne_eqb v y i)) (cases_eq v y)
    where
      by_lane : (v ≡ y → ⊥) → (o : Option ℕ) → lane_from ps x v ≡ o → is_lane o l ≡ false
      by_lane i None e = refl
      by_lane i (Some k) e = ne_eqb k l (λ j. i (lane_once ps x v x y l (e ∙ ap Some j) at).1)

  cond_front : (t : Bool) (m : Message) (ms : List Message) → cond t (m ∷ ms) ms ≡ cond t (m ∷ []) [] ++ ms
  cond_front true m ms = refl
  cond_front false m ms = refl

  pub called_to : (y l : ℕ) → lane_from ps x y ≡ Some l → (r : Option CabinetNo) → on_lane ps x l (sending REQUEST r) ≡ called (no y) r
  called_to y l at None = refl
  called_to y l at (Some w) = ap (λ t. cond t (REQUEST ∷ []) []) (lane_to y l at w.0)

  -- what goes on the lane to y
  pub sent_to : (y l : ℕ) → lane_from ps x y ≡ Some l → (o : Option Party) (r : Option CabinetNo)
      → on_lane ps x l (sent (reaction_to o r)) ≡ passed (no y) o ++ called (no y) r
  sent_to y l at None r = called_to y l at r
  sent_to y l at (Some Own) r = called_to y l at r
  sent_to y l at (Some (Neighbour v)) r =
      ap (λ t. cond t (PRIVILEGE ∷ on_lane ps x l (sending REQUEST r)) (on_lane ps x l (sending REQUEST r))) (lane_to y l at v.0)
      ∙ cond_front (eqb v.0 y) PRIVILEGE (on_lane ps x l (sending REQUEST r))
      ∙ ap (λ ms. cond (eqb v.0 y) (PRIVILEGE ∷ []) [] ++ ms) (called_to y l at r)

pub sent_few : (o : Option Party) (r : Option CabinetNo) → length (sent (reaction_to o r)) ≤ 2
sent_few None None = omega arith
sent_few None (Some w) = omega arith
sent_few (Some Own) None = omega arith
sent_few (Some Own) (Some w) = omega arith
sent_few (Some (Neighbour v)) None = omega arith
sent_few (Some (Neighbour v)) (Some w) = omega arith

pub sent_privileges : (o : Option Party) (r : Option CabinetNo) → privileges_in (sent (reaction_to o r)) ≡ passes o
sent_privileges None None = refl
sent_privileges None (Some w) = refl
sent_privileges (Some Own) None = refl
sent_privileges (Some Own) (Some w) = refl
sent_privileges (Some (Neighbour v)) None = refl
sent_privileges (Some (Neighbour v)) (Some w) = refl

pub sent_all : (P : CabinetNo → Type 0) (o : Option Party) (r : Option CabinetNo) → ((v : CabinetNo) → o ≡ Some (Neighbour v) → P v)
    → ((w : CabinetNo) → r ≡ Some w → P w) → AllByRecursion (λ t. P t.0) (sent (reaction_to o r))
sent_all P None None a b = tt
sent_all P None (Some w) a b = (b w refl, tt)
sent_all P (Some Own) None a b = tt
sent_all P (Some Own) (Some w) a b = (b w refl, tt)
sent_all P (Some (Neighbour v)) None a b = (a v refl, tt)
sent_all P (Some (Neighbour v)) (Some w) a b = (a v refl, (b w refl, tt))
