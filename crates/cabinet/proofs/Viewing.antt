-- What an event given to one cabinet of the table does, seen over the whole table.
use Rattle.std.proofs.Common.{◌≡◌, ℕ, ◌<◌, false, cond, ltb, List, [], ◌∷◌, map, length, get_or, set, Ok, Result, sym, ap, ◌∙◌, arith}
use Rattle.std.proofs.lemmas.List.{get_or-map, length-map, map-set}
use Rattle.std.proofs.lemmas.Bool.{cond-true, lt-ltb}
use Rattle.std.proofs.lemmas.Bool.Decides.{nat_tests}
use Rattle.cable.specs.Numbers.{place_in}
use Rattle.cable.specs.declared.number.CabinetNo.{CabinetNo}
use Rattle.cable.specs.declared.refusal.Refusal.{Refusal}
use Rattle.cable.specs.declared.refusal.Refusal.TheVariants.{NoSuchCabinet}
use Rattle.tree.specs.Planted.{members_of}
use Rattle.cabinet.specs.Cabinets.{model_of, near_of}
use Rattle.cabinet.specs.Reactions.{Reacts}
use Rattle.cabinet.specs.Tables.{view_of, blank, answer, after, answer_at, after_at, PlantedAt, PlantedAs}
use Rattle.cabinet.specs.declared.cabinet.Cabinet.{Cabinet}
use Rattle.cabinet.specs.declared.event.Event.{Event}
use Rattle.cabinet.specs.declared.event.Reaction.{Reaction}

-- a number that has a place in the table
pub placed : (n k : ℕ) → Ok k ≡ place_in n 16 NoSuchCabinet → (k ≡ n) × (k < 16)
placed n k e = grind (arith, nat_tests)

-- the cabinet at k becomes y; d only stands in for a cabinet that there is not
module _ (cs : List Cabinet) (k : ℕ) (d y : Cabinet) (all : length cs ≡ 16) (within : k < 16) (e : Event) (r : Result Reaction Refusal)
    (s : Reacts (near_of (get_or cs k d)) (model_of (get_or cs k d)) e r (model_of y)) (same : y.neighbours ≡ (get_or cs k d).neighbours) where
  view_here : get_or (map view_of cs) k blank ≡ view_of (get_or cs k d)
  view_here = get_or-map view_of cs k d blank (omega arith)

  here : {A : Type 0} (x z : A) → x ≡ cond (ltb k 16) x z
  here x z = sym (cond-true (ltb k 16) x z (lt-ltb k 16 within))

  pub answers : r ≡ answer_at (map view_of cs) k e
  answers = s.value ∙ ap (λ v. answer v e) (sym view_here) ∙ here _ _

  becomes : view_of y ≡ after (view_of (get_or cs k d)) e
  becomes = let p = ap members_of same in let q = s.after in cc

  pub changes : map view_of (set cs k y) ≡ after_at (map view_of cs) k e
  changes = map-set view_of cs k y ∙ ap (set (map view_of cs) k) (becomes ∙ ap (λ v. after v e) (sym view_here)) ∙ here _ _

-- what holds of each of sixteen cabinets holds of what is seen of them
pub planted_all : (ps : List CabinetNo) (cs : List Cabinet) → length cs ≡ 16
    → ((k : ℕ) (d : Cabinet) → k < 16 → PlantedAt ps k (get_or cs k d))
    → PlantedAs ps (map view_of cs)
planted_all ps [] all each = absurd (omega arith)
planted_all ps (d ∷ cs) all each =
    record {
      all = length-map (d ∷ cs) view_of ∙ all;
      models = λ k l. ap (λ v. v.model) (get_or-map view_of (d ∷ cs) k d blank (omega arith)) ∙ (each k d l).model;
      near = λ k n l. ap (λ v. get_or v.members n false) (get_or-map view_of (d ∷ cs) k d blank (omega arith)) ∙ (each k d l).near n;
    }
