-- The cabinets of a bank, by their numbers, and what an event given to one of them does.
use Rattle.std.specs.Prelude.{◌≡◌, ℕ, ◌<◌, Bool, false, cond, List, [], map, length, get_or, Some, None, Ok, Err, Result, nat_lt, slice_index_or, slice_set}
use Rattle.cable.specs.declared.number.CabinetNo.{CabinetNo}
use Rattle.cable.specs.declared.refusal.Refusal.{Refusal}
use Rattle.cable.specs.declared.refusal.Refusal.TheVariants.{NoSuchCabinet}
use Rattle.tree.specs.Planted.{members_of}
use Rattle.tree.specs.Trees.{neighbours}
use Rattle.cabinet.specs.Cabinets.{model_of, has_of}
use Rattle.cabinet.specs.Kept.{near_by}
use Rattle.cabinet.specs.Models.{Model, refused, stepped}
use Rattle.cabinet.specs.Planted.{planted_model}
use Rattle.cabinet.specs.Reactions.{reaction}
use Rattle.cabinet.specs.declared.cabinet.Cabinet.{Cabinet}
use Rattle.cabinet.specs.declared.event.Event.{Event}
use Rattle.cabinet.specs.declared.event.Reaction.{Reaction}
use Rattle.cabinet.specs.declared.table.Table.{Table}

-- what can be seen of one cabinet: by number, which are its neighbours; and its record
pub record View : Type 0 where
  pub members : List Bool
  pub model : Model

abbrev pub view_of : Cabinet → View
view_of c = record { members = members_of c.neighbours; model = model_of c }

abbrev pub views_of : Table → List View
views_of t = map view_of t.cabinets

-- stands in for a cabinet that there is not
abbrev pub blank : View
blank = record { members = []; model = planted_model [] 0 }

abbrev pub answer : View → Event → Result Reaction Refusal
answer v e = elim (refused (near_by v.members) v.model e) [ None ↦ Ok (reaction v.model e) | Some why ↦ Err why ]

abbrev pub after : View → Event → View
after v e =
    record {
      members = v.members;
      model = elim (refused (near_by v.members) v.model e) [ None ↦ stepped v.model e | Some why ↦ v.model ];
    }

abbrev pub answer_at : List View → ℕ → Event → Result Reaction Refusal
answer_at vs k e = cond (nat_lt k 16) (answer (slice_index_or vs k blank) e) (Err NoSuchCabinet)

-- one cabinet's record is changed, and no other's
abbrev pub after_at : List View → ℕ → Event → List View
after_at vs k e = cond (nat_lt k 16) (slice_set vs k (after (slice_index_or vs k blank) e)) vs

-- a cabinet as the list of parents plants it at number k
pub record PlantedAt (ps : List CabinetNo) (k : ℕ) (c : Cabinet) : Type 0 where
  pub model : model_of c ≡ planted_model ps k
  pub near : (n : ℕ) → has_of c n ≡ neighbours ps k n

-- sixteen cabinets, each as the list of parents plants it
pub record PlantedAs (ps : List CabinetNo) (vs : List View) : Type 0 where
  pub all : length vs ≡ 16
  pub models : (k : ℕ) → k < 16 → (get_or vs k blank).model ≡ planted_model ps k
  pub near : (k n : ℕ) → k < 16 → slice_index_or (get_or vs k blank).members n false ≡ neighbours ps k n
