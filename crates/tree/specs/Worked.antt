-- Lists of parents worked out by hand, with why they are refused; and the lanes of one tree, with from where to where they run.
use Rattle.std.specs.Prelude.{◌≡◌, ℕ, List, [], ◌∷◌, map, replicate, Some, None, Option}
use Rattle.std.specs.List.{AllByRecursion}
use Rattle.cable.specs.declared.number.CabinetNo.{CabinetNo}
use Rattle.cable.specs.declared.refusal.Refusal.{Refusal}
use Rattle.cable.specs.declared.refusal.Refusal.TheVariants.{WrongCabinetCount, NotATree}
use Rattle.tree.specs.Trees.{tree_refusal, ends_of}

abbrev pub listed : List ℕ → List CabinetNo
listed = map (λ n. record { 0 = n })

abbrev pub worked_lists : List (List ℕ × Option Refusal)
worked_lists =
    (0 ∷ 0 ∷ 1 ∷ [], None)
    ∷ (0 ∷ [], None)
    ∷ ([], Some WrongCabinetCount)
    ∷ (replicate 16 0, None)
    ∷ (replicate 17 0, Some WrongCabinetCount)
    ∷ (0 ∷ 1 ∷ [], Some NotATree)
    ∷ (1 ∷ 0 ∷ [], Some NotATree)
    ∷ (0 ∷ 0 ∷ 2 ∷ [], Some NotATree)
    ∷ []

abbrev pub TheWorkedListsHold : Type 0
TheWorkedListsHold = AllByRecursion (λ row. tree_refusal (listed row.0) ≡ row.1) worked_lists

abbrev pub worked_tree : List CabinetNo
worked_tree = listed (0 ∷ 0 ∷ 0 ∷ 1 ∷ 1 ∷ [])

abbrev pub worked_lanes : List (ℕ × Option (ℕ × ℕ))
worked_lanes =
    (0, Some (1, 0))
    ∷ (1, Some (0, 1))
    ∷ (2, Some (2, 0))
    ∷ (3, Some (0, 2))
    ∷ (4, Some (3, 1))
    ∷ (5, Some (1, 3))
    ∷ (6, Some (4, 1))
    ∷ (7, Some (1, 4))
    ∷ (8, None)
    ∷ []

abbrev pub TheWorkedLanesHold : Type 0
TheWorkedLanesHold = AllByRecursion (λ row. ends_of worked_tree row.0 ≡ row.1) worked_lanes
