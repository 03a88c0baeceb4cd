-- A new bank over a post on which nothing waits is refused only a list that is no tree.
use Rattle.std.proofs.Common.{◌≡◌, ℕ, zero, suc, Bool, true, false, cond, List, [], Some, None, Ok, Err, Option, sym, refl, ap, ◌∙◌, subst, arith}
use Rattle.cable.specs.Numbers.{lanes}
use Rattle.cable.specs.declared.message.Message.{Message}
use Rattle.cable.specs.declared.number.CabinetNo.{CabinetNo}
use Rattle.cable.specs.declared.refusal.Refusal.{Refusal}
use Rattle.cable.specs.declared.refusal.Refusal.TheVariants.{MessageWaiting, AlreadyPlanted}
use Rattle.promise.specs.Banks.{Transport, Bank as Model}
use Rattle.promise.specs.Calls.{Plants, bare, plant_refusal, busy_below}
use Rattle.tree.specs.Trees.{tree_refusal}
use Rattle.bank.specs.Banks.{New}
use Rattle.script.proofs.Refusing.{why_of}
use Rattle.script.specs.Obeying.{PlantedOver, PlantsTheDraft}
use Rattle.script.specs.Stages.{Draft, Stage}

idle_below : (waiting : ℕ → List Message) → ((l : ℕ) → waiting l ≡ []) → (n : ℕ) → busy_below waiting n ≡ false
idle_below waiting idle zero = refl
idle_below waiting idle (suc n) = rw (idle n, idle_below waiting idle n) refl

-- of a bare bank over an idle post
only_the_list : (is_bare busy : Bool) (o : Option Refusal) → is_bare ≡ true → busy ≡ false
    → cond is_bare (elim o [ Some why ↦ Some why | None ↦ cond busy (Some MessageWaiting) None ]) (Some AlreadyPlanted) ≡ o
only_the_list true false None b i = refl
only_the_list true false (Some why) b i = refl
only_the_list true true o b i = absurd (grind arith)
only_the_list false busy o b i = absurd (grind arith)

module _ {P : Type 0} (T : Transport P) (p : P) (b c : Model P) (ps : List CabinetNo) (new : New p b) (idle : (l : ℕ) → T.waiting p l ≡ []) where
  only_trees : plant_refusal T b ps ≡ tree_refusal ps
  only_trees =
      only_the_list (bare b) (busy_below (T.waiting b.post) lanes) (tree_refusal ps) (rw new.parents refl)
      (subst (λ q. busy_below (T.waiting q) lanes ≡ false) (sym new.post) (idle_below (T.waiting p) idle lanes))

  pub planted_so : Plants T b ps (Ok tt) c → tree_refusal ps ≡ None
  planted_so h = by_refusal (plant_refusal T b ps) refl
    where
      by_refusal : (o : Option Refusal) → plant_refusal T b ps ≡ o → tree_refusal ps ≡ None
      by_refusal None e = sym only_trees ∙ e
      by_refusal (Some why) e = let clash = (h.refused why e).0 in absurd (grind arith)

  pub refused_so : (why : Refusal) → Plants T b ps (Err why) c → tree_refusal ps ≡ Some why
  refused_so why h = by_refusal (plant_refusal T b ps) refl
    where
      by_refusal : (o : Option Refusal) → plant_refusal T b ps ≡ o → tree_refusal ps ≡ Some why
      by_refusal None e = let clash = h.done e in absurd (grind arith)
      by_refusal (Some other) e = sym only_trees ∙ e ∙ ap Some (sym (ap (why_of why) (h.refused other e).0))

-- a draft is planted, if a bank is with its parents
pub drafted_so : {P : Type 0} (T : Transport P) (p : P) (ps : List CabinetNo) (b : Model P) (d : Draft) (t : Stage) → ps ≡ d.parents
    → (PlantedOver T p d.parents b → PlantsTheDraft d t) → (tree_refusal ps ≡ None) × PlantedOver T p ps b
    → (tree_refusal d.parents ≡ None) × PlantsTheDraft d t
drafted_so T p ps b d t is becomes h =
    let there = subst (λ qs. (tree_refusal qs ≡ None) × PlantedOver T p qs b) is h in
    (there.0, becomes there.1)
