-- A plant that is refused.
use Rattle.std.proofs.Common.{◌≡◌, true, false, cond, List, Some, None, Err, sym, refl, ap, ◌∙◌, arith}
use Rattle.std.proofs.lemmas.Bool.{cond-true, cond-false}
use Rattle.cable.specs.declared.number.CabinetNo.{CabinetNo}
use Rattle.cable.specs.declared.refusal.Refusal.{Refusal}
use Rattle.cable.specs.declared.refusal.Refusal.TheVariants.{AlreadyPlanted, MessageWaiting}
use Rattle.cable.specs.Numbers.{lanes}
use Rattle.promise.specs.Banks.{Transport, Bank as Model}
use Rattle.promise.specs.Calls.{Plants, bare, plant_refusal, busy_below}
use Rattle.tree.specs.Trees.{tree_refusal}

module _ {P : Type 0} (T : Transport P) (b : Model P) (ps : List CabinetNo) (why : Refusal) where
  plant_refused : plant_refusal T b ps ≡ Some why → Plants T b ps (Err why) b
  plant_refused is =
      record {
        refused = λ w e. (let f = sym is ∙ e in let z : why ≡ w = cc in ap Err z, refl);
        done = λ e. let f = sym is ∙ e in absurd (grind arith);
        parents = λ e. let f = sym is ∙ e in absurd (grind arith);
        views = λ e. let f = sym is ∙ e in absurd (grind arith);
        waits = λ e. let f = sym is ∙ e in absurd (grind arith);
        post = λ e. let f = sym is ∙ e in absurd (grind arith);
      }

  pub already_planted : bare b ≡ false → why ≡ AlreadyPlanted → Plants T b ps (Err why) b
  already_planted old is = plant_refused (cond-false _ _ _ old ∙ ap Some (sym is))

  -- no such tree
  pub no_tree : bare b ≡ true → tree_refusal ps ≡ Some why → Plants T b ps (Err why) b
  no_tree new is =
      plant_refused
      (cond-true _ _ _ new
      ∙ ap (λ o. elim o [ Some w ↦ Some w | None ↦ cond (busy_below (T.waiting b.post) lanes) (Some MessageWaiting) None ]) is)
