-- Lists of parents in order: what the order says of each entry, and back.
use Rattle.std.proofs.Common.{◌≡◌, ℕ, zero, suc, ◌+◌, ◌<◌, Bool, true, false, List, [], ◌∷◌, length, sym, refl, ◌∙◌, ⊎_elim, arith}
use Rattle.std.proofs.lemmas.Bool.{and_parts, cases_Bool}
use Rattle.std.proofs.lemmas.Bool.Decides.{nat_tests}
use Rattle.std.specs.Prelude.{◌↔◌, IsTrue, EachIndex}
use Rattle.cable.specs.declared.number.CabinetNo.{CabinetNo}
use Rattle.tree.specs.Laws.{AParentIsLower}
use Rattle.tree.specs.Trees.{parent_of, lower, ordered}

-- what stands k places behind place j is lower
entry_lower : (ps : List CabinetNo) (j k : ℕ) → ordered j ps ≡ true → k < length ps → lower (j + k) (parent_of ps k) ≡ true
entry_lower [] j k o l = absurd (omega arith)
entry_lower (p ∷ ps) j zero o l =
    let e : j + 0 ≡ j = omega arith in
    rw e (and_parts (lower j p.0) (ordered (suc j) ps) o).0
entry_lower (p ∷ ps) j (suc k) o l =
    let e : j + suc k ≡ suc j + k = omega arith in
    rw e (entry_lower ps (suc j) k (and_parts (lower j p.0) (ordered (suc j) ps) o).1 (omega arith))

entries_ordered : (ps : List CabinetNo) (j : ℕ) → ((k : ℕ) → k < length ps → lower (j + k) (parent_of ps k) ≡ true) → ordered j ps ≡ true
entries_ordered [] j h = refl
entries_ordered (p ∷ ps) j h =
    let e : j + 0 ≡ j = omega arith in
    let here : lower j p.0 ≡ true = rw e at (h 0 (omega arith)) in
    let later = entries_ordered ps (suc j) (λ k l. let e : j + suc k ≡ suc j + k = omega arith in rw e at (h (suc k) (omega arith))) in
    rw (here, later)

-- a test of each entry is a test of the order
pub in_order : (ps : List CabinetNo) (b : Bool) → IsTrue b ↔ EachIndex ps (λ k. lower k (parent_of ps k) ≡ true) → b ≡ ordered 0 ps
in_order ps true h =
    sym (entries_ordered ps 0 (λ k l. let e : 0 + k ≡ k = omega arith in rw e (h.0 refl k l)))
in_order ps false h =
    ⊎_elim
    (λ (o : ordered 0 ps ≡ true). h.1 (λ k l. let e : 0 + k ≡ k = omega arith in rw e at (entry_lower ps 0 k o l)) ∙ sym o)
    (λ (o : ordered 0 ps ≡ false). sym o) (cases_Bool (ordered 0 ps))

pub parent_below : (ps : List CabinetNo) → ordered 0 ps ≡ true → AParentIsLower ps
parent_below ps o k some l =
    let e : 0 + k ≡ k = omega arith in
    let h : lower k (parent_of ps k) ≡ true = rw e at (entry_lower ps 0 k o l) in
    grind (arith, nat_tests)
