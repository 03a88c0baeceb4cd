-- The laws of lanes and neighbours, for every list of parents in order.
use Rattle.std.proofs.Common.{◌≡◌, ℕ, ◌+◌, ◌/◌, ◌%◌, ◌<◌, ◌≤◌, Bool, true, false, cond, eqb, ltb, ◌⊎◌, List, length, Some, None, refl, ap, inl, inr, arith}
use Rattle.std.proofs.lemmas.Bool.{ltb-true, eqb-true, eqb-false}
use Rattle.std.proofs.lemmas.Bool.Decides.{nat_tests}
use Rattle.cable.specs.declared.number.CabinetNo.{CabinetNo}
use Rattle.tree.specs.Laws.{ALaneHasItsTwoAsEnds, TheEndsHaveTheirLane, OneLaneForOnePair, TwoLanesForEachCable, NeighboursAreMutual, NoneIsItsOwnNeighbour, NeighboursHaveALane, Lawful}
use Rattle.tree.specs.Trees.{parent_of, ordered, cable, neighbours, up, down, lanes_of, ends_of, lane_from}
use Rattle.tree.proofs.InOrder.{parent_below}

-- what a cable says of its two ends
pub record IsCable (ps : List CabinetNo) (k p : ℕ) : Type 0 where
  pub some : 0 < k
  pub within : k < length ps
  pub parent : parent_of ps k ≡ p

pub cable_true : (ps : List CabinetNo) (k p : ℕ) → cable ps k p ≡ true → IsCable ps k p
cable_true ps k p e = record { some = grind (arith, nat_tests); within = grind (arith, nat_tests); parent = grind (arith, nat_tests) }

pub cable_from : (ps : List CabinetNo) (k p : ℕ) → IsCable ps k p → cable ps k p ≡ true
cable_from ps k p c = grind (arith, nat_tests)

pub ends_up : (ps : List CabinetNo) (k p : ℕ) → IsCable ps k p → ends_of ps (up k) ≡ Some (k, p)
ends_up ps k p c =
    let l : ltb (up k) (lanes_of ps) ≡ true = grind (arith, nat_tests) in
    let e : eqb (up k % 2) 0 ≡ true = grind (arith, nat_tests) in
    let q : up k / 2 + 1 ≡ k = omega arith in
    simp (l, e, q, c.parent)

pub ends_down : (ps : List CabinetNo) (k p : ℕ) → IsCable ps k p → ends_of ps (down k) ≡ Some (p, k)
ends_down ps k p c =
    let l : ltb (down k) (lanes_of ps) ≡ true = grind (arith, nat_tests) in
    let e : eqb (down k % 2) 0 ≡ false = grind (arith, nat_tests) in
    let q : down k / 2 + 1 ≡ k = omega arith in
    simp (l, e, q, c.parent)

-- lane l runs from a to b: up the cable of a, or down that of b
abbrev pub Runs : List CabinetNo → ℕ → ℕ → ℕ → Type 0
Runs ps a b l = (IsCable ps a b × (l ≡ up a)) ⊎ (IsCable ps b a × (l ≡ down b))

-- which of two tests answered
first_of : (x y : Bool) (p q r : ℕ) → cond x (Some p) (cond y (Some q) None) ≡ Some r
    → ((x ≡ true) × (r ≡ p)) ⊎ ((y ≡ true) × (r ≡ q))
first_of true y p q r e = inl (refl, cc)
first_of false true p q r e = inr (refl, cc)
first_of false false p q r e = let z : ◌≡◌ {A = ℕ} 0 1 = cc in absurd (omega arith)

pub runs_from_lane : (ps : List CabinetNo) (a b l : ℕ) → lane_from ps a b ≡ Some l → Runs ps a b l
runs_from_lane ps a b l e =
    elim (first_of (cable ps a b) (cable ps b a) (up a) (down b) l e)
    [ inl h ↦ inl (cable_true ps a b h.0, h.1) | inr h ↦ inr (cable_true ps b a h.0, h.1) ]

-- the ends that a lane in use has, by the way it runs
either_way : (used even : Bool) (k p a b : ℕ) → cond used (Some (cond {A = ℕ × ℕ} even (k, p) (p, k))) None ≡ Some (a, b)
    → (used ≡ true) × (((even ≡ true) × ((k ≡ a) × (p ≡ b))) ⊎ ((even ≡ false) × ((k ≡ b) × (p ≡ a))))
either_way true true k p a b e =
    let same : ◌≡◌ {A = ℕ × ℕ} (k, p) (a, b) = cc in
    (refl, inl (refl, (ap (λ x. x.0) same, ap (λ x. x.1) same)))
either_way true false k p a b e =
    let same : ◌≡◌ {A = ℕ × ℕ} (p, k) (a, b) = cc in
    (refl, inr (refl, (ap (λ x. x.1) same, ap (λ x. x.0) same)))
either_way false even k p a b e = let z : ◌≡◌ {A = ℕ} 0 1 = cc in absurd (omega arith)

pub runs_from_ends : (ps : List CabinetNo) (a b l : ℕ) → ends_of ps l ≡ Some (a, b) → Runs ps a b l
runs_from_ends ps a b l e =
    let h = either_way (ltb l (lanes_of ps)) (eqb (l % 2) 0) (l / 2 + 1) (parent_of ps (l / 2 + 1)) a b e in
    let used = ltb-true l (lanes_of ps) h.0 in
    elim h.1 [
      | inl w ↦
          let even = eqb-true (l % 2) 0 w.0 in
          inl (record { some = omega arith; within = omega arith; parent = cc (w.1.0, w.1.1) }, omega arith)
      | inr w ↦
          let odd = eqb-false (l % 2) 0 w.0 in
          inr (record { some = omega arith; within = omega arith; parent = cc (w.1.0, w.1.1) }, omega arith)
    ]

pub runs_lane : (ps : List CabinetNo) → ordered 0 ps ≡ true → (a b l : ℕ) → Runs ps a b l → lane_from ps a b ≡ Some l
runs_lane ps o a b l (inl c) = rw (cable_from ps a b c.0, c.1)
runs_lane ps o a b l (inr c) =
    let below = parent_below ps o b c.0.some c.0.within in
    let above = parent_below ps o a in
    let t : cable ps a b ≡ false = grind (arith, nat_tests) in
    let u = cable_from ps b a c.0 in
    rw (t, u, c.1)

pub lane_ends : (ps : List CabinetNo) → ALaneHasItsTwoAsEnds ps
lane_ends ps a b l e =
    elim (runs_from_lane ps a b l e) [ inl c ↦ rw c.1 (ends_up ps a b c.0) | inr c ↦ rw c.1 (ends_down ps b a c.0) ]

pub ends_lane : (ps : List CabinetNo) → ordered 0 ps ≡ true → TheEndsHaveTheirLane ps
ends_lane ps o a b l e = runs_lane ps o a b l (runs_from_ends ps a b l e)

pub lane_once : (ps : List CabinetNo) → OneLaneForOnePair ps
lane_once ps a b c d l e f =
    let g = lane_ends ps a b l e in
    let h = lane_ends ps c d l f in
    let same : ◌≡◌ {A = ℕ × ℕ} (a, b) (c, d) = cc in
    (ap (λ p. p.0) same, ap (λ p. p.1) same)

pub lanes_all : (ps : List CabinetNo) → TwoLanesForEachCable ps
lanes_all ps l = (λ e. grind (arith, nat_tests), λ h. grind (arith, nat_tests))

pub neighbours_mutual : (ps : List CabinetNo) → NeighboursAreMutual ps
neighbours_mutual ps a b = grind (arith, nat_tests)

pub neighbours_other : (ps : List CabinetNo) → ordered 0 ps ≡ true → NoneIsItsOwnNeighbour ps
neighbours_other ps o a =
    let below = parent_below ps o a in
    let t : cable ps a a ≡ false = grind (arith, nat_tests) in
    rw t

-- a number that no cabinet has is nobody's neighbour
pub neighbours_within : (ps : List CabinetNo) → ordered 0 ps ≡ true → (a b : ℕ) → length ps ≤ b → neighbours ps a b ≡ false
neighbours_within ps o a b far = let below = parent_below ps o a in grind (arith, nat_tests)

pub neighbours_lane : (ps : List CabinetNo) → NeighboursHaveALane ps
neighbours_lane ps a b = grind (arith, nat_tests)

pub lawful : (ps : List CabinetNo) → ordered 0 ps ≡ true → Lawful ps
lawful ps o =
    record {
      lower = parent_below ps o;
      ends = lane_ends ps;
      back = ends_lane ps o;
      once = lane_once ps;
      used = lanes_all ps;
      shared = neighbours_mutual ps;
      other = neighbours_other ps o;
      joined = neighbours_lane ps;
    }
