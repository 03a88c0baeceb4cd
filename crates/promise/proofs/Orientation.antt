-- Every cabinet of a tree can be the goal toward which all edges point.
use Rattle.std.proofs.Common.{◌≡◌, ℕ, zero, suc, ◌+◌, ◌<◌, ◌≤◌, true, cond, eqb, ◌⊎◌, List, length, sym, refl, ap, ◌∙◌, subst, inl, inr, ⊎_elim, arith}
use Rattle.std.proofs.lemmas.Bool.{cases_eq, cond-true, cond-false, eq-eqb, ne_eqb, or_cases, or_left}
use Rattle.cable.specs.declared.number.CabinetNo.{CabinetNo}
use Rattle.tree.specs.Trees.{parent_of, ordered, cable, neighbours}
use Rattle.tree.proofs.Cables.{cable_true, cable_from, neighbours_mutual}
use Rattle.tree.proofs.InOrder.{parent_below}

pub record Rooted (ps : List CabinetNo) (w : ℕ) : Type 0 where
  -- for each other cabinet its neighbour toward w
  pub next : ℕ → ℕ
  -- falls along next
  pub rank : ℕ → ℕ
  -- no rank is larger
  pub most : ℕ
  pub goal : rank w ≡ 0
  pub bounded : (c : ℕ) → c < length ps → rank c ≤ most
  pub toward : (c : ℕ) → c < length ps → (c ≡ w → ⊥) → (neighbours ps c (next c) ≡ true) × (next c < length ps) × (rank (next c) < rank c)
  pub either : (a b : ℕ) → neighbours ps a b ≡ true → ((a ≡ w → ⊥) × (next a ≡ b)) ⊎ ((b ≡ w → ⊥) × (next b ≡ a))

-- a choice between two numbers, by whether c is k
pub cond_same : (c k x y : ℕ) → c ≡ k → cond (eqb c k) x y ≡ x
cond_same c k x y e = cond-true _ _ _ (eq-eqb c k e)

pub cond_other : (c k x y : ℕ) → (c ≡ k → ⊥) → cond (eqb c k) x y ≡ y
cond_other c k x y d = cond-false _ _ _ (ne_eqb c k d)

module _ (ps : List CabinetNo) (o : ordered 0 ps ≡ true) where
  up_cable : (k : ℕ) → 0 < k → k < length ps → neighbours ps k (parent_of ps k) ≡ true
  up_cable k some l = or_left _ _ (cable_from ps k (parent_of ps k) (record { some = some; within = l; parent = refl }))

  up_from : (a b : ℕ) → cable ps a b ≡ true → (a ≡ 0 → ⊥) × (parent_of ps a ≡ b)
  up_from a b e = let c = cable_true ps a b e in (λ z. omega arith, c.parent)

  -- toward the root
  at_root : Rooted ps 0
  at_root =
      record {
        next = parent_of ps;
        rank = λ c. c;
        most = length ps;
        goal = refl;
        bounded = λ c l. omega arith;
        toward = λ c l d. let some : 0 < c = omega (arith, d) in let b = parent_below ps o c some l in (up_cable c some l, omega arith, b);
        either = λ a b e.
            ⊎_elim (λ (c : cable ps a b ≡ true). inl (up_from a b c)) (λ (c : cable ps b a ≡ true). inr (up_from b a c))
            (or_cases (cable ps a b) (cable ps b a) e);
      }

  -- from the goal q to its neighbour w: the arrow between them turns round
  module _ (q w : ℕ) (r : Rooted ps q) (joined : neighbours ps w q ≡ true) (other : w ≡ q → ⊥) (within : w < length ps) where
    turned_next : ℕ → ℕ
    turned_next c = cond (eqb c q) w (r.next c)

    turned_rank : ℕ → ℕ
    turned_rank c = cond (eqb c w) 0 (r.rank c + 1)

    at_q : (c : ℕ) → c ≡ q → turned_next c ≡ w
    unfolding turned_next
    at_q c e = cond_same c q w (r.next c) e

    off_q : (c : ℕ) → (c ≡ q → ⊥) → turned_next c ≡ r.next c
    unfolding turned_next
    off_q c d = cond_other c q w (r.next c) d

    rank_at : (c : ℕ) → c ≡ w → turned_rank c ≡ 0
    unfolding turned_rank
    rank_at c e = cond_same c w 0 (r.rank c + 1) e

    rank_off : (c : ℕ) → (c ≡ w → ⊥) → turned_rank c ≡ r.rank c + 1
    unfolding turned_rank
    rank_off c d = cond_other c w 0 (r.rank c + 1) d

    rank_low : (c : ℕ) → turned_rank c ≤ r.rank c + 1
    rank_low c =
        ⊎_elim (λ (e : c ≡ w). omega (arith, rank_at c e)) (λ (d : c ≡ w → ⊥). omega (arith, rank_off c d)) (cases_eq c w)

    turned_bounded : (c : ℕ) → c < length ps → turned_rank c ≤ r.most + 1
    turned_bounded c l = omega (arith, rank_low c, r.bounded c l)

    turned_toward : (c : ℕ) → c < length ps → (c ≡ w → ⊥)
        → (neighbours ps c (turned_next c) ≡ true) × (turned_next c < length ps) × (turned_rank (turned_next c) < turned_rank c)
    turned_toward c l d =
        ⊎_elim
        (λ (e : c ≡ q).
        let n = at_q c e in (
          subst (λ x. neighbours ps c x ≡ true) (sym n) (subst (λ x. neighbours ps x w ≡ true) (sym e) (neighbours_mutual ps q w ∙ joined)),
          omega (arith, n, within),
          omega (arith, rank_at (turned_next c) n, rank_off c d),
        ))
        (λ (e : c ≡ q → ⊥).
        let n = off_q c e in
        let t = r.toward c l e in (
          subst (λ x. neighbours ps c x ≡ true) (sym n) t.0,
          omega (arith, n, t.1),
          omega (arith, rank_low (turned_next c), ap r.rank n, t.2, rank_off c d),
        )) (cases_eq c q)

    w_to_q : r.next w ≡ q
    w_to_q =
        ⊎_elim (λ (h : (w ≡ q → ⊥) × (r.next w ≡ q)). h.1) (λ (h : (q ≡ q → ⊥) × (r.next q ≡ w)). absurd (h.0 refl)) (r.either w q joined)

    -- an arrow that was there still is, or it is the one that turned round
    kept : (a b : ℕ) → (a ≡ q → ⊥) → r.next a ≡ b → ((a ≡ w → ⊥) × (turned_next a ≡ b)) ⊎ ((b ≡ w → ⊥) × (turned_next b ≡ a))
    kept a b d e =
        ⊎_elim
        (λ (i : a ≡ w).
        let b_q : b ≡ q = sym e ∙ ap r.next i ∙ w_to_q in
        inr (λ z. other (sym z ∙ b_q), at_q b b_q ∙ sym i))
        (λ (n : a ≡ w → ⊥). inl (n, off_q a d ∙ e)) (cases_eq a w)

    turned_either : (a b : ℕ) → neighbours ps a b ≡ true → ((a ≡ w → ⊥) × (turned_next a ≡ b)) ⊎ ((b ≡ w → ⊥) × (turned_next b ≡ a))
    turned_either a b e =
        ⊎_elim (λ (h : (a ≡ q → ⊥) × (r.next a ≡ b)). kept a b h.0 h.1)
        (λ (h : (b ≡ q → ⊥) × (r.next b ≡ a)). ⊎_elim
        (λ (k : (b ≡ w → ⊥) × (turned_next b ≡ a)). inr k) (λ (k : (a ≡ w → ⊥) × (turned_next a ≡ b)). inl k)
        (kept b a h.0 h.1)) (r.either a b e)

    turned : Rooted ps w
    turned =
        record {
          next = turned_next;
          rank = turned_rank;
          most = r.most + 1;
          goal = rank_at w refl;
          bounded = turned_bounded;
          toward = turned_toward;
          either = turned_either;
        }

  rooted_below : (f w : ℕ) → w < f → w < length ps → Rooted ps w
  rooted_below zero w b l = absurd (omega arith)
  rooted_below (suc f) zero b l = at_root
  rooted_below (suc f) (suc v) b l =
      let w : ℕ = suc v in
      let p : parent_of ps w < w = parent_below ps o w (omega arith) l in
      turned (parent_of ps w) w (rooted_below f (parent_of ps w) (omega arith) (omega arith)) (up_cable w (omega arith) l) (λ e. omega arith) l

pub rooted : (ps : List CabinetNo) → ordered 0 ps ≡ true → (w : ℕ) → w < length ps → Rooted ps w
rooted ps o w l = rooted_below ps o (suc w) w (omega arith) l
