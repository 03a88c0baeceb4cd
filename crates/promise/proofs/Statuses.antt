-- The statuses of all cabinets and what their edges cost, by the way to the cabinet that waits.
use Rattle.std.proofs.Common.{◌≡◌, ℕ, zero, suc, ◌+◌, ◌-◌, ◌*◌, ◌<◌, ◌≤◌, cond, eqb, List, length, sym, refl, ap, ◌∙◌, subst, ⊎_elim, suc-mul, arith}
use Rattle.std.proofs.lemmas.Bool.{cases_eq}
use Rattle.cable.specs.declared.number.CabinetNo.{CabinetNo}
use Rattle.promise.specs.Promise.{total}
use Rattle.promise.proofs.Orientation.{Rooted, cond_same, cond_other}
use Rattle.promise.proofs.Prices.{Row, comes, goes, sought, promised, unasked, preferred, over, status_of}

-- smaller terms have a smaller sum
pub total_falls : (n : ℕ) (g h : ℕ → ℕ) → ((k : ℕ) → k < n → h k ≤ g k) → total n h ≤ total n g
total_falls zero g h e = omega arith
total_falls (suc n) g h e = omega (arith, e n (omega arith), total_falls n g h (λ k l. e k (omega arith)))

-- and with one that is smaller for good, so is the sum
pub total_drops : (n i : ℕ) (g h : ℕ → ℕ) → i < n → ((k : ℕ) → k < n → h k ≤ g k) → h i + 1 ≤ g i → total n h + 1 ≤ total n g
total_drops zero i g h l e d = absurd (omega arith)
total_drops (suc n) i g h l e d =
    ⊎_elim
    (λ (s : n ≡ i).
    let here : h n + 1 ≤ g n = subst (λ k. h k + 1 ≤ g k) (sym s) d in
    omega (arith, total_falls n g h (λ k b. e k (omega arith))))
    (λ (s : n ≡ i → ⊥). omega (arith, e n (omega arith), total_drops n i g h (omega (arith, s)) (λ k b. e k (omega arith)) d))
    (cases_eq n i)

pub total_below : (n most : ℕ) (g : ℕ → ℕ) → ((k : ℕ) → k < n → g k ≤ most) → total n g ≤ n * most
total_below zero most g e = omega arith
total_below (suc n) most g e = omega (arith, suc-mul n most, e n (omega arith), total_below n most g (λ k l. e k (omega arith)))

-- one of the terms is 0
total_but : (n i most : ℕ) (g : ℕ → ℕ) → i < n → g i ≡ 0 → ((k : ℕ) → k < n → g k ≤ most) → total n g + most ≤ n * most
total_but zero i most g l z e = absurd (omega arith)
total_but (suc n) i most g l z e =
    ⊎_elim
    (λ (s : n ≡ i). omega (arith, suc-mul n most, ap g s, total_below n most g (λ k b. e k (omega arith))))
    (λ (s : n ≡ i → ⊥). omega (arith, suc-mul n most, e n (omega arith), total_but n i most g (omega (arith, s)) z (λ k b. e k (omega arith))))
    (cases_eq n i)

pub total_below_but : (n i most : ℕ) (g : ℕ → ℕ) → i < n → g i ≡ 0 → ((k : ℕ) → k < n → g k ≤ most) → total n g ≤ (n - 1) * most
total_below_but zero i most g l z e = absurd (omega arith)
total_below_but (suc n) i most g l z e =
    let m : suc n - 1 ≡ n = omega arith in
    let h : total (suc n) g ≤ n * most = omega (arith, suc-mul n most, total_but (suc n) i most g l z e) in
    subst (λ k. total (suc n) g ≤ k * most) (sym m) h

pub status_of_few : (x : Row) → status_of x ≤ 2
status_of_few comes = omega arith
status_of_few goes = omega arith
status_of_few sought = omega arith
status_of_few promised = omega arith
status_of_few unasked = omega arith
status_of_few preferred = omega arith
status_of_few over = omega arith

-- the status of the far end of an edge, by the status of its near end and the row of the edge
abbrev pub through : ℕ → Row → ℕ
through zero x = 0
through (suc zero) x = status_of x
through (suc (suc n)) x = 2

-- what an edge costs, by the status of its near end
abbrev pub toll : ℕ → ℕ → ℕ → ℕ
toll full zero cost = 0
toll full (suc zero) cost = cost
toll full (suc (suc n)) cost = full

pub through_few : (s : ℕ) (x : Row) → through s x ≤ 2
through_few zero x = omega arith
through_few (suc zero) x = status_of_few x
through_few (suc (suc n)) x = omega arith

-- only a pledged end pledges the next
pub through_pledged : (s : ℕ) (x : Row) → through s x ≡ 1 → (s ≡ 1) × (status_of x ≡ 1)
through_pledged zero x e = absurd (omega arith)
through_pledged (suc zero) x e = (refl, e)
through_pledged (suc (suc n)) x e = absurd (omega arith)

pub through_falls : (s s' : ℕ) (x x' : Row) → s' ≤ s → (s ≡ 1 → s' ≡ 1 → status_of x' ≤ status_of x) → through s' x' ≤ through s x
through_falls zero zero x x' l h = omega arith
through_falls zero (suc n) x x' l h = absurd (omega arith)
through_falls (suc zero) zero x x' l h = omega arith
through_falls (suc zero) (suc zero) x x' l h = h refl refl
through_falls (suc zero) (suc (suc n)) x x' l h = absurd (omega arith)
through_falls (suc (suc m)) s' x x' l h = through_few s' x'

pub toll_below : (full s k : ℕ) → k ≤ full → toll full s k ≤ full
toll_below full zero k l = omega arith
toll_below full (suc zero) k l = l
toll_below full (suc (suc n)) k l = omega arith

pub toll_falls : (full s s' k k' : ℕ) → s' ≤ s → k' ≤ full → (s ≡ 1 → s' ≡ 1 → k' ≤ k) → toll full s' k' ≤ toll full s k
toll_falls full zero zero k k' l b h = omega arith
toll_falls full zero (suc n) k k' l b h = absurd (omega arith)
toll_falls full (suc zero) zero k k' l b h = omega arith
toll_falls full (suc zero) (suc zero) k k' l b h = h refl refl
toll_falls full (suc zero) (suc (suc n)) k k' l b h = absurd (omega arith)
toll_falls full (suc (suc m)) s' k k' l b h = toll_below full s' k' b

pub toll_drops : (full s s' k k' : ℕ) → s ≡ 1 → s' ≤ s → 1 ≤ k → (s' ≡ 1 → k' + 1 ≤ k) → toll full s' k' + 1 ≤ toll full s k
toll_drops full zero s' k k' e l o h = absurd (omega arith)
toll_drops full (suc zero) zero k k' e l o h = omega arith
toll_drops full (suc zero) (suc zero) k k' e l o h = h refl
toll_drops full (suc zero) (suc (suc n)) k k' e l o h = absurd (omega arith)
toll_drops full (suc (suc m)) s' k k' e l o h = absurd (omega arith)

-- rows c is the row of the edge from next c, its near end, to c, and costs c its price there
module _ {ps : List CabinetNo} {w : ℕ} (r : Rooted ps w) where
  -- 0 done, 1 pledged, 2 open; looks so many edges ahead toward w
  abbrev pub status_in : (ℕ → Row) → ℕ → ℕ → ℕ
  status_in rows zero c = cond (eqb c w) 1 2
  status_in rows (suc f) c = cond (eqb c w) 1 (through (status_in rows f (r.next c)) (rows c))

  abbrev pub dues : ℕ → (ℕ → Row) → (ℕ → ℕ) → ℕ → ℕ → ℕ
  dues full rows costs f c = cond (eqb c w) 0 (toll full (status_in rows f (r.next c)) (costs c))

  goal_at : (rows : ℕ → Row) (f c : ℕ) → c ≡ w → status_in rows f c ≡ 1
  goal_at rows zero c e = cond_same c w 1 2 e
  goal_at rows (suc f) c e = cond_same c w 1 (through (status_in rows f (r.next c)) (rows c)) e

  pub status_goal : (rows : ℕ → Row) (f : ℕ) → status_in rows f w ≡ 1
  status_goal rows f = goal_at rows f w refl

  -- one edge further
  pub status_more : (rows : ℕ → Row) (f c : ℕ) → (c ≡ w → ⊥) → status_in rows (suc f) c ≡ through (status_in rows f (r.next c)) (rows c)
  status_more rows f c d = cond_other c w 1 (through (status_in rows f (r.next c)) (rows c)) d

  pub status_few : (rows : ℕ → Row) (f c : ℕ) → status_in rows f c ≤ 2
  status_few rows f c =
      ⊎_elim (λ (e : c ≡ w). omega (arith, goal_at rows f c e)) (λ (d : c ≡ w → ⊥). by_fuel f d) (cases_eq c w)
    where
      by_fuel : (g : ℕ) → (c ≡ w → ⊥) → status_in rows g c ≤ 2
      by_fuel zero d = omega (arith, cond_other c w 1 2 d)
      by_fuel (suc g) d = omega (arith, status_more rows g c d, through_few (status_in rows g (r.next c)) (rows c))

  -- who has so much to look ahead as its rank needs no more
  pub status_stable : (rows : ℕ → Row) (f c : ℕ) → r.rank c ≤ f → c < length ps → status_in rows (suc f) c ≡ status_in rows f c
  status_stable rows zero c b l =
      ⊎_elim (λ (e : c ≡ w). goal_at rows 1 c e ∙ sym (goal_at rows 0 c e))
      (λ (d : c ≡ w → ⊥). absurd (omega (arith, (r.toward c l d).2))) (cases_eq c w)
  status_stable rows (suc f) c b l =
      ⊎_elim (λ (e : c ≡ w). goal_at rows (suc (suc f)) c e ∙ sym (goal_at rows (suc f) c e))
      (λ (d : c ≡ w → ⊥).
      let t = r.toward c l d in
      status_more rows (suc f) c d ∙ ap (λ s. through s (rows c)) (status_stable rows f (r.next c) (omega (arith, t.2)) t.1)
      ∙ sym (status_more rows f c d)) (cases_eq c w)

  -- who looks ahead as far as any has to
  module _ (rows : ℕ → Row) (f : ℕ) (enough : r.most ≤ f) where
    pub status_settled : (c : ℕ) → c < length ps → status_in rows f c ≡ cond (eqb c w) 1 (through (status_in rows f (r.next c)) (rows c))
    status_settled c l = sym (status_stable rows f c (omega (arith, r.bounded c l)) l)

    pub status_next : (c : ℕ) → c < length ps → (c ≡ w → ⊥) → status_in rows f c ≡ through (status_in rows f (r.next c)) (rows c)
    status_next c l d = status_settled c l ∙ cond_other c w 1 (through (status_in rows f (r.next c)) (rows c)) d

    -- the way to w is pledged from a pledged cabinet on
    pub status_pledged : (c : ℕ) → c < length ps → (c ≡ w → ⊥) → status_in rows f c ≡ 1 → (status_in rows f (r.next c) ≡ 1) × (status_of (rows c) ≡ 1)
    status_pledged c l d e = through_pledged (status_in rows f (r.next c)) (rows c) (sym (status_next c l d) ∙ e)

  -- no status rises if none does behind an end that stays pledged
  pub statuses_fall : (rows rows' : ℕ → Row)
      → ((g c : ℕ) → c < length ps → (c ≡ w → ⊥) → status_in rows g (r.next c) ≡ 1 → status_in rows' g (r.next c) ≡ 1 → status_of (rows' c) ≤ status_of (rows c))
      → (f c : ℕ) → c < length ps → status_in rows' f c ≤ status_in rows f c
  statuses_fall rows rows' falls zero c l = omega arith
  statuses_fall rows rows' falls (suc f) c l =
      ⊎_elim (λ (e : c ≡ w). omega (arith, goal_at rows (suc f) c e, goal_at rows' (suc f) c e))
      (λ (d : c ≡ w → ⊥).
      omega (
        arith,
        status_more rows f c d,
        status_more rows' f c d,
        through_falls (status_in rows f (r.next c)) (status_in rows' f (r.next c)) (rows c) (rows' c)
            (statuses_fall rows rows' falls f (r.next c) (r.toward c l d).1) (falls f c l d),
      )) (cases_eq c w)

  -- the same where all look ahead far enough: the rows need fall at that fuel alone
  module _ (rows rows' : ℕ → Row) (f : ℕ) (enough : r.most ≤ f)
      (falls : (c : ℕ) → c < length ps → (c ≡ w → ⊥) → status_in rows f (r.next c) ≡ 1 → status_in rows' f (r.next c) ≡ 1 → status_of (rows' c) ≤ status_of (rows c)) where
    by_rank : (n c : ℕ) → r.rank c < n → c < length ps → status_in rows' f c ≤ status_in rows f c
    by_rank zero c b l = absurd (omega arith)
    by_rank (suc n) c b l =
        ⊎_elim (λ (e : c ≡ w). omega (arith, goal_at rows f c e, goal_at rows' f c e))
        (λ (d : c ≡ w → ⊥).
        let t = r.toward c l d in
        omega (
          arith,
          status_next rows f enough c l d,
          status_next rows' f enough c l d,
          through_falls (status_in rows f (r.next c)) (status_in rows' f (r.next c)) (rows c) (rows' c)
              (by_rank n (r.next c) (omega (arith, t.2)) t.1) (falls c l d),
        )) (cases_eq c w)

    pub statuses_fall_settled : (c : ℕ) → c < length ps → status_in rows' f c ≤ status_in rows f c
    statuses_fall_settled c l = by_rank (suc (r.rank c)) c (omega arith) l

  dues_none : (full : ℕ) (rows : ℕ → Row) (costs : ℕ → ℕ) (f c : ℕ) → c ≡ w → dues full rows costs f c ≡ 0
  dues_none full rows costs f c e = cond_same c w 0 (toll full (status_in rows f (r.next c)) (costs c)) e

  pub dues_goal : (full : ℕ) (rows : ℕ → Row) (costs : ℕ → ℕ) (f : ℕ) → dues full rows costs f w ≡ 0
  dues_goal full rows costs f = dues_none full rows costs f w refl

  pub dues_other : (full : ℕ) (rows : ℕ → Row) (costs : ℕ → ℕ) (f c : ℕ) → (c ≡ w → ⊥)
      → dues full rows costs f c ≡ toll full (status_in rows f (r.next c)) (costs c)
  dues_other full rows costs f c d = cond_other c w 0 (toll full (status_in rows f (r.next c)) (costs c)) d

  pub dues_below : (full : ℕ) (rows : ℕ → Row) (costs : ℕ → ℕ) (f c : ℕ) → ((c ≡ w → ⊥) → costs c ≤ full) → dues full rows costs f c ≤ full
  dues_below full rows costs f c b =
      ⊎_elim (λ (e : c ≡ w). omega (arith, dues_none full rows costs f c e))
      (λ (d : c ≡ w → ⊥). omega (arith, dues_other full rows costs f c d, toll_below full (status_in rows f (r.next c)) (costs c) (b d)))
      (cases_eq c w)

  pub dues-total_below : (full : ℕ) (rows : ℕ → Row) (costs : ℕ → ℕ) (f : ℕ) → w < length ps
      → ((c : ℕ) → c < length ps → (c ≡ w → ⊥) → costs c ≤ full) → total (length ps) (dues full rows costs f) ≤ (length ps - 1) * full
  dues-total_below full rows costs f within b =
      total_below_but (length ps) w full (dues full rows costs f) within (dues_goal full rows costs f) (λ c l. dues_below full rows costs f c (b c l))

  -- from one family of rows and costs to another
  module _ (full : ℕ) (rows rows' : ℕ → Row) (costs costs' : ℕ → ℕ) (f : ℕ)
      (statuses : (c : ℕ) → c < length ps → status_in rows' f c ≤ status_in rows f c)
      (below : (c : ℕ) → c < length ps → (c ≡ w → ⊥) → costs' c ≤ full)
      (cheaper : (c : ℕ) → c < length ps → (c ≡ w → ⊥) → status_in rows f (r.next c) ≡ 1 → status_in rows' f (r.next c) ≡ 1 → costs' c ≤ costs c) where
    pub dues_fall : (c : ℕ) → c < length ps → dues full rows' costs' f c ≤ dues full rows costs f c
    dues_fall c l =
        ⊎_elim (λ (e : c ≡ w). omega (arith, dues_none full rows costs f c e, dues_none full rows' costs' f c e))
        (λ (d : c ≡ w → ⊥).
        omega (
          arith,
          dues_other full rows costs f c d,
          dues_other full rows' costs' f c d,
          toll_falls full (status_in rows f (r.next c)) (status_in rows' f (r.next c)) (costs c) (costs' c)
              (statuses (r.next c) (r.toward c l d).1) (below c l d) (cheaper c l d),
        )) (cases_eq c w)

    -- an edge behind a pledged end whose price falls for good
    module _ (c : ℕ) (l : c < length ps) (d : c ≡ w → ⊥) (pledged : status_in rows f (r.next c) ≡ 1) (some : 1 ≤ costs c)
        (lower : status_in rows' f (r.next c) ≡ 1 → costs' c + 1 ≤ costs c) where
      pub dues_drop : dues full rows' costs' f c + 1 ≤ dues full rows costs f c
      dues_drop =
          omega (
            arith,
            dues_other full rows costs f c d,
            dues_other full rows' costs' f c d,
            toll_drops full (status_in rows f (r.next c)) (status_in rows' f (r.next c)) (costs c) (costs' c) pledged
                (statuses (r.next c) (r.toward c l d).1) some lower,
          )

      pub dues-total_drop : total (length ps) (dues full rows' costs' f) + 1 ≤ total (length ps) (dues full rows costs f)
      dues-total_drop = total_drops (length ps) c (dues full rows costs f) (dues full rows' costs' f) l dues_fall dues_drop

    pub dues-total_fall : total (length ps) (dues full rows' costs' f) ≤ total (length ps) (dues full rows costs f)
    dues-total_fall = total_falls (length ps) (dues full rows costs f) (dues full rows' costs' f) dues_fall
