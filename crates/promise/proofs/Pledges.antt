-- What all edges together may still cost the waiting cabinet w, and that no step makes it more.
use Rattle.std.proofs.Common.{◌≡◌, ℕ, ◌+◌, ◌-◌, ◌*◌, ◌<◌, ◌≤◌, true, cond, eqb, ◌⊎◌, List, length, sym, ap, ◌∙◌, subst, inl, inr, ⊎_elim, arith}
use Rattle.std.proofs.lemmas.Bool.{cases_eq, cond-true, cond-false, eq-eqb, ne_eqb}
use Rattle.cable.specs.declared.number.CabinetNo.{CabinetNo}
use Rattle.cabinet.specs.Parties.{times}
use Rattle.cabinet.specs.declared.event.Event.{Event}
use Rattle.cabinet.specs.declared.party.Party.{Party}
use Rattle.cabinet.specs.declared.party.Party.TheVariants.{Own, Neighbour}
use Rattle.promise.proofs.Acting.{act_near, act_far, act_elsewhere}
use Rattle.promise.proofs.Assigning.{assign_near, assign_far, assign_elsewhere}
use Rattle.promise.proofs.Calling.{ask_near, ask_far, ask_elsewhere}
use Rattle.promise.proofs.Ends.{Due}
use Rattle.promise.proofs.Nets.{InOrder, no}
use Rattle.promise.proofs.Orientation.{Rooted}
use Rattle.promise.proofs.Prices.{Row, promised, row, status_of, price, full, row_below, row_promised, Falls}
use Rattle.promise.proofs.Statuses.{status_in, dues, status_pledged, statuses_fall_settled, dues-total_fall, dues-total_drop, dues-total_below, dues_other, toll}
use Rattle.promise.proofs.Totals.{total_one}
use Rattle.promise.proofs.Unmoved.{stay_below}
use Rattle.promise.proofs.Worlds.{World, ActsAt, AssignsAt, AsksAt, cab_of, item}
use Rattle.promise.specs.Promise.{total}
use Rattle.tree.proofs.Cables.{neighbours_mutual, neighbours_other}
use Rattle.tree.specs.Trees.{ordered, neighbours}

pub one_is_promised : (x : Row) → status_of x ≡ 1 → x ≡ promised
one_is_promised x e = grind arith

module _ (ps : List CabinetNo) (grown : ordered 0 ps ≡ true) (G S w : ℕ) (r : Rooted ps w) where
  abbrev pub near : ℕ → ℕ → Type 0
  near x y = neighbours ps x y ≡ true

  pub apart : (x : ℕ) → near x x → ⊥
  apart x h = let z = sym (neighbours_other ps grown x) ∙ h in absurd (grind arith)

  pub shared : (x y : ℕ) → near x y → near y x
  shared x y h = neighbours_mutual ps y x ∙ h

  -- for whom a cabinet that is pledged has promised the privilege
  abbrev pub client : ℕ → Party
  client p = cond (eqb p w) Own (Neighbour (no (r.next p)))

  abbrev pub rows_of : World → ℕ → Row
  rows_of v c = row (item S client v (r.next c) c)

  abbrev pub costs_of : World → ℕ → ℕ
  costs_of v c = price G S (item S client v (r.next c) c)

  abbrev pub pledge : World → ℕ → ℕ
  pledge v c = status_in r (rows_of v) r.most c

  abbrev pub owed : World → ℕ
  owed v = total (length ps) (dues r (full G S) (rows_of v) (costs_of v) r.most)

  -- w waits, and all is as it is after every step
  pub record Waiting (v : World) : Type 0 where
    pub edges : InOrder near v.net
    pub small : (y z : ℕ) → near y z → v.allow y z < G
    pub waits : 0 < times Own (cab_of v w).queue

  cost_below : (v : World) → ((y z : ℕ) → near y z → v.allow y z < G) → (c : ℕ) → c < length ps → (c ≡ w → ⊥) → costs_of v c ≤ full G S
  cost_below v small c l d =
      let t = r.toward c l d in
      row_below G S (rows_of v c) (item S client v (r.next c) c) (small (r.next c) c (shared c (r.next c) t.0)) (small c (r.next c) t.0)
      (stay_below S (v.since c) (cab_of v c) (r.next c))

  -- a pledged cabinet has the one for whom it promised in its queue
  pub client_queued : (v : World) → Waiting v → (p : ℕ) → p < length ps → pledge v p ≡ 1 → 0 < times (client p) (cab_of v p).queue
  client_queued v k p l one =
      ⊎_elim
      (λ (i : p ≡ w). subst (λ a. 0 < times a (cab_of v p).queue) (sym (cond-true _ _ _ (eq-eqb p w i)))
      (subst (λ x. 0 < times Own (cab_of v x).queue) (sym i) k.waits))
      (λ (i : p ≡ w → ⊥).
      let t = r.toward p l i in
      let s = status_pledged r (rows_of v) r.most (omega arith) p l i one in
      let there = row_promised (item S client v (r.next p) p) (k.edges (r.next p) p (shared p (r.next p) t.0)) (one_is_promised (rows_of v p) s.1) in
      subst (λ a. 0 < times a (cab_of v p).queue) (sym (cond-false _ _ _ (ne_eqb p w i))) (omega (arith, there)))
      (cases_eq p w)

  -- an edge behind a pledged cabinet counts
  pub owed_some : (v : World) (c : ℕ) → c < length ps → (c ≡ w → ⊥) → pledge v (r.next c) ≡ 1 → 1 ≤ costs_of v c → 1 ≤ owed v
  owed_some v c l d one some =
      omega (
        arith,
        total_one (length ps) c (dues r (full G S) (rows_of v) (costs_of v) r.most) l,
        dues_other r (full G S) (rows_of v) (costs_of v) r.most c d,
        ap (λ s. toll (full G S) s (costs_of v c)) one,
        some,
      )

  -- where no pledged edge becomes dearer, all together do not
  module _ (v v' : World) (k : Waiting v) (k' : Waiting v')
      (each : (c : ℕ) → c < length ps → (c ≡ w → ⊥) → pledge v (r.next c) ≡ 1 → pledge v' (r.next c) ≡ 1
      → Falls G S (item S client v (r.next c) c) (item S client v' (r.next c) c)) where
    pub pledges_fall : (c : ℕ) → c < length ps → pledge v' c ≤ pledge v c
    pledges_fall =
        statuses_fall_settled r (rows_of v) (rows_of v') r.most (omega arith) (λ c l d a b. (each c l d a b).status)

    pub owed_falls : owed v' ≤ owed v
    owed_falls =
        dues-total_fall r (full G S) (rows_of v) (rows_of v') (costs_of v) (costs_of v') r.most pledges_fall (cost_below v' k'.small)
        (λ c l d a b. (each c l d a b).price)

    -- an edge behind a pledged cabinet: it falls for good, or the cabinet is pledged no more
    module _ (c : ℕ) (l : c < length ps) (d : c ≡ w → ⊥) (one : pledge v (r.next c) ≡ 1) (some : 1 ≤ costs_of v c) where
      pub owed_drops : (pledge v' (r.next c) ≡ 1 → costs_of v' c + 1 ≤ costs_of v c) → owed v' + 1 ≤ owed v
      owed_drops lower =
          dues-total_drop r (full G S) (rows_of v) (rows_of v') (costs_of v) (costs_of v') r.most pledges_fall (cost_below v' k'.small)
          (λ i li di a b. (each i li di a b).price) c l d one some lower

      pub drops_or_pledged : (owed v' + 1 ≤ owed v) ⊎ (pledge v' (r.next c) ≡ 1)
      drops_or_pledged =
          ⊎_elim (λ (e : pledge v' (r.next c) ≡ 1). inr e) (λ (n : pledge v' (r.next c) ≡ 1 → ⊥). inl (owed_drops (λ e. absurd (n e))))
          (cases_eq (pledge v' (r.next c)) 1)

  pub owed_below : (v : World) → ((y z : ℕ) → near y z → v.allow y z < G) → w < length ps → owed v ≤ (length ps - 1) * full G S
  owed_below v small l = dues-total_below r (full G S) (rows_of v) (costs_of v) r.most l (cost_below v small)

  -- by step
  module _ (v v' : World) (x : ℕ) (k : Waiting v) (k' : Waiting v') where
    -- the edge to c, by where the step is
    by_end : (c : ℕ) → near (r.next c) c → (r.next c ≡ x → Falls G S (item S client v x c) (item S client v' x c))
        → (c ≡ x → Falls G S (item S client v (r.next c) x) (item S client v' (r.next c) x))
        → ((r.next c ≡ x → ⊥) → (c ≡ x → ⊥) → Falls G S (item S client v (r.next c) c) (item S client v' (r.next c) c))
        → Falls G S (item S client v (r.next c) c) (item S client v' (r.next c) c)
    by_end c h a b e =
        ⊎_elim (λ (i : r.next c ≡ x). subst (λ p. Falls G S (item S client v p c) (item S client v' p c)) (sym i) (a i))
        (λ (i : r.next c ≡ x → ⊥). ⊎_elim
        (λ (j : c ≡ x). subst (λ y. Falls G S (item S client v (r.next c) y) (item S client v' (r.next c) y)) (sym j) (b j)) (λ (j : c ≡ x → ⊥). e i j) (cases_eq c x))
        (cases_eq (r.next c) x)

    toward_it : (c : ℕ) → c < length ps → (c ≡ w → ⊥) → near (r.next c) c
    toward_it c l d = shared c (r.next c) (r.toward c l d).0

    -- the client of x is queued there, if x is pledged
    at_x : (u : World) → Waiting u → (c : ℕ) → c < length ps → (c ≡ w → ⊥) → r.next c ≡ x → pledge u (r.next c) ≡ 1 → 0 < times (client x) (cab_of u x).queue
    at_x u ku c l d i one =
        subst (λ p. 0 < times (client p) (cab_of u p).queue) i (client_queued u ku (r.next c) (r.toward c l d).1 one)

    pub acts_each : (e : Event) → ActsAt G near v x e v' → Due (cab_of v x) e → ((cab_of v x).inside ≡ true → times Own (cab_of v x).queue ≡ 0)
        → (c : ℕ) → c < length ps → (c ≡ w → ⊥) → pledge v (r.next c) ≡ 1 → pledge v' (r.next c) ≡ 1
        → Falls G S (item S client v (r.next c) c) (item S client v' (r.next c) c)
    acts_each e s due alone c l d one one' =
        let h = toward_it c l d in
        by_end c h
        (λ i. act_near G S near apart shared client v v' x k.edges c (subst (λ p. near p c) i h) (at_x v k c l d i one) e s due)
        (λ j. act_far G S near apart shared client v v' x k.edges (r.next c) (shared (r.next c) x (subst (near (r.next c)) j h)) alone e s due)
        (λ i j. act_elsewhere G S near shared client v v' x e s k.edges (r.next c) c h i j)

    pub assigns_each : AssignsAt G near v x v' → ((p : Party) → times p (cab_of v x).queue ≤ 1)
        → (c : ℕ) → c < length ps → (c ≡ w → ⊥) → pledge v (r.next c) ≡ 1 → pledge v' (r.next c) ≡ 1
        → Falls G S (item S client v (r.next c) c) (item S client v' (r.next c) c)
    assigns_each s once c l d one one' =
        let h = toward_it c l d in
        by_end c h
        (λ i. assign_near G S near apart shared client v v' x s k.edges once c (subst (λ p. near p c) i h)
        (subst (λ m. 0 < times (client x) m.queue) s.one.self (at_x v' k' c l d i one')))
        (λ j. assign_far G S near apart shared client v v' x s k.edges once (r.next c) (shared (r.next c) x (subst (near (r.next c)) j h)))
        (λ i j. assign_elsewhere G S near apart shared client v v' x s k.edges once (r.next c) c h i j)

    pub asks_each : AsksAt G near v x v' → (c : ℕ) → c < length ps → (c ≡ w → ⊥) → pledge v (r.next c) ≡ 1 → pledge v' (r.next c) ≡ 1
        → Falls G S (item S client v (r.next c) c) (item S client v' (r.next c) c)
    asks_each s c l d one one' =
        let h = toward_it c l d in
        by_end c h (λ i. ask_near G S near apart shared client v v' x s k.edges c (subst (λ p. near p c) i h))
        (λ j. ask_far G S near apart shared client v v' x s k.edges (r.next c) (shared (r.next c) x (subst (near (r.next c)) j h)))
        (λ i j. ask_elsewhere G S near apart shared client v v' x s k.edges (r.next c) c h i j)
