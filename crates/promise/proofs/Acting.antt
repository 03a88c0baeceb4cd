-- When an event acts, no edge toward the waiting cabinet becomes dearer.
use Rattle.std.proofs.Common.{◌≡◌, ℕ, ◌-◌, ◌<◌, ◌≤◌, Bool, true, false, cond, eqb, List, [], ◌∷◌, ◌++◌, sym, refl, ap, ◌∙◌, subst, arith}
use Rattle.std.proofs.lemmas.Bool.{cond-true, cond-false}
use Rattle.std.proofs.lemmas.Bool.Decides.{nat_tests}
use Rattle.cable.specs.declared.message.Message.{Message}
use Rattle.cable.specs.declared.message.Message.TheVariants.{Request as REQUEST, Privilege as PRIVILEGE}
use Rattle.cable.specs.declared.number.CabinetNo.{CabinetNo}
use Rattle.cabinet.proofs.Counting.{same_is}
use Rattle.cabinet.proofs.Keeping.{times-push}
use Rattle.cabinet.specs.Models.{acted}
use Rattle.cabinet.specs.Parties.{same, times}
use Rattle.cabinet.specs.declared.event.Event.{Event}
use Rattle.cabinet.specs.declared.event.Event.TheVariants.{Want, Leave, Request, Privilege}
use Rattle.cabinet.specs.declared.party.Party.{Party}
use Rattle.cabinet.specs.declared.party.Party.TheVariants.{Own, Neighbour}
use Rattle.promise.proofs.Ahead.{ahead, ahead-push, behind-push, not_ahead}
use Rattle.promise.proofs.Edges.{EdgeView, EdgeOk, request_due}
use Rattle.promise.proofs.Ends.{Due, aim, other_holder}
use Rattle.promise.proofs.Nets.{InOrder, edge, no}
use Rattle.promise.proofs.Prices.{Falls, Drops, falls_by, near_request, near_privilege, far_request, far_privilege}
use Rattle.promise.proofs.Unmoved.{stay_below, LaneStays, near_changed, far_changed, near_other, far_other, unmoved}
use Rattle.promise.proofs.Worlds.{World, ActsAt, cab_of, lane_of, stay_of, item}

here_none : (v : EdgeView) (rest : List Message) → EdgeOk v → v.back ≡ PRIVILEGE ∷ rest → v.here ≡ 0
here_none v rest ok e = grind arith

module _ (G S : ℕ) (near : ℕ → ℕ → Type 0) (shared : (x y : ℕ) → near x y → near y x) (client : ℕ → Party) (v v' : World) (x : ℕ) (e : Event)
    (s : ActsAt G near v x e v') where
  kept_lane : (y z : ℕ) → near y z → lane_of v' y z ≡ lane_of v y z → LaneStays S client v v' y z
  kept_lane y z h is = record { list = is; calm = s.calm y z h is }

  other_lane : (y z : ℕ) → near y z → (z ≡ x → ⊥) → LaneStays S client v v' y z
  other_lane y z h d = kept_lane y z h (s.rest y z d h)

  pub act_elsewhere : InOrder near v.net → (p c : ℕ) → near p c → (p ≡ x → ⊥) → (c ≡ x → ⊥) → Falls G S (item S client v p c) (item S client v' p c)
  act_elsewhere ok p c h dp dc =
      unmoved S client v v' G p c (ok p c h) (near_other S client v v' x _ s.one p c dp) (far_other S client v v' x _ s.one p c dc) (other_lane p c h dc)
      (other_lane c p (shared p c h) dp)

module _ (G S : ℕ) (near : ℕ → ℕ → Type 0) (apart : (x : ℕ) → near x x → ⊥) (shared : (x y : ℕ) → near x y → near y x) (client : ℕ → Party)
    (v v' : World) (x : ℕ) (ok : InOrder near v.net) where
  other : (y : ℕ) → near x y → y ≡ x → ⊥
  other y h i = apart x (subst (near x) i h)

  module _ (e : Event) (s : ActsAt G near v x e v') where
    near_unmoved : (c : ℕ) → near x c → aim (Neighbour (no c)) (acted (cab_of v x) e) ≡ aim (Neighbour (no c)) (cab_of v x)
        → times (Neighbour (no c)) (acted (cab_of v x) e).queue ≡ times (Neighbour (no c)) (cab_of v x).queue
        → ahead (Neighbour (no c)) (client x) (acted (cab_of v x) e).queue ≡ ahead (Neighbour (no c)) (client x) (cab_of v x).queue
        → lane_of v c x ≡ lane_of v' c x → Falls G S (item S client v x c) (item S client v' x c)
    near_unmoved c h a t f b =
        unmoved S client v v' G x c (ok x c h) (near_changed S client v v' x _ s.one c a t f) (far_other S client v v' x _ s.one x c (other c h))
        (other_lane G S near shared client v v' x e s x c h (other c h)) (kept_lane G S near shared client v v' x e s c x (shared x c h) (sym b))

    far_unmoved : (p : ℕ) → near x p → aim (Neighbour (no p)) (acted (cab_of v x) e) ≡ aim (Neighbour (no p)) (cab_of v x)
        → times (Neighbour (no p)) (acted (cab_of v x) e).queue ≡ times (Neighbour (no p)) (cab_of v x).queue
        → (times (Neighbour (no p)) (cab_of v x).queue ≡ 1 → stay_of S (v.since x) (acted (cab_of v x) e) p ≤ stay_of S (v.since x) (cab_of v x) p)
        → lane_of v p x ≡ lane_of v' p x → Falls G S (item S client v p x) (item S client v' p x)
    far_unmoved p h a t f b =
        unmoved S client v v' G p x (ok p x (shared x p h)) (near_other S client v v' x _ s.one p x (other p h))
        (far_changed S client v v' x _ s.one p a t (λ i. omega (arith, f i, ap (λ k. stay_of S k (acted (cab_of v x) e) p) s.since)))
        (kept_lane G S near shared client v v' x e s p x (shared x p h) (sym b)) (other_lane G S near shared client v v' x e s x p h (other p h))

    -- of an edge that does move, what stays
    out_same : (c : ℕ) → near x c → lane_of v' x c ≡ lane_of v x c
    out_same c h = s.rest x c (other c h) h

    near_is : (c : ℕ) → (item S client v' x c).view.near ≡ aim (Neighbour (no c)) (acted (cab_of v x) e)
    near_is c = ap (aim (Neighbour (no c))) s.one.self

    ahead_is : (c : ℕ) → (item S client v' x c).ahead ≡ ahead (Neighbour (no c)) (client x) (acted (cab_of v x) e).queue
    ahead_is c = ap (λ k. ahead (Neighbour (no c)) (client x) k.queue) s.one.self

    asks_same : (p : ℕ) → near x p → (item S client v' p x).view.near ≡ (item S client v p x).view.near
    asks_same p h = ap (aim (Neighbour (no x))) (s.one.others p (other p h))

  -- by event, for the edge to c at whose near end the event is; the client of x is queued there
  module _ (c : ℕ) (h : near x c) (promised : 0 < times (client x) (cab_of v x).queue) where
    abbrev Nc : Party
    Nc = Neighbour (no c)

    near_request_from : (u : CabinetNo) → ActsAt G near v x (Request u) v' → (t : Bool) → eqb u.0 c ≡ t → Falls G S (item S client v x c) (item S client v' x c)
    near_request_from u s true e =
        let b : lane_of v c x ≡ REQUEST ∷ lane_of v' c x = s.back c h ∙ cond-true _ _ _ e in
        let d = request_due (edge v.net x c) (lane_of v' c x) (ok x c h) b in
        let is : same Nc (Neighbour u) ≡ true = grind (arith, nat_tests) in
        near_request G S _ _ (ok x c h) (lane_of v' c x) b (near_is (Request u) s c) (out_same (Request u) s c h) refl
        (ahead_is (Request u) s c ∙ ap (λ k. ahead Nc (client x) ((cab_of v x).queue ++ k ∷ [])) (sym (same_is Nc (Neighbour u) is))
        ∙ behind-push Nc (client x) (cab_of v x).queue promised d.nobody)
    near_request_from u s false e =
        let is : same Nc (Neighbour u) ≡ false = grind (arith, nat_tests) in
        near_unmoved (Request u) s c h refl
        (omega (arith, times-push (cab_of v x).queue (Neighbour u) Nc, cond-false {A = ℕ} (same Nc (Neighbour u)) 1 0 is))
        (ahead-push Nc (client x) (Neighbour u) (cab_of v x).queue promised) (s.back c h ∙ cond-false _ _ _ e)

    -- the privilege arrives from c
    pub near_privilege_drops : (u : CabinetNo) → ActsAt G near v x (Privilege u) v' → eqb u.0 c ≡ true → Drops G S (item S client v x c) (item S client v' x c)
    near_privilege_drops u s e =
        let b : lane_of v c x ≡ PRIVILEGE ∷ lane_of v' c x = s.back c h ∙ cond-true _ _ _ e in
        let k : EdgeOk (edge v.net x c) = ok x c h in
        let none : times Nc (cab_of v x).queue ≡ 0 = here_none (edge v.net x c) (lane_of v' c x) k b in
        near_privilege G S _ _ k (lane_of v' c x) b (near_is (Privilege u) s c) (out_same (Privilege u) s c h) refl
        (ahead_is (Privilege u) s c ∙ not_ahead Nc (client x) (cab_of v x).queue none)

    near_privilege_from : (u : CabinetNo) → ActsAt G near v x (Privilege u) v' → same (Neighbour u) (cab_of v x).holder ≡ true → (t : Bool) → eqb u.0 c ≡ t
        → Falls G S (item S client v x c) (item S client v' x c)
    near_privilege_from u s due true e = falls_by G S _ _ (near_privilege_drops u s e)
    near_privilege_from u s due false e =
        near_unmoved (Privilege u) s c h (sym (cond-false _ _ _ (other_holder (no c) u (cab_of v x).holder e due))) refl refl
        (s.back c h ∙ cond-false _ _ _ e)

    pub act_near : (e : Event) → ActsAt G near v x e v' → Due (cab_of v x) e → Falls G S (item S client v x c) (item S client v' x c)
    act_near Want s d =
        near_unmoved Want s c h refl (omega (arith, times-push (cab_of v x).queue Own Nc)) (ahead-push Nc (client x) Own (cab_of v x).queue promised) (s.back c h)
    act_near Leave s d = near_unmoved Leave s c h refl refl refl (s.back c h)
    act_near (Request u) s d = near_request_from u s (eqb u.0 c) refl
    act_near (Privilege u) s d = near_privilege_from u s d (eqb u.0 c) refl

  -- the edge from p, at whose far end the event is
  module _ (p : ℕ) (h : near x p) (alone : (cab_of v x).inside ≡ true → times Own (cab_of v x).queue ≡ 0) where
    abbrev Np : Party
    Np = Neighbour (no p)

    -- who joins behind p does not change how long it stands behind a stay
    stay_push : (y : Party) (since : ℕ) → times Np (cab_of v x).queue ≡ 1
        → cond (cab_of v x).inside (S - since) (cond (ahead Own Np ((cab_of v x).queue ++ y ∷ [])) S 0) ≤ stay_of S since (cab_of v x) p
    stay_push y since one =
        omega (arith, ap (λ t. cond (cab_of v x).inside (S - since) (cond {A = ℕ} t S 0)) (ahead-push Own Np y (cab_of v x).queue (omega arith)))

    stay_left : (t : Bool) (since : ℕ) → (cab_of v x).inside ≡ t → cond (ahead Own Np (cab_of v x).queue) S 0 ≤ cond t (S - since) (cond (ahead Own Np (cab_of v x).queue) S 0)
    stay_left true since e = omega (arith, cond-false {A = ℕ} (ahead Own Np (cab_of v x).queue) S 0 (not_ahead Own Np (cab_of v x).queue (alone e)))
    stay_left false since e = omega arith

    -- the request of p arrives, or the privilege from it
    pub far_request_drops : (u : CabinetNo) → ActsAt G near v x (Request u) v' → eqb u.0 p ≡ true → Drops G S (item S client v p x) (item S client v' p x)
    far_request_drops u s e =
        let b : lane_of v p x ≡ REQUEST ∷ lane_of v' p x = s.back p h ∙ cond-true _ _ _ e in
        far_request G S _ _ (ok p x (shared x p h)) (lane_of v' p x) b (asks_same (Request u) s p h) refl (out_same (Request u) s p h)
        (stay_below S (v'.since x) (cab_of v' x) p)

    pub far_privilege_drops : (u : CabinetNo) → ActsAt G near v x (Privilege u) v' → eqb u.0 p ≡ true → Drops G S (item S client v p x) (item S client v' p x)
    far_privilege_drops u s e =
        let b : lane_of v p x ≡ PRIVILEGE ∷ lane_of v' p x = s.back p h ∙ cond-true _ _ _ e in
        far_privilege G S _ _ (ok p x (shared x p h)) (lane_of v' p x) b (asks_same (Privilege u) s p h) refl (out_same (Privilege u) s p h)
        (s.small p x (shared x p h))

    far_request_from : (u : CabinetNo) → ActsAt G near v x (Request u) v' → (t : Bool) → eqb u.0 p ≡ t → Falls G S (item S client v p x) (item S client v' p x)
    far_request_from u s true e = falls_by G S _ _ (far_request_drops u s e)
    far_request_from u s false e =
        let is : same Np (Neighbour u) ≡ false = grind (arith, nat_tests) in
        far_unmoved (Request u) s p h refl (omega (arith, times-push (cab_of v x).queue (Neighbour u) Np, cond-false {A = ℕ} (same Np (Neighbour u)) 1 0 is))
        (stay_push (Neighbour u) (v.since x)) (s.back p h ∙ cond-false _ _ _ e)

    far_privilege_from : (u : CabinetNo) → ActsAt G near v x (Privilege u) v' → same (Neighbour u) (cab_of v x).holder ≡ true → (t : Bool) → eqb u.0 p ≡ t
        → Falls G S (item S client v p x) (item S client v' p x)
    far_privilege_from u s due true e = falls_by G S _ _ (far_privilege_drops u s e)
    far_privilege_from u s due false e =
        far_unmoved (Privilege u) s p h (sym (cond-false _ _ _ (other_holder (no p) u (cab_of v x).holder e due))) refl (λ _. omega arith)
        (s.back p h ∙ cond-false _ _ _ e)

    pub act_far : (e : Event) → ActsAt G near v x e v' → Due (cab_of v x) e → Falls G S (item S client v p x) (item S client v' p x)
    act_far Want s d = far_unmoved Want s p h refl (omega (arith, times-push (cab_of v x).queue Own Np)) (stay_push Own (v.since x)) (s.back p h)
    act_far Leave s d = far_unmoved Leave s p h refl refl (λ _. stay_left (cab_of v x).inside (v.since x) refl) (s.back p h)
    act_far (Request u) s d = far_request_from u s (eqb u.0 p) refl
    act_far (Privilege u) s d = far_privilege_from u s d (eqb u.0 p) refl
