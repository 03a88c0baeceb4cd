-- When the privilege is assigned, no edge toward the waiting cabinet becomes dearer.
use Rattle.std.proofs.Common.{◌≡◌, ℕ, ◌-◌, ◌<◌, ◌≤◌, Bool, true, false, cond, not, ◌&&◌, eqb, [], ◌∷◌, ◌++◌, Some, None, Option, sym, refl, ap, ◌∙◌, subst, ⊎_elim, arith}
use Rattle.std.proofs.lemmas.Bool.{cases_Bool, cond-true, cond-false}
use Rattle.std.proofs.lemmas.Bool.Decides.{nat_tests}
use Rattle.cable.specs.Rows.{oldest, rest}
use Rattle.cable.specs.declared.message.Message.TheVariants.{Privilege as PRIVILEGE}
use Rattle.cable.specs.declared.number.CabinetNo.{CabinetNo}
use Rattle.cabinet.proofs.Counting.{same_is, same_self}
use Rattle.cabinet.proofs.LawsHold.{oldest-rest, some_served}
use Rattle.cabinet.specs.Models.{Model, served, given, assigned}
use Rattle.cabinet.specs.Parties.{own, same, times}
use Rattle.cabinet.specs.declared.party.Party.{Party}
use Rattle.cabinet.specs.declared.party.Party.TheVariants.{Own, Neighbour}
use Rattle.promise.proofs.Ahead.{ahead, ahead-rest, front_ahead}
use Rattle.promise.proofs.Edges.{away, EdgeView, EdgeOk}
use Rattle.promise.proofs.Ends.{aim, passed, own_elsewhere}
use Rattle.promise.proofs.Nets.{InOrder, edge, no}
use Rattle.promise.proofs.Prices.{Falls, near_serves, far_serves}
use Rattle.promise.proofs.Unmoved.{stay_below, LaneStays, near_changed, far_changed, near_other, far_other, unmoved, puts_elsewhere, puts_nothing}
use Rattle.promise.proofs.Worlds.{World, OneChanges, AssignsAt, cab_of, lane_of, stay_of, item}

out_none : (v : EdgeView) → EdgeOk v → v.near ≡ away → v.here ≡ 1 → v.out ≡ []
out_none v ok n h = grind arith

-- somebody is served: the privilege is here and free, and the asker stood in front
record Serving (m : Model) (a : Party) : Type 0 where
  home : own m.holder ≡ true
  free : m.inside ≡ false
  front : m.queue ≡ a ∷ rest m.queue

serving : (m : Model) (a : Party) → served m ≡ Some a → Serving m a
serving m a s =
    let f = some_served (own m.holder && not m.inside) (oldest m.queue) a s in
    let t = f.0 in
    record { home = grind arith; free = grind arith; front = oldest-rest m.queue a f.1 }

-- another party than the one in front is as often behind it
times-behind : (m : Model) (a p : Party) → Serving m a → same p a ≡ false → times p (rest m.queue) ≡ times p m.queue
times-behind m a p s d = omega (arith, ap (times p) s.front, cond-false {A = ℕ} (same p a) 1 0 d)

ahead-behind : (m : Model) (a p q : Party) → Serving m a → same p a ≡ false → same q a ≡ false → ahead p q (rest m.queue) ≡ ahead p q m.queue
ahead-behind m a p q s d e = sym (ap (ahead p q) s.front ∙ ahead-rest p q a (rest m.queue) d e)

home_away : (m : Model) (a : Party) (n : CabinetNo) → Serving m a → aim (Neighbour n) m ≡ away
home_away m a n s = cond-false _ _ _ (own_elsewhere n m.holder s.home)

-- whoever is still queued, of those that stand there once, was not the one in front
not_front : (m : Model) (a q : Party) → Serving m a → times q m.queue ≤ 1 → 0 < times q (rest m.queue) → same q a ≡ false
not_front m a q s once h =
    ⊎_elim (λ (e : same q a ≡ true). absurd (omega (arith, ap (times q) s.front, cond-true {A = ℕ} (same q a) 1 0 e, once)))
    (λ (e : same q a ≡ false). e) (cases_Bool (same q a))

module _ (G S : ℕ) (near : ℕ → ℕ → Type 0) (apart : (x : ℕ) → near x x → ⊥) (shared : (x y : ℕ) → near x y → near y x) (client : ℕ → Party)
    (v v' : World) (x : ℕ) (s : AssignsAt G near v x v') (ok : InOrder near v.net) (once : (p : Party) → times p (cab_of v x).queue ≤ 1) where
  abbrev m : Model
  m = cab_of v x

  -- cabinet y, at the other end of an edge of x
  module _ (y : ℕ) (h : near x y) where
    abbrev Ny : Party
    Ny = Neighbour (no y)

    not_x : y ≡ x → ⊥
    not_x i = apart x (subst (near x) i h)

    lane_back : LaneStays S client v v' y x
    lane_back = puts_elsewhere G S near client v v' x _ s.puts y x not_x (shared x y h)

    one_as : (o : Option Party) → served m ≡ o → OneChanges v x (given o m) v'
    one_as o e = subst (λ q. OneChanges v x (given q m) v') e s.one

    lane_there : (o : Option Party) → served m ≡ o → passed (no y) o ≡ [] → LaneStays S client v v' x y
    lane_there o e none = puts_nothing G S near client v v' x _ s.puts y h (ap (passed (no y)) e ∙ none)

    unmoved_near : (o : Option Party) → served m ≡ o → passed (no y) o ≡ [] → aim Ny (given o m) ≡ aim Ny m → times Ny (given o m).queue ≡ times Ny m.queue
        → ahead Ny (client x) (given o m).queue ≡ ahead Ny (client x) m.queue → Falls G S (item S client v x y) (item S client v' x y)
    unmoved_near o e none a t f =
        unmoved S client v v' G x y (ok x y h) (near_changed S client v v' x _ (one_as o e) y a t f) (far_other S client v v' x _ s.one x y not_x)
        (lane_there o e none) lane_back

    unmoved_far : (o : Option Party) → served m ≡ o → passed (no y) o ≡ [] → aim Ny (given o m) ≡ aim Ny m → times Ny (given o m).queue ≡ times Ny m.queue
        → (times Ny m.queue ≡ 1 → stay_of S (v'.since x) (given o m) y ≤ stay_of S (v.since x) m y) → Falls G S (item S client v y x) (item S client v' y x)
    unmoved_far o e none a t f =
        unmoved S client v v' G y x (ok y x (shared x y h)) (near_other S client v v' x _ s.one y x not_x) (far_changed S client v v' x _ (one_as o e) y a t f)
        lane_back (lane_there o e none)

    -- y is served: it stood in front, the privilege was here, and nothing was under way
    module _ (u : CabinetNo) (e : served m ≡ Some (Neighbour u)) (z : eqb u.0 y ≡ true) where
      is : same Ny (Neighbour u) ≡ true
      is = grind (arith, nat_tests)

      front : m.queue ≡ Ny ∷ rest m.queue
      front = (serving m (Neighbour u) e).front ∙ ap (λ k. k ∷ rest m.queue) (sym (same_is Ny (Neighbour u) is))

      queued_once : times Ny m.queue ≡ 1
      queued_once = omega (arith, ap (times Ny) front, cond-true {A = ℕ} (same Ny Ny) 1 0 (same_self Ny), once Ny)

      here_away : aim Ny m ≡ away
      here_away = home_away m (Neighbour u) (no y) (serving m (Neighbour u) e)

      goes_out : lane_of v' x y ≡ PRIVILEGE ∷ []
      goes_out =
          s.puts.out y h ∙ ap (λ o. lane_of v x y ++ passed (no y) o) e
          ∙ ap (λ l. l ++ cond (eqb u.0 y) (PRIVILEGE ∷ []) []) (out_none (edge v.net x y) (ok x y h) here_away queued_once) ∙ cond-true _ _ _ z

    -- another is
    module _ (u : CabinetNo) (e : served m ≡ Some (Neighbour u)) (z : eqb u.0 y ≡ false) where
      is_not : same Ny (Neighbour u) ≡ false
      is_not = grind (arith, nat_tests)

      stays_away : aim Ny (given (Some (Neighbour u)) m) ≡ aim Ny m
      stays_away = cond-false _ _ _ is_not ∙ sym (home_away m (Neighbour u) (no y) (serving m (Neighbour u) e))

  -- the edge to c, whose near end is x; its client is queued there before and after
  module _ (c : ℕ) (h : near x c) (promised : 0 < times (client x) (assigned (cab_of v x)).queue) where
    still_promised : (a : Party) → served m ≡ Some a → 0 < times (client x) (rest m.queue)
    still_promised a e = subst (λ o. 0 < times (client x) (given o m).queue) e promised

    client_behind : (a : Party) (e : served m ≡ Some a) → same (client x) a ≡ false
    client_behind a e = not_front m a (client x) (serving m a e) (once (client x)) (still_promised a e)

    near_number : (u : CabinetNo) → served m ≡ Some (Neighbour u) → (t : Bool) → eqb u.0 c ≡ t → Falls G S (item S client v x c) (item S client v' x c)
    near_number u e true z =
        near_serves G S _ _ (ok x c h) (here_away c h u e z) (queued_once c h u e z)
        (ap (ahead (Neighbour (no c)) (client x)) (front c h u e z) ∙ front_ahead (Neighbour (no c)) (client x) (rest m.queue))
        (ap (aim (Neighbour (no c))) (one_as c h (Some (Neighbour u)) e).self ∙ cond-true _ _ _ (is c h u e z)) (goes_out c h u e z) (lane_back c h).list
        (s.puts.small x c h)
    near_number u e false z =
        let g = serving m (Neighbour u) e in
        unmoved_near c h (Some (Neighbour u)) e (cond-false _ _ _ z) (stays_away c h u e z) (times-behind m (Neighbour u) (Neighbour (no c)) g (is_not c h u e z))
        (ahead-behind m (Neighbour u) (Neighbour (no c)) (client x) g (is_not c h u e z) (client_behind (Neighbour u) e))

    by_served : (o : Option Party) → served m ≡ o → Falls G S (item S client v x c) (item S client v' x c)
    by_served None e = unmoved_near c h None e refl refl refl refl
    by_served (Some Own) e =
        let g = serving m Own e in
        unmoved_near c h (Some Own) e refl (sym (home_away m Own (no c) g)) (times-behind m Own (Neighbour (no c)) g refl)
        (ahead-behind m Own (Neighbour (no c)) (client x) g refl (client_behind Own e))
    by_served (Some (Neighbour u)) e = near_number u e (eqb u.0 c) refl

    pub assign_near : Falls G S (item S client v x c) (item S client v' x c)
    assign_near = by_served (served m) refl

  -- the edge from p, whose far end is x
  module _ (p : ℕ) (h : near x p) where
    abbrev Np : Party
    Np = Neighbour (no p)

    -- before the stay that now begins, p stood behind own
    stood_behind : Serving m Own → stay_of S (v.since x) m p ≡ S
    stood_behind g =
        cond-false _ _ _ g.free ∙ cond-true _ _ _ (ap (ahead Own Np) g.front ∙ front_ahead Own Np (rest m.queue))

    far_number : (u : CabinetNo) → served m ≡ Some (Neighbour u) → (t : Bool) → eqb u.0 p ≡ t → Falls G S (item S client v p x) (item S client v' p x)
    far_number u e true z =
        far_serves G S _ _ (ok p x (shared x p h)) (here_away p h u e z) (queued_once p h u e z) (goes_out p h u e z) (s.puts.small x p h)
    far_number u e false z =
        let g = serving m (Neighbour u) e in
        unmoved_far p h (Some (Neighbour u)) e (cond-false _ _ _ z) (stays_away p h u e z) (times-behind m (Neighbour u) Np g (is_not p h u e z))
        (λ _. omega (
          arith,
          cond-false {A = ℕ} m.inside (S - v.since x) (cond (ahead Own Np m.queue) S 0) g.free,
          ap (λ t. cond {A = ℕ} t S 0) (ahead-behind m (Neighbour u) Own Np g refl (is_not p h u e z)),
        ))

    by_served_far : (o : Option Party) → served m ≡ o → Falls G S (item S client v p x) (item S client v' p x)
    by_served_far None e =
        unmoved_far p h None e refl refl refl (λ _. omega (arith, ap (λ k. stay_of S k m p) (s.since (λ o. let y = sym e ∙ o in absurd (grind arith)))))
    by_served_far (Some Own) e =
        let g = serving m Own e in
        unmoved_far p h (Some Own) e refl (sym (home_away m Own (no p) g)) (times-behind m Own Np g refl)
        (λ _. omega (arith, stood_behind g, stay_below S (v'.since x) (given (Some Own) m) p))
    by_served_far (Some (Neighbour u)) e = far_number u e (eqb u.0 p) refl

    pub assign_far : Falls G S (item S client v p x) (item S client v' p x)
    assign_far = by_served_far (served m) refl

  pub assign_elsewhere : (p c : ℕ) → near p c → (p ≡ x → ⊥) → (c ≡ x → ⊥) → Falls G S (item S client v p c) (item S client v' p c)
  assign_elsewhere p c h dp dc =
      unmoved S client v v' G p c (ok p c h) (near_other S client v v' x _ s.one p c dp) (far_other S client v v' x _ s.one p c dc)
      (puts_elsewhere G S near client v v' x _ s.puts p c dp h) (puts_elsewhere G S near client v v' x _ s.puts c p dc (shared p c h))
