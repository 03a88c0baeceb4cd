-- When the holder is asked, no edge toward the waiting cabinet becomes dearer.
use Rattle.std.proofs.Common.{◌≡◌, ℕ, Bool, true, false, cond, not, ◌&&◌, ◌||◌, eqb, [], ◌∷◌, ◌++◌, is_some, Some, None, Option, sym, refl, ap, ◌∙◌, subst, arith}
use Rattle.std.proofs.lemmas.Bool.{cond-true, cond-false, or_right}
use Rattle.std.proofs.lemmas.Bool.Decides.{nat_tests}
use Rattle.cable.specs.declared.message.Message.TheVariants.{Request as REQUEST}
use Rattle.cable.specs.declared.number.CabinetNo.{CabinetNo}
use Rattle.cabinet.specs.Models.{Model, some, asks, neighbour}
use Rattle.cabinet.specs.Parties.{same}
use Rattle.cabinet.specs.declared.party.Party.{Party}
use Rattle.cabinet.specs.declared.party.Party.TheVariants.{Neighbour}
use Rattle.promise.proofs.Ahead.{ahead}
use Rattle.promise.proofs.Edges.{away, quiet, calling}
use Rattle.promise.proofs.Ends.{aim, called, holder_of, some_asked, or_false}
use Rattle.promise.proofs.Nets.{InOrder, no}
use Rattle.promise.proofs.Prices.{Falls, near_asks, far_asks}
use Rattle.promise.proofs.Unmoved.{LaneStays, near_changed, far_changed, near_other, far_other, unmoved, puts_elsewhere, puts_nothing}
use Rattle.promise.proofs.Worlds.{World, OneChanges, AsksAt, cab_of, lane_of, stay_of, item}

-- the record once the holder was asked, or was not
abbrev marked : Model → Option CabinetNo → Model
marked m o = record { holder = m.holder; inside = m.inside; asked = m.asked || is_some o; queue = m.queue }

-- the holder that is asked
record Asked (m : Model) (u : CabinetNo) : Type 0 where
  holder : m.holder ≡ Neighbour u
  silent : m.asked ≡ false

asked_of : (m : Model) (u : CabinetNo) → asks m ≡ Some u → Asked m u
asked_of m u e =
    let s = some_asked (some m.queue && not m.asked) (neighbour m.holder) u e in
    let t = s.0 in
    record { holder = holder_of m.holder u s.1; silent = grind arith }

module _ (m : Model) (n : CabinetNo) where
  aim_none : aim (Neighbour n) (marked m None) ≡ aim (Neighbour n) m
  aim_none = ap (λ t. cond (same (Neighbour n) m.holder) (cond t calling quiet) away) (or_false m.asked)

  aim_other : (u : CabinetNo) → Asked m u → eqb u.0 n.0 ≡ false → aim (Neighbour n) (marked m (Some u)) ≡ aim (Neighbour n) m
  aim_other u a z =
      let not_here : same (Neighbour n) m.holder ≡ false
      = ap (same (Neighbour n)) a.holder ∙ (let t : same (Neighbour n) (Neighbour u) ≡ false = grind (arith, nat_tests) in t)
      in
      cond-false _ _ _ not_here ∙ sym (cond-false _ _ _ not_here)

  aim_here : (u : CabinetNo) → Asked m u → eqb u.0 n.0 ≡ true → (aim (Neighbour n) m ≡ quiet) × (aim (Neighbour n) (marked m (Some u)) ≡ calling)
  aim_here u a z =
      let here : same (Neighbour n) m.holder ≡ true
      = ap (same (Neighbour n)) a.holder ∙ (let t : same (Neighbour n) (Neighbour u) ≡ true = grind (arith, nat_tests) in t)
      in
      (cond-true _ _ _ here ∙ cond-false _ _ _ a.silent, cond-true _ _ _ here ∙ cond-true _ _ _ (or_right m.asked true refl))

module _ (G S : ℕ) (near : ℕ → ℕ → Type 0) (apart : (x : ℕ) → near x x → ⊥) (shared : (x y : ℕ) → near x y → near y x) (client : ℕ → Party)
    (v v' : World) (x : ℕ) (s : AsksAt G near v x v') (ok : InOrder near v.net) where
  abbrev m : Model
  m = cab_of v x

  -- cabinet y, at the other end of an edge of x
  module _ (y : ℕ) (h : near x y) where
    not_x : y ≡ x → ⊥
    not_x i = apart x (subst (near x) i h)

    y_same : cab_of v' y ≡ cab_of v y
    y_same = s.one.others y not_x

    lane_back : LaneStays S client v v' y x
    lane_back = puts_elsewhere G S near client v v' x _ s.puts y x not_x (shared x y h)

    one_as : (o : Option CabinetNo) → asks m ≡ o → OneChanges v x (marked m o) v'
    one_as o e = subst (λ q. OneChanges v x (marked m q) v') e s.one

    lane_there : (o : Option CabinetNo) → asks m ≡ o → called (no y) o ≡ [] → LaneStays S client v v' x y
    lane_there o e none = puts_nothing G S near client v v' x _ s.puts y h (ap (called (no y)) e ∙ none)

    -- the edge to y, whose near end is x, and the edge from y, whose far end is x
    near_still : (o : Option CabinetNo) → asks m ≡ o → called (no y) o ≡ [] → aim (Neighbour (no y)) (marked m o) ≡ aim (Neighbour (no y)) m
        → Falls G S (item S client v x y) (item S client v' x y)
    near_still o e none a =
        unmoved S client v v' G x y (ok x y h) (near_changed S client v v' x _ (one_as o e) y a refl refl) (far_other S client v v' x _ s.one x y not_x)
        (lane_there o e none) lane_back

    far_still : (o : Option CabinetNo) → asks m ≡ o → called (no y) o ≡ [] → aim (Neighbour (no y)) (marked m o) ≡ aim (Neighbour (no y)) m
        → Falls G S (item S client v y x) (item S client v' y x)
    far_still o e none a =
        unmoved S client v v' G y x (ok y x (shared x y h)) (near_other S client v v' x _ s.one y x not_x)
        (far_changed S client v v' x _ (one_as o e) y a refl (λ _. omega (arith, ap (λ k. stay_of S k m y) s.since))) lane_back (lane_there o e none)

    -- y is asked
    module _ (u : CabinetNo) (e : asks m ≡ Some u) (z : eqb u.0 y ≡ true) where
      calls : (aim (Neighbour (no y)) m ≡ quiet) × (aim (Neighbour (no y)) (cab_of v' x) ≡ calling)
      calls =
          let a = aim_here m (no y) u (asked_of m u e) z in
          (a.0, ap (aim (Neighbour (no y))) (one_as (Some u) e).self ∙ a.1)

      goes_out : lane_of v' x y ≡ lane_of v x y ++ REQUEST ∷ []
      goes_out = s.puts.out y h ∙ ap (λ q. lane_of v x y ++ called (no y) q) e ∙ ap (λ l. lane_of v x y ++ l) (cond-true _ _ _ z)

    near_number : (u : CabinetNo) → asks m ≡ Some u → (t : Bool) → eqb u.0 y ≡ t → Falls G S (item S client v x y) (item S client v' x y)
    near_number u e true z =
        near_asks G S _ _ (ok x y h) (calls u e z).0 (calls u e z).1 (goes_out u e z) lane_back.list (λ _. s.puts.small x y h) (s.puts.calm x y h)
    near_number u e false z = near_still (Some u) e (cond-false _ _ _ z) (aim_other m (no y) u (asked_of m u e) z)

    by_asked : (o : Option CabinetNo) → asks m ≡ o → Falls G S (item S client v x y) (item S client v' x y)
    by_asked None e = near_still None e refl (aim_none m (no y))
    by_asked (Some u) e = near_number u e (eqb u.0 y) refl

    pub ask_near : Falls G S (item S client v x y) (item S client v' x y)
    ask_near = by_asked (asks m) refl

    far_number : (u : CabinetNo) → asks m ≡ Some u → (t : Bool) → eqb u.0 y ≡ t → Falls G S (item S client v y x) (item S client v' y x)
    far_number u e true z =
        far_asks G S _ _ (ok y x (shared x y h)) (calls u e z).0 (ap (aim (Neighbour (no x))) y_same) lane_back.list (goes_out u e z)
        (ap (λ k. ahead (Neighbour (no x)) (client y) k.queue) y_same) (s.puts.calm x y h)
    far_number u e false z = far_still (Some u) e (cond-false _ _ _ z) (aim_other m (no y) u (asked_of m u e) z)

    by_asked_far : (o : Option CabinetNo) → asks m ≡ o → Falls G S (item S client v y x) (item S client v' y x)
    by_asked_far None e = far_still None e refl (aim_none m (no y))
    by_asked_far (Some u) e = far_number u e (eqb u.0 y) refl

    pub ask_far : Falls G S (item S client v y x) (item S client v' y x)
    ask_far = by_asked_far (asks m) refl

  pub ask_elsewhere : (p c : ℕ) → near p c → (p ≡ x → ⊥) → (c ≡ x → ⊥) → Falls G S (item S client v p c) (item S client v' p c)
  ask_elsewhere p c h dp dc =
      unmoved S client v v' G p c (ok p c h) (near_other S client v v' x _ s.one p c dp) (far_other S client v v' x _ s.one p c dc)
      (puts_elsewhere G S near client v v' x _ s.puts p c dp h) (puts_elsewhere G S near client v v' x _ s.puts c p dc (shared p c h))
