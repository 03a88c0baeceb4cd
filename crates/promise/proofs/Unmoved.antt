-- An edge that a step does not move becomes no dearer.
use Rattle.std.proofs.Common.{◌≡◌, ℕ, ◌-◌, ◌≤◌, true, false, cond, List, [], ◌++◌, ap, ◌∙◌, ⊎_elim, arith}
use Rattle.std.proofs.lemmas.List.{append-nil}
use Rattle.std.proofs.lemmas.Bool.{cases_Bool, cond-true, cond-false}
use Rattle.cable.specs.declared.message.Message.{Message}
use Rattle.cabinet.specs.Models.{Model}
use Rattle.cabinet.specs.Parties.{times}
use Rattle.cabinet.specs.declared.party.Party.{Party}
use Rattle.cabinet.specs.declared.party.Party.TheVariants.{Own, Neighbour}
use Rattle.promise.proofs.Ahead.{ahead}
use Rattle.promise.proofs.Edges.{EdgeView, EdgeOk}
use Rattle.promise.proofs.Ends.{aim}
use Rattle.promise.proofs.Nets.{edge, no}
use Rattle.promise.proofs.Prices.{Falls, falls_same}
use Rattle.promise.proofs.Worlds.{World, OneChanges, PutsAt, cab_of, lane_of, stay_of, item}

pub view_is : (v w : EdgeView) → v.near ≡ w.near → v.far ≡ w.far → v.here ≡ w.here → v.there ≡ w.there → v.out ≡ w.out → v.back ≡ w.back → v ≡ w
view_is v w a b c d e f =
    let is
    : ◌≡◌ {A = EdgeView} (record { near = v.near; far = v.far; here = v.here; there = v.there; out = v.out; back = v.back })
    (record { near = w.near; far = w.far; here = w.here; there = w.there; out = w.out; back = w.back })
    = cc
    in
    is

pub stay_below : (S since : ℕ) (m : Model) (p : ℕ) → stay_of S since m p ≤ S
stay_below S since m p =
    ⊎_elim (λ (e : m.inside ≡ true). omega (arith, cond-true {A = ℕ} m.inside (S - since) (cond (ahead Own (Neighbour (no p)) m.queue) S 0) e))
    (λ (e : m.inside ≡ false). ⊎_elim
    (λ (a : ahead Own (Neighbour (no p)) m.queue ≡ true).
    omega (arith, cond-false {A = ℕ} m.inside (S - since) (cond (ahead Own (Neighbour (no p)) m.queue) S 0) e, cond-true {A = ℕ} (ahead Own (Neighbour (no p)) m.queue) S 0 a))
    (λ (a : ahead Own (Neighbour (no p)) m.queue ≡ false).
    omega (arith, cond-false {A = ℕ} m.inside (S - since) (cond (ahead Own (Neighbour (no p)) m.queue) S 0) e, cond-false {A = ℕ} (ahead Own (Neighbour (no p)) m.queue) S 0 a))
    (cases_Bool (ahead Own (Neighbour (no p)) m.queue))) (cases_Bool m.inside)

-- the longer a stay has lasted, the shorter it may last
pub stay_older : (S a b : ℕ) (m : Model) (p : ℕ) → a ≤ b → stay_of S b m p ≤ stay_of S a m p
stay_older S a b m p l =
    ⊎_elim
    (λ (e : m.inside ≡ true).
    omega (arith, cond-true {A = ℕ} m.inside (S - a) (cond (ahead Own (Neighbour (no p)) m.queue) S 0) e, cond-true {A = ℕ} m.inside (S - b) (cond (ahead Own (Neighbour (no p)) m.queue) S 0) e))
    (λ (e : m.inside ≡ false).
    omega (arith, cond-false {A = ℕ} m.inside (S - a) (cond (ahead Own (Neighbour (no p)) m.queue) S 0) e, cond-false {A = ℕ} m.inside (S - b) (cond (ahead Own (Neighbour (no p)) m.queue) S 0) e))
    (cases_Bool m.inside)

module _ (S : ℕ) (client : ℕ → Party) (v v' : World) where
  -- what is seen of the near end, p, of the edge to c stays
  pub record NearStays (p c : ℕ) : Type 0 where
    pub aim : aim (Neighbour (no c)) (cab_of v' p) ≡ aim (Neighbour (no c)) (cab_of v p)
    pub queued : times (Neighbour (no c)) (cab_of v' p).queue ≡ times (Neighbour (no c)) (cab_of v p).queue
    pub ahead : ahead (Neighbour (no c)) (client p) (cab_of v' p).queue ≡ ahead (Neighbour (no c)) (client p) (cab_of v p).queue

  -- what is seen of the far end stays, and p stands behind no longer a stay there
  pub record FarStays (p c : ℕ) : Type 0 where
    pub aim : aim (Neighbour (no p)) (cab_of v' c) ≡ aim (Neighbour (no p)) (cab_of v c)
    pub queued : times (Neighbour (no p)) (cab_of v' c).queue ≡ times (Neighbour (no p)) (cab_of v c).queue
    pub stay : times (Neighbour (no p)) (cab_of v c).queue ≡ 1 → stay_of S (v'.since c) (cab_of v' c) p ≤ stay_of S (v.since c) (cab_of v c) p

  -- a lane keeps its list, and if that is not empty, its allowance does not rise
  pub record LaneStays (y z : ℕ) : Type 0 where
    pub list : lane_of v' y z ≡ lane_of v y z
    pub calm : (lane_of v y z ≡ [] → ⊥) → v'.allow y z ≤ v.allow y z

  pub near_same : (p c : ℕ) → cab_of v' p ≡ cab_of v p → NearStays p c
  near_same p c e =
      record {
        aim = ap (aim (Neighbour (no c))) e;
        queued = ap (λ k. times (Neighbour (no c)) k.queue) e;
        ahead = ap (λ k. ahead (Neighbour (no c)) (client p) k.queue) e;
      }

  pub far_same : (p c : ℕ) → cab_of v' c ≡ cab_of v c → v.since c ≤ v'.since c → FarStays p c
  far_same p c e l =
      record {
        aim = ap (aim (Neighbour (no p))) e;
        queued = ap (λ k. times (Neighbour (no p)) k.queue) e;
        stay = λ _. omega (arith, ap (λ k. stay_of S (v'.since c) k p) e, stay_older S (v.since c) (v'.since c) (cab_of v c) p l);
      }

  -- where cabinet x becomes m
  module _ (x : ℕ) (m : Model) (one : OneChanges v x m v') where
    pub near_changed : (c : ℕ) → aim (Neighbour (no c)) m ≡ aim (Neighbour (no c)) (cab_of v x)
        → times (Neighbour (no c)) m.queue ≡ times (Neighbour (no c)) (cab_of v x).queue
        → ahead (Neighbour (no c)) (client x) m.queue ≡ ahead (Neighbour (no c)) (client x) (cab_of v x).queue → NearStays x c
    near_changed c a t f =
        record {
          aim = ap (aim (Neighbour (no c))) one.self ∙ a;
          queued = ap (λ k. times (Neighbour (no c)) k.queue) one.self ∙ t;
          ahead = ap (λ k. ahead (Neighbour (no c)) (client x) k.queue) one.self ∙ f;
        }

    pub far_changed : (p : ℕ) → aim (Neighbour (no p)) m ≡ aim (Neighbour (no p)) (cab_of v x)
        → times (Neighbour (no p)) m.queue ≡ times (Neighbour (no p)) (cab_of v x).queue
        → (times (Neighbour (no p)) (cab_of v x).queue ≡ 1 → stay_of S (v'.since x) m p ≤ stay_of S (v.since x) (cab_of v x) p) → FarStays p x
    far_changed p a t f =
        record {
          aim = ap (aim (Neighbour (no p))) one.self ∙ a;
          queued = ap (λ k. times (Neighbour (no p)) k.queue) one.self ∙ t;
          stay = λ i. omega (arith, ap (λ k. stay_of S (v'.since x) k p) one.self, f i);
        }

    pub near_other : (p c : ℕ) → (p ≡ x → ⊥) → NearStays p c
    near_other p c d = near_same p c (one.others p d)

    pub far_other : (p c : ℕ) → (c ≡ x → ⊥) → FarStays p c
    far_other p c d = far_same p c (one.others c d) (omega (arith, one.stays c d))

  pub unmoved : (G p c : ℕ) → EdgeOk (edge v.net p c) → NearStays p c → FarStays p c → LaneStays p c → LaneStays c p
      → Falls G S (item S client v p c) (item S client v' p c)
  unmoved G p c ok n f out back =
      falls_same G S _ _ ok (view_is _ _ n.aim f.aim n.queued f.queued out.list back.list) n.ahead f.stay out.calm back.calm

-- where messages of x are put, other lanes stay, and so does a lane of x that nothing joins
module _ (G S : ℕ) (near : ℕ → ℕ → Type 0) (client : ℕ → Party) (v v' : World) (x : ℕ) (more : ℕ → List Message) (puts : PutsAt G near v x more v') where
  pub puts_elsewhere : (y z : ℕ) → (y ≡ x → ⊥) → near y z → LaneStays S client v v' y z
  puts_elsewhere y z d h = record { list = puts.rest y z d h; calm = puts.calm y z h }

  pub puts_nothing : (y : ℕ) → near x y → more y ≡ [] → LaneStays S client v v' x y
  puts_nothing y h none =
      record { list = puts.out y h ∙ ap (λ l. lane_of v x y ++ l) none ∙ append-nil (lane_of v x y); calm = puts.calm x y h }
