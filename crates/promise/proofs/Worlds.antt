-- Cabinets, lanes, allowances and stays together, and the single steps of an event on them.
use Rattle.std.proofs.Common.{◌≡◌, ℕ, ◌-◌, ◌<◌, ◌≤◌, cond, List, [], ◌++◌, Some}
use Rattle.cable.specs.declared.message.Message.{Message}
use Rattle.cabinet.specs.Models.{Model, acted, served, assigned, asks, asking}
use Rattle.cabinet.specs.declared.event.Event.{Event}
use Rattle.cabinet.specs.declared.party.Party.{Party}
use Rattle.cabinet.specs.declared.party.Party.TheVariants.{Own, Neighbour}
use Rattle.promise.proofs.Ahead.{ahead}
use Rattle.promise.proofs.Ends.{before, passed, called}
use Rattle.promise.proofs.Nets.{Net, edge, no}
use Rattle.promise.proofs.Prices.{Item}

-- a net, the allowances of its lanes, and for each cabinet the sweeps since it went in
pub record World : Type 0 where
  pub net : Net
  pub allow : ℕ → ℕ → ℕ
  pub since : ℕ → ℕ

abbrev pub cab_of : World → ℕ → Model
cab_of v = v.net.cab

abbrev pub lane_of : World → ℕ → ℕ → List Message
lane_of v = v.net.lane

-- how long p may yet stand behind a stay at the cabinet with record m
abbrev pub stay_of : ℕ → ℕ → Model → ℕ → ℕ
stay_of S since m p = cond m.inside (S - since) (cond (ahead Own (Neighbour (no p)) m.queue) S 0)

-- client tells for whom a cabinet has promised the privilege
abbrev pub item : ℕ → (ℕ → Party) → World → ℕ → ℕ → Item
item S client v p c =
    record {
      view = edge v.net p c;
      ahead = ahead (Neighbour (no c)) (client p) (cab_of v p).queue;
      stay = stay_of S (v.since c) (cab_of v c) p;
      a_out = v.allow p c;
      a_back = v.allow c p;
    }

-- cabinet x changes, and no other
pub record OneChanges (v : World) (x : ℕ) (m : Model) (v' : World) : Type 0 where
  pub self : cab_of v' x ≡ m
  pub others : (k : ℕ) → (k ≡ x → ⊥) → cab_of v' k ≡ cab_of v k
  pub stays : (k : ℕ) → (k ≡ x → ⊥) → v'.since k ≡ v.since k

module _ (G : ℕ) (near : ℕ → ℕ → Type 0) where
  -- an event acts: what arrives leaves its lane; the allowance of a lane that keeps its list does not rise
  pub record ActsAt (v : World) (x : ℕ) (e : Event) (v' : World) : Type 0 where
    pub one : OneChanges v x (acted (cab_of v x) e) v'
    pub since : v'.since x ≡ v.since x
    pub back : (y : ℕ) → near x y → lane_of v y x ≡ before (no y) e (lane_of v' y x)
    pub rest : (y z : ℕ) → (z ≡ x → ⊥) → near y z → lane_of v' y z ≡ lane_of v y z
    pub small : (y z : ℕ) → near y z → v'.allow y z < G
    pub calm : (y z : ℕ) → near y z → lane_of v' y z ≡ lane_of v y z → (lane_of v y z ≡ [] → ⊥) → v'.allow y z ≤ v.allow y z

  -- something is put, or nothing: more (y) is what joins the lane from x to y
  pub record PutsAt (v : World) (x : ℕ) (more : ℕ → List Message) (v' : World) : Type 0 where
    pub out : (y : ℕ) → near x y → lane_of v' x y ≡ lane_of v x y ++ more y
    pub rest : (y z : ℕ) → (y ≡ x → ⊥) → near y z → lane_of v' y z ≡ lane_of v y z
    pub small : (y z : ℕ) → near y z → v'.allow y z < G
    pub calm : (y z : ℕ) → near y z → (lane_of v y z ≡ [] → ⊥) → v'.allow y z ≤ v.allow y z

  pub record AssignsAt (v : World) (x : ℕ) (v' : World) : Type 0 where
    pub one : OneChanges v x (assigned (cab_of v x)) v'
    pub since : (served (cab_of v x) ≡ Some Own → ⊥) → v'.since x ≡ v.since x
    pub puts : PutsAt v x (λ y. passed (no y) (served (cab_of v x))) v'

  pub record AsksAt (v : World) (x : ℕ) (v' : World) : Type 0 where
    pub one : OneChanges v x (asking (cab_of v x)) v'
    pub since : v'.since x ≡ v.since x
    pub puts : PutsAt v x (λ y. called (no y) (asks (cab_of v x))) v'
