-- The parts of a call, which its contract puts together.
use Rattle.std.specs.Prelude.{◌≡◌, ℕ, List, [], Some, None, Ok, Err, Option, Result}
use Rattle.cabinet.specs.declared.event.Reaction.{Reaction}
use Rattle.cable.specs.declared.message.Message.{Message}
use Rattle.cable.specs.declared.number.CabinetNo.{CabinetNo}
use Rattle.cable.specs.declared.refusal.Refusal.{Refusal}
use Rattle.cable.specs.declared.refusal.Refusal.TheVariants.{NotANeighbour}
use Rattle.promise.specs.Banks.{Transport, Bank as Model}
use Rattle.promise.specs.Calls.{call_refusal}
use Rattle.promise.specs.Events.{Happens}
use Rattle.promise.specs.Sweeps.{SweptLanes, last_in, arrival, entering}
use Rattle.tree.specs.Trees.{lane_from, ends_of}

-- what the parents alone tell: why a call to cabinet n is refused before its event
abbrev pub refusal_in : List CabinetNo → ℕ → Option Refusal
refusal_in ps n = call_refusal {P = Unit {0}} (record { parents = ps; views = []; waits = []; post = tt }) n

-- cabinet x sends a message to a neighbour, if there is one to send it to, on the lane there
pub record SendsTo {P : Type 0} (T : Transport P) (ps : List CabinetNo) (x : ℕ) (to : Option CabinetNo) (m : Message) (p : P)
    (r : Result (Unit {0}) Refusal) (q : P) : Type 0 where
  pub nobody : to ≡ None → (r ≡ Ok tt) × (q ≡ p)
  pub no_lane : (v : CabinetNo) → to ≡ Some v → lane_from ps x v.0 ≡ None → (r ≡ Err NotANeighbour) × (q ≡ p)
  pub lane : (v : CabinetNo) (l : ℕ) → to ≡ Some v → lane_from ps x v.0 ≡ Some l → T.puts p l m r q

-- the number of the cabinet that went in, if one did
abbrev pub entrant : Option CabinetNo → Option ℕ
entrant None = None
entrant (Some n) = Some n.0

abbrev pub read_answer : Result (Option CabinetNo) Refusal → Result (Option ℕ) Refusal
read_answer (Ok went) = Ok (entrant went)
read_answer (Err why) = Err why

-- the cabinet at the lane's end is given a message, which is an event there
pub record Brings {P : Type 0} (T : Transport P) (b : Model P) (l : ℕ) (m : Message) (r : Result (Option ℕ) Refusal) (c : Model P) : Type 0 where
  pub from : ℕ
  pub to : ℕ
  pub reaction : Result Reaction Refusal
  pub ends : ends_of b.parents l ≡ Some (from, to)
  pub happens : Happens T b to (arrival m from) reaction c
  pub answer : r ≡ entering to reaction

-- all lanes were read, and this is who went in last
abbrev pub Swept : {P : Type 0} → Transport P → Model P → Result (Option CabinetNo) Refusal → Model P → Type 0
Swept T b (Ok last) c = SweptLanes T b (Ok (last_in (entrant last) c)) c
Swept T b (Err why) c = SweptLanes T b (Err why) c
