-- An event at one cabinet of a bank: its record changes, and then what it sends is put, in order. The first refusal is handed up, and
-- what came before it stands.
use Rattle.std.specs.Prelude.{◌≡◌, ℕ, List, [], ◌∷◌, Some, None, Ok, Err, Result}
use Rattle.cable.specs.declared.message.Message.{Message}
use Rattle.cable.specs.declared.number.CabinetNo.{CabinetNo}
use Rattle.cable.specs.declared.refusal.Refusal.{Refusal}
use Rattle.cable.specs.declared.refusal.Refusal.TheVariants.{NotANeighbour}
use Rattle.cabinet.specs.Laws.{sent}
use Rattle.cabinet.specs.Tables.{answer_at, after_at}
use Rattle.cabinet.specs.declared.event.Event.{Event}
use Rattle.cabinet.specs.declared.event.Reaction.{Reaction}
use Rattle.promise.specs.Banks.{Transport, Bank}
use Rattle.tree.specs.Trees.{lane_from}

-- cabinet x sends each message to its neighbour on the lane there
pub data Posted {P : Type 0} (T : Transport P) (ps : List CabinetNo) (x : ℕ) : P → List (CabinetNo × Message) → Result (Unit {0}) Refusal → P → Type 0 where
  all : {p : P} → Posted T ps x p [] (Ok tt) p
  then : {p q s : P} {to : CabinetNo} {m : Message} {more : List (CabinetNo × Message)} {r : Result (Unit {0}) Refusal} {l : ℕ}
      → lane_from ps x to.0 ≡ Some l → T.puts p l m (Ok tt) q → Posted T ps x q more r s → Posted T ps x p ((to, m) ∷ more) r s
  refused : {p q : P} {to : CabinetNo} {m : Message} {more : List (CabinetNo × Message)} {why : Refusal} {l : ℕ}
      → lane_from ps x to.0 ≡ Some l → T.puts p l m (Err why) q → Posted T ps x p ((to, m) ∷ more) (Err why) q
  no_lane : {p : P} {to : CabinetNo} {m : Message} {more : List (CabinetNo × Message)}
      → lane_from ps x to.0 ≡ None → Posted T ps x p ((to, m) ∷ more) (Err NotANeighbour) p

-- an event that the cabinet refuses changes nothing
pub data Happens {P : Type 0} (T : Transport P) (b : Bank P) (x : ℕ) (e : Event) : Result Reaction Refusal → Bank P → Type 0 where
  refused : {why : Refusal} → answer_at b.views x e ≡ Err why → Happens T b x e (Err why) b
  done : {a : Reaction} {p : P} → answer_at b.views x e ≡ Ok a → Posted T b.parents x b.post (sent a) (Ok tt) p
      → Happens T b x e (Ok a) (record { parents = b.parents; views = after_at b.views x e; waits = b.waits; post = p })
  stopped : {a : Reaction} {why : Refusal} {p : P} → answer_at b.views x e ≡ Ok a → Posted T b.parents x b.post (sent a) (Err why) p
      → Happens T b x e (Err why) (record { parents = b.parents; views = after_at b.views x e; waits = b.waits; post = p })
