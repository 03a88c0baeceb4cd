-- A sweep: first the wait counts, then each lane in use is pulled once, lowest first. A message is given to the cabinet at the lane's
-- end, and what that cabinet sends is put before the next lane is pulled.
use Rattle.std.specs.Prelude.{◌≡◌, ℕ, suc, ◌+◌, ◌<◌, min, cond, List, [], ◌∷◌, Some, None, Ok, Err, Option, Result, slice_index}
use Rattle.cable.specs.declared.message.Message.{Message}
use Rattle.cable.specs.declared.message.Message.TheVariants.{Request as REQUEST, Privilege as PRIVILEGE}
use Rattle.cable.specs.declared.refusal.Refusal.{Refusal}
use Rattle.cabinet.specs.Models.{waits}
use Rattle.cabinet.specs.Tables.{View}
use Rattle.cabinet.specs.declared.event.Event.{Event}
use Rattle.cabinet.specs.declared.event.Event.TheVariants.{Request, Privilege}
use Rattle.cabinet.specs.declared.event.Reaction.{Reaction}
use Rattle.promise.specs.Banks.{Transport, Bank, with_post, with_waits}
use Rattle.promise.specs.Events.{Happens}
use Rattle.tree.specs.Trees.{ends_of, lanes_of}

-- one more for each cabinet that waits, and no more than 32 bits hold
abbrev pub counted : List View → List ℕ → List ℕ
counted [] ws = ws
counted (v ∷ vs) [] = []
counted (v ∷ vs) (w ∷ ws) = cond (waits v.model) (min (w + 1) 4294967295) w ∷ counted vs ws

abbrev pub arrival : Message → ℕ → Event
arrival REQUEST from = Request (record { 0 = from })
arrival PRIVILEGE from = Privilege (record { 0 = from })

-- who went in, if anybody did
abbrev pub entering : ℕ → Result Reaction Refusal → Result (Option ℕ) Refusal
entering x (Ok a) = Ok (cond a.entered (Some x) None)
entering x (Err why) = Err why

-- one lane is read
pub data Reads {P : Type 0} (T : Transport P) (b : Bank P) (l : ℕ) : Result (Option ℕ) Refusal → Bank P → Type 0 where
  refused : {why : Refusal} {p : P} → T.pulls b.post l (Err why) p → Reads T b l (Err why) (with_post b p)
  nothing : {p : P} → T.pulls b.post l (Ok None) p → Reads T b l (Ok None) (with_post b p)
  brings : {m : Message} {p : P} {from to : ℕ} {r : Result Reaction Refusal} {c : Bank P} → T.pulls b.post l (Ok (Some m)) p
      → ends_of b.parents l ≡ Some (from, to) → Happens T (with_post b p) to (arrival m from) r c → Reads T b l (entering to r) c

abbrev pub latest : Option ℕ → Option ℕ → Option ℕ
latest old None = old
latest old (Some x) = Some x

-- the lanes below l have been read, one after the other, and this is who went in last
pub data Through {P : Type 0} (T : Transport P) (b : Bank P) : ℕ → Option ℕ → Bank P → Type 0 where
  begun : Through T b 0 None b
  further : {l : ℕ} {last went : Option ℕ} {c d : Bank P} → Through T b l last c → Reads T c l (Ok went) d → Through T b (suc l) (latest last went) d

-- the last that went in, with its wait count
abbrev pub last_in : {P : Type 0} → Option ℕ → Bank P → Option (ℕ × ℕ)
last_in None c = None
last_in (Some x) c = Some (x, slice_index c.waits x)

pub data SweptLanes {P : Type 0} (T : Transport P) (b : Bank P) : Result (Option (ℕ × ℕ)) Refusal → Bank P → Type 0 where
  done : {last : Option ℕ} {c : Bank P} → Through T b (lanes_of b.parents) last c → SweptLanes T b (Ok (last_in last c)) c
  stopped : {l : ℕ} {last : Option ℕ} {c d : Bank P} {why : Refusal} → Through T b l last c → l < lanes_of b.parents
      → Reads T c l (Err why) d → SweptLanes T b (Err why) d

abbrev pub SweptFrom : {P : Type 0} → Transport P → Bank P → Result (Option (ℕ × ℕ)) Refusal → Bank P → Type 0
SweptFrom T b r c = SweptLanes T (with_waits b (counted b.views b.waits)) r c
