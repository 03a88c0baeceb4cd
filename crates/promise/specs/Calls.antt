-- The four calls that act on a bank, each as a relation between the bank before, the answer, and the bank after, done or refused. The
-- grounds for refusing are checked in the order of their numbers; a refusal before the call acts changes nothing.
use Rattle.std.specs.Prelude.{◌≡◌, ℕ, zero, suc, Bool, true, false, cond, ◌||◌, List, [], ◌∷◌, length, replicate, Some, None, Ok, Err, Option, Result, nat_le, slice_set}
use Rattle.cable.specs.Numbers.{lanes}
use Rattle.cable.specs.declared.message.Message.{Message}
use Rattle.cable.specs.declared.number.CabinetNo.{CabinetNo}
use Rattle.cable.specs.declared.refusal.Refusal.{Refusal}
use Rattle.cable.specs.declared.refusal.Refusal.TheVariants.{Bare, AlreadyPlanted, MessageWaiting, NoSuchCabinet}
use Rattle.cabinet.specs.Tables.{PlantedAs}
use Rattle.cabinet.specs.declared.event.Event.TheVariants.{Want, Leave}
use Rattle.cabinet.specs.declared.event.Reaction.{Reaction}
use Rattle.promise.specs.Banks.{Transport, Bank, with_waits}
use Rattle.promise.specs.Events.{Happens}
use Rattle.promise.specs.Sweeps.{SweptFrom}
use Rattle.tree.specs.Trees.{tree_refusal}

-- nothing was planted yet
abbrev pub bare : {P : Type 0} → Bank P → Bool
bare b = elim b.parents [ [] ↦ true | p ∷ ps ↦ false ]

abbrev pub any_of : List Message → Bool
any_of [] = false
any_of (m ∷ ms) = true

-- a message waits on some lane below l
abbrev pub busy_below : (ℕ → List Message) → ℕ → Bool
busy_below waiting zero = false
busy_below waiting (suc l) = any_of (waiting l) || busy_below waiting l

abbrev pub plant_refusal : {P : Type 0} → Transport P → Bank P → List CabinetNo → Option Refusal
plant_refusal T b ps =
    cond (bare b)
    (elim (tree_refusal ps) [ Some why ↦ Some why | None ↦ cond (busy_below (T.waiting b.post) lanes) (Some MessageWaiting) None ])
    (Some AlreadyPlanted)

pub record Plants {P : Type 0} (T : Transport P) (b : Bank P) (ps : List CabinetNo) (r : Result (Unit {0}) Refusal) (c : Bank P) : Type 0 where
  pub refused : (why : Refusal) → plant_refusal T b ps ≡ Some why → (r ≡ Err why) × (c ≡ b)
  pub done : plant_refusal T b ps ≡ None → r ≡ Ok tt
  pub parents : plant_refusal T b ps ≡ None → c.parents ≡ ps
  pub views : plant_refusal T b ps ≡ None → PlantedAs ps c.views
  pub waits : plant_refusal T b ps ≡ None → c.waits ≡ replicate 16 0
  pub post : plant_refusal T b ps ≡ None → c.post ≡ b.post

-- why a call to one cabinet is refused before its event
abbrev pub call_refusal : {P : Type 0} → Bank P → ℕ → Option Refusal
call_refusal b n = cond (bare b) (Some Bare) (cond (nat_le (length b.parents) n) (Some NoSuchCabinet) None)

-- want answers whether the cabinet went in; else it waits, from 0 on
pub data Wants {P : Type 0} (T : Transport P) (b : Bank P) (n : ℕ) : Result Bool Refusal → Bank P → Type 0 where
  refused : {why : Refusal} → call_refusal b n ≡ Some why → Wants T b n (Err why) b
  done : {a : Reaction} {c : Bank P} → call_refusal b n ≡ None → Happens T b n Want (Ok a) c → Wants T b n (Ok a.entered) (with_waits c (slice_set c.waits n 0))
  inside : {why : Refusal} {c : Bank P} → call_refusal b n ≡ None → Happens T b n Want (Err why) c → Wants T b n (Err why) c

pub data Leaves {P : Type 0} (T : Transport P) (b : Bank P) (n : ℕ) : Result (Unit {0}) Refusal → Bank P → Type 0 where
  refused : {why : Refusal} → call_refusal b n ≡ Some why → Leaves T b n (Err why) b
  done : {a : Reaction} {c : Bank P} → call_refusal b n ≡ None → Happens T b n Leave (Ok a) c → Leaves T b n (Ok tt) c
  inside : {why : Refusal} {c : Bank P} → call_refusal b n ≡ None → Happens T b n Leave (Err why) c → Leaves T b n (Err why) c

pub data Sweeps {P : Type 0} (T : Transport P) (b : Bank P) : Result (Option (ℕ × ℕ)) Refusal → Bank P → Type 0 where
  refused : bare b ≡ true → Sweeps T b (Err Bare) b
  swept : {r : Result (Option (ℕ × ℕ)) Refusal} {c : Bank P} → bare b ≡ false → SweptFrom T b r c → Sweeps T b r c
