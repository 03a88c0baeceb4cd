-- One lane of the alternating bit: what its sender and its receiver keep, which messages wait, and what a new one does.
use Rattle.std.specs.Prelude.{◌≡◌, ℕ, ◌≤◌, Bool, true, false, cond, List, [], ◌∷◌, ◌++◌, length, Some, None, Ok, Err, Option, Result, nat_lt}
use Rattle.cable.specs.Rows.{contents}
use Rattle.cable.specs.Worked.{frame}
use Rattle.cable.specs.declared.frame.Bit.{Bit}
use Rattle.cable.specs.declared.frame.Bit.TheVariants.{Zero, One}
use Rattle.cable.specs.declared.frame.Frame.{Frame}
use Rattle.cable.specs.declared.frame.Kind.TheVariants.{Carry}
use Rattle.cable.specs.declared.message.Message.{Message}
use Rattle.cable.specs.declared.refusal.Refusal.{Refusal}
use Rattle.cable.specs.declared.refusal.Refusal.TheVariants.{LaneFull}
use Rattle.alternating.specs.declared.lane.Lane.{Lane}

-- the message that is repeated until its acknowledgement comes, those behind it, the bit it is sent with, and the bit that is accepted next
pub record LaneModel : Type 0 where
  pub outstanding : Option Message
  pub behind : List Message
  pub sending : Bit
  pub expected : Bit

abbrev pub lane_model : Lane → LaneModel
lane_model l =
    record { outstanding = l.outstanding; behind = contents l.behind; sending = l.sending; expected = l.expected }

-- a new lane
abbrev pub fresh : LaneModel
fresh = record { outstanding = None; behind = []; sending = Zero; expected = Zero }

abbrev pub same : Bit → Bit → Bool
same Zero Zero = true
same Zero One = false
same One Zero = false
same One One = true

-- the lane's list: the outstanding message, if its bit is the expected one, and then the row
abbrev pub waiting_in : LaneModel → List Message
waiting_in m = elim m.outstanding [ None ↦ [] | Some x ↦ cond (same m.sending m.expected) (x ∷ m.behind) m.behind ]

-- what is true of a lane between calls: with nothing outstanding the row is empty and the bits are the same; at most four wait
pub record LaneSound (m : LaneModel) : Type 0 where
  pub idle : m.outstanding ≡ None → m.behind ≡ []
  pub level : m.outstanding ≡ None → same m.sending m.expected ≡ true
  pub few : length (waiting_in m) ≤ 4

-- a new message becomes the outstanding one if there is none, and else joins the end of the row
abbrev pub added : Message → LaneModel → LaneModel
added x m =
    elim m.outstanding [
      | None ↦ record { outstanding = Some x; behind = m.behind; sending = m.sending; expected = m.expected }
      | Some y ↦ record { outstanding = Some y; behind = m.behind ++ x ∷ []; sending = m.sending; expected = m.expected }
    ]

-- it is refused unless fewer than four wait
abbrev pub room : LaneModel → Bool
room m = nat_lt (length (waiting_in m)) 4

abbrev pub adds : LaneModel → Result (Unit {0}) Refusal
adds m = cond (room m) (Ok tt) (Err LaneFull)

abbrev pub added_if_room : Message → LaneModel → LaneModel
added_if_room x m = cond (room m) (added x m) m

-- the outstanding message as a frame
abbrev pub sent_on : ℕ → LaneModel → Option Frame
sent_on lane m = elim m.outstanding [ None ↦ None | Some x ↦ Some (frame (Carry x) m.sending lane) ]
