-- What arriving bytes do to a lane: its receiver accepts a message or not, and acknowledges it; its sender goes on at an
-- acknowledgement.
use Rattle.std.specs.Prelude.{ℕ, Bool, false, cond, ◌&&◌, List, is_some, Some, None, Ok, Err, fold, Option, ◌==◌}
use Rattle.cable.specs.Frames.{flip, read}
use Rattle.cable.specs.Rows.{oldest, rest}
use Rattle.cable.specs.declared.frame.Bit.{Bit}
use Rattle.cable.specs.declared.frame.Frame.{Frame}
use Rattle.cable.specs.declared.frame.Kind.TheVariants.{Carry, Answer}
use Rattle.cable.specs.declared.message.Message.{Message}
use Rattle.alternating.specs.Lanes.{LaneModel, same}
use Rattle.alternating.specs.declared.lane.Received.{Received}

-- the frame that these bytes are, if they are one of this lane
abbrev pub frame_in : ℕ → List ℕ → Option Frame
frame_in lane bytes = elim (read bytes) [ Err why ↦ None | Ok f ↦ cond (f.lane.0 == lane) (Some f) None ]

-- the message that it carries, with its bit, or the bit that it answers
abbrev pub message_of : Option Frame → Option (Message × Bit)
message_of None = None
message_of (Some f) = elim f.kind [ Carry x ↦ Some (x, f.bit) | Answer ↦ None ]

abbrev pub answer_of : Option Frame → Option Bit
answer_of None = None
answer_of (Some f) = elim f.kind [ Carry x ↦ None | Answer ↦ Some f.bit ]

abbrev pub message_in : ℕ → List ℕ → Option (Message × Bit)
message_in lane bytes = message_of (frame_in lane bytes)

abbrev pub answer_in : ℕ → List ℕ → Option Bit
answer_in lane bytes = answer_of (frame_in lane bytes)

-- a message that has come is accepted if it has the expected bit, which then turns; it is answered whichever its bit
abbrev pub accepted_at : Bit → Option (Message × Bit) → Option Message
accepted_at expected None = None
accepted_at expected (Some c) = cond (same c.1 expected) (Some c.0) None

abbrev pub come_with : Option (Message × Bit) → Option Bit
come_with None = None
come_with (Some c) = Some c.1

abbrev pub turned_by : Option Message → Bit → Bit
turned_by None b = b
turned_by (Some x) b = flip b

abbrev pub received_of : ℕ → List ℕ → LaneModel → Received
received_of lane bytes m =
    record { accepted = accepted_at m.expected (message_in lane bytes); come = come_with (message_in lane bytes) }

abbrev pub after_receiving : ℕ → List ℕ → LaneModel → LaneModel
after_receiving lane bytes m =
    record {
      outstanding = m.outstanding;
      behind = m.behind;
      sending = m.sending;
      expected = turned_by (received_of lane bytes m).accepted m.expected;
    }

-- an answer with the sending bit finishes the outstanding message: that bit turns, and the front of the row comes up
abbrev pub finishes : Option Bit → LaneModel → Bool
finishes None m = false
finishes (Some b) m = is_some m.outstanding && same b m.sending

abbrev pub finished : LaneModel → LaneModel
finished m =
    record { outstanding = oldest m.behind; behind = rest m.behind; sending = flip m.sending; expected = m.expected }

abbrev pub answered_by : ℕ → List ℕ → LaneModel → LaneModel
answered_by lane bytes m = cond (finishes (answer_in lane bytes) m) (finished m) m

-- several, one after the other: of what was received, the last message accepted and the last bit come count
abbrev pub later : {X : Type 0} → Option X → Option X → Option X
later None old = old
later (Some new) old = Some new

-- nothing came
abbrev pub nothing_received : Received
nothing_received = record { accepted = None; come = None }

-- what came before, and what came next
abbrev pub and_then : Received → Received → Received
and_then old new = record { accepted = later new.accepted old.accepted; come = later new.come old.come }

abbrev pub receive_next : ℕ → LaneModel × Received → List ℕ → LaneModel × Received
receive_next lane h bytes = (
  after_receiving lane bytes h.0,
  record {
    accepted = later (received_of lane bytes h.0).accepted h.1.accepted;
    come = later (received_of lane bytes h.0).come h.1.come;
  },
)

abbrev pub receive_all : ℕ → LaneModel → List (List ℕ) → LaneModel × Received
receive_all lane m frames = fold (receive_next lane) (m, record { accepted = None; come = None }) frames

abbrev pub answered_by_all : ℕ → LaneModel → List (List ℕ) → LaneModel
answered_by_all lane m answers = fold (λ n bytes. answered_by lane bytes n) m answers
