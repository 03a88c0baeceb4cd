-- One round of a pull that has a message to repeat: both wires are cleared, the sender sends, the receiver accepts and acknowledges, and
-- the sender takes the acknowledgements. It goes by whatever rules a wiring has for its two calls.
use Rattle.std.specs.Prelude.{◌≡◌, ℕ, ◌+◌, ◌*◌, List, [], ◌∷◌, ◌++◌, Some, None, Ok, Err, Option, Result, MatchResult}
use Rattle.cable.specs.Frames.{bytes_of}
use Rattle.cable.specs.Worked.{frame}
use Rattle.cable.specs.declared.frame.Bit.{Bit}
use Rattle.cable.specs.declared.frame.Kind.TheVariants.{Carry, Answer}
use Rattle.cable.specs.declared.message.Message.{Message}
use Rattle.cable.specs.declared.refusal.Refusal.{Refusal}
use Rattle.alternating.specs.Arrivals.{receive_all, answered_by_all}
use Rattle.alternating.specs.Lanes.{LaneModel}
use Rattle.alternating.specs.declared.lane.Received.{Received}

-- a lane has two wires
abbrev pub frame_wire : ℕ → ℕ
frame_wire lane = 2 * lane

abbrev pub answer_wire : ℕ → ℕ
answer_wire lane = 2 * lane + 1

-- what a wiring's send and take may do: the wiring before, the wire (and the frame), the answer, the wiring after
abbrev pub SendRule : Type 0 → Type 1
SendRule W = W → ℕ → List ℕ → Result (Unit {0}) Refusal → W → Type 0

abbrev pub TakeRule : Type 0 → Type 1
TakeRule W = W → ℕ → Result (Option (List ℕ)) Refusal → W → Type 0

-- take after take from one wire has given these frames, the oldest first
pub data Taken {W : Type 0} (Take : TakeRule W) (wire : ℕ) (w : W) : List (List ℕ) → W → Type 0 where
  begun : Taken Take wire w [] w
  further : {fs : List (List ℕ)} {v u : W} {f : List ℕ} → Taken Take wire w fs v → Take v wire (Ok (Some f)) u → Taken Take wire w (fs ++ f ∷ []) u

-- and then a take gave nothing
pub record Drains {W : Type 0} (Take : TakeRule W) (wire : ℕ) (w : W) (frames : List (List ℕ)) (v : W) : Type 0 where
  pub last : W
  pub taken : Taken Take wire w frames last
  pub nothing : Take last wire (Ok None) v

-- 1. both wires are drained, whatever they held
pub record Clears {W : Type 0} (Take : TakeRule W) (lane : ℕ) (w v : W) : Type 0 where
  pub old_frames : List (List ℕ)
  pub old_answers : List (List ℕ)
  pub between : W
  pub frames : Drains Take (frame_wire lane) w old_frames between
  pub answers : Drains Take (answer_wire lane) between old_answers v

-- the receiver acknowledges: one ANSWER goes out, with the bit of the last message that came, if one came
abbrev pub Answers : {W : Type 0} → SendRule W → ℕ → Option Bit → W → Result (Unit {0}) Refusal → W → Type 0
Answers Send lane None w r v = (r ≡ Ok tt) × (v ≡ w)
Answers Send lane (Some b) w r v = Send w (answer_wire lane) (bytes_of (frame Answer b lane)) r v

-- 4. and 5. the sender takes what comes on the wire of the answers, and the accepted message, if any, is the pull's answer
pub record TakesAnswers {W : Type 0} (Take : TakeRule W) (lane : ℕ) (h : LaneModel × Received) (w : W) (r : Result (Option Message) Refusal)
    (n : LaneModel) (v : W) : Type 0 where
  pub answers : List (List ℕ)
  pub drains : Drains Take (answer_wire lane) w answers v
  pub after : n ≡ answered_by_all lane h.0 answers
  pub value : r ≡ Ok h.1.accepted

-- 3. the receiver takes what comes on the wire of the frames, and acknowledges it; a refusal is handed up
pub record Receives {W : Type 0} (Send : SendRule W) (Take : TakeRule W) (lane : ℕ) (m : LaneModel) (w : W)
    (r : Result (Option Message) Refusal) (n : LaneModel) (v : W) : Type 0 where
  pub frames : List (List ℕ)
  pub received : W
  pub sent : Result (Unit {0}) Refusal
  pub answering : W
  pub drains : Drains Take (frame_wire lane) w frames received
  pub answers : Answers Send lane (receive_all lane m frames).1.come received sent answering
  pub onward :
      MatchResult sent (λ _. TakesAnswers Take lane (receive_all lane m frames) answering r n v)
      (λ why. (r ≡ Err why) × (n ≡ (receive_all lane m frames).0) × (v ≡ answering))

-- 2. after clearing, the outstanding message x is sent, with the sending bit; a refusal is handed up
pub record Round {W : Type 0} (Send : SendRule W) (Take : TakeRule W) (lane : ℕ) (x : Message) (m : LaneModel) (w : W)
    (r : Result (Option Message) Refusal) (n : LaneModel) (v : W) : Type 0 where
  pub cleared : W
  pub sent : Result (Unit {0}) Refusal
  pub sending : W
  pub clears : Clears Take lane w cleared
  pub sends : Send cleared (frame_wire lane) (bytes_of (frame (Carry x) m.sending lane)) sent sending
  pub onward :
      MatchResult sent (λ _. Receives Send Take lane m sending r n v) (λ why. (r ≡ Err why) × (n ≡ m) × (v ≡ sending))
