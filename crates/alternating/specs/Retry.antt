-- The retry post: a sender and a receiver for each lane over one wiring, what its calls do by its own rules, what it means as a post, and
-- that the one is the other.
use Rattle.std.specs.Prelude.{◌≡◌, ℕ, ◌+◌, ◌*◌, ◌<◌, ◌≤◌, cond, length, Some, None, Ok, Err, Option, Result, ◌≢◌}
use Rattle.cable.specs.Numbers.{lanes}
use Rattle.cable.specs.declared.message.Message.{Message}
use Rattle.cable.specs.declared.refusal.Refusal.{Refusal}
use Rattle.cable.specs.declared.refusal.Refusal.TheVariants.{NoSuchLane, LaneFull}
use Rattle.wiring.specs.Wirings.{WiringModel, WiringSound, Sends, Takes}
use Rattle.post.specs.Posts.{PostModel, PostSound, Puts, Pulls}
use Rattle.alternating.specs.Lanes.{LaneModel, LaneSound, same, waiting_in, added}
use Rattle.alternating.specs.Rounds.{SendRule, TakeRule, Round, frame_wire, answer_wire}

pub record RetryState (W : Type 0) : Type 0 where
  pub lane : ℕ → LaneModel
  pub wiring : W

-- no lane but this one changes
abbrev pub OnlyLane : {W : Type 0} → ℕ → RetryState W → RetryState W → Type 0
OnlyLane lane s t = (l : ℕ) → (l ≢ lane) → t.lane l ≡ s.lane l

pub record Unchanged {W : Type 0} (s t : RetryState W) : Type 0 where
  pub lane : (l : ℕ) → t.lane l ≡ s.lane l
  pub wiring : t.wiring ≡ s.wiring

pub record RetryPuts {W : Type 0} (s : RetryState W) (lane : ℕ) (x : Message) (r : Result (Unit {0}) Refusal) (t : RetryState W) : Type 0 where
  pub no_lane : lanes ≤ lane → (r ≡ Err NoSuchLane) × Unchanged s t
  pub full : lane < lanes → 4 ≤ length (waiting_in (s.lane lane)) → (r ≡ Err LaneFull) × Unchanged s t
  pub done : lane < lanes → length (waiting_in (s.lane lane)) < 4 → (r ≡ Ok tt) × (t.lane lane ≡ added x (s.lane lane))
  pub others : OnlyLane lane s t
  pub wiring : t.wiring ≡ s.wiring

pub record RetryPulls {W : Type 0} (Send : SendRule W) (Take : TakeRule W) (s : RetryState W) (lane : ℕ) (r : Result (Option Message) Refusal) (t : RetryState W)
    : Type 0 where
  pub no_lane : lanes ≤ lane → (r ≡ Err NoSuchLane) × Unchanged s t
  pub idle : lane < lanes → (s.lane lane).outstanding ≡ None → (r ≡ Ok None) × Unchanged s t
  pub round :
      lane < lanes → (x : Message) → (s.lane lane).outstanding ≡ Some x
      → Round Send Take lane x (s.lane lane) s.wiring r (t.lane lane) t.wiring
  pub others : OnlyLane lane s t

-- the same lanes over what the wiring means
abbrev pub read_by : {W V : Type 0} → (W → V) → RetryState W → RetryState V
read_by means s = record { lane = s.lane; wiring = means s.wiring }

abbrev pub RetryModel : Type 0
RetryModel = RetryState WiringModel

pub record RetrySound (s : RetryModel) : Type 0 where
  pub wiring : WiringSound s.wiring
  pub lane : (l : ℕ) → LaneSound (s.lane l)

-- the patience over a wiring with M misses
abbrev pub patience_over : ℕ → ℕ
patience_over M = M * M + 3 * M + 1

-- the allowance: f and g are the spares of the wire of the frames and of the wire of the answers
abbrev pub allowance_of : LaneModel → ℕ → ℕ → ℕ → ℕ
allowance_of m M f g =
    elim m.outstanding [ None ↦ 0 | Some x ↦ cond (same m.sending m.expected) f (g * (M + 1) + f + 1 + M) ]

abbrev pub post_of : RetryModel → PostModel
post_of s =
    record {
      waiting = λ l. waiting_in (s.lane l);
      allowance = λ l. allowance_of (s.lane l) s.wiring.misses (s.wiring.spare (frame_wire l)) (s.wiring.spare (answer_wire l));
      patience = patience_over s.wiring.misses;
    }

-- every retry post is a post, and each of its calls is a call of a post
abbrev pub RetryIsAPost : Type 0
RetryIsAPost = (s : RetryModel) → RetrySound s → PostSound (post_of s)

abbrev pub RetryPutsAsAPost : Type 0
RetryPutsAsAPost =
    (s t : RetryModel) (lane : ℕ) (x : Message) (r : Result (Unit {0}) Refusal)
    → RetrySound s → RetryPuts s lane x r t → Puts (post_of s) lane x r (post_of t) × RetrySound t

abbrev pub RetryPullsAsAPost : Type 0
RetryPullsAsAPost =
    (s t : RetryModel) (lane : ℕ) (r : Result (Option Message) Refusal)
    → RetrySound s → RetryPulls Sends Takes s lane r t → Pulls (post_of s) lane r (post_of t) × RetrySound t
