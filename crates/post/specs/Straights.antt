-- The straight post: on each lane the messages that wait, oldest first; a pull always gives the oldest.
use Rattle.std.specs.Prelude.{◌≡◌, ℕ, ◌<◌, ◌≤◌, List, [], ◌∷◌, ◌++◌, map, length, Some, None, Ok, Err, Option, Result, ◌≢◌, slice_index_or}
use Rattle.cable.specs.Numbers.{lanes}
use Rattle.cable.specs.Rows.{contents}
use Rattle.cable.specs.declared.message.Message.{Message}
use Rattle.cable.specs.declared.refusal.Refusal.{Refusal}
use Rattle.cable.specs.declared.refusal.Refusal.TheVariants.{NoSuchLane, LaneFull}
use Rattle.post.specs.Posts.{PostModel}
use Rattle.post.specs.declared.straight.Straight.{Straight}

abbrev pub waiting_on : Straight → ℕ → List Message
waiting_on p lane = slice_index_or (map contents p.queues) lane []

-- every other lane is exactly as it was
abbrev pub OnlyOn : ℕ → Straight → Straight → Type 0
OnlyOn lane p q = (l : ℕ) → (l ≢ lane) → waiting_on q l ≡ waiting_on p l

-- the message joins the end, unless four wait
pub record StraightPuts (p : Straight) (lane : ℕ) (m : Message) (r : Result (Unit {0}) Refusal) (q : Straight) : Type 0 where
  pub no_lane : lanes ≤ lane → (r ≡ Err NoSuchLane) × (waiting_on q lane ≡ waiting_on p lane)
  pub full : lane < lanes → length (waiting_on p lane) ≡ 4 → (r ≡ Err LaneFull) × (waiting_on q lane ≡ waiting_on p lane)
  pub done : lane < lanes → length (waiting_on p lane) < 4 → (r ≡ Ok tt) × (waiting_on q lane ≡ waiting_on p lane ++ m ∷ [])
  pub others : OnlyOn lane p q

-- the oldest leaves, if one waits
pub record StraightPulls (p : Straight) (lane : ℕ) (r : Result (Option Message) Refusal) (q : Straight) : Type 0 where
  pub no_lane : lanes ≤ lane → (r ≡ Err NoSuchLane) × (waiting_on q lane ≡ waiting_on p lane)
  pub empty : lane < lanes → waiting_on p lane ≡ [] → (r ≡ Ok None) × (waiting_on q lane ≡ [])
  pub given : lane < lanes → (m : Message) (ms : List Message) → waiting_on p lane ≡ m ∷ ms → (r ≡ Ok (Some m)) × (waiting_on q lane ≡ ms)
  pub others : OnlyOn lane p q

-- as a post: no pull of a lane with messages comes back empty
abbrev pub straight_of : Straight → PostModel
straight_of p = record { waiting = waiting_on p; allowance = λ _. 0; patience = 0 }
