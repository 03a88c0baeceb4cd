-- A retry post as it is held: its lanes and its wiring.
use Rattle.std.specs.Prelude.{◌≡◌, ℕ}
use Rattle.alternating.specs.Lanes.{fresh}
use Rattle.alternating.specs.Retry.{RetryState}
use Rattle.retry.specs.Tables.{lane_in}
use Rattle.retry.specs.declared.retry.Retry.{Retry}

abbrev pub state_of : {W : Type 0} → Retry W → RetryState W
state_of p = record { lane = lane_in p.lanes; wiring = p.wiring }

-- over this wiring, and all lanes new
pub record NewOver {W : Type 0} (w : W) (s : RetryState W) : Type 0 where
  pub lane : (l : ℕ) → s.lane l ≡ fresh
  pub wiring : s.wiring ≡ w
