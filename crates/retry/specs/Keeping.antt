-- Lanes as they stand between calls: each is sound.
use Rattle.std.proofs.Common.{ℕ, zero, suc, List, [], ◌∷◌}
use Rattle.std.proofs.lemmas.List.{nil_from_length}
use Rattle.alternating.proofs.OneLane.{fresh_sound}
use Rattle.alternating.specs.Lanes.{LaneSound}
use Rattle.retry.specs.Tables.{kept_model, lane_in}
use Rattle.retry.specs.declared.kept.KeptLane.{KeptLane}

pub kept_sound : (k : KeptLane) → LaneSound (kept_model k)
kept_sound k = record { idle = λ e. nil_from_length _ (k.idle e); level = k.level; few = k.few }

pub in_sound : (ls : List KeptLane) (l : ℕ) → LaneSound (lane_in ls l)
in_sound [] l = fresh_sound
in_sound (k ∷ ls) zero = kept_sound k
in_sound (k ∷ ls) (suc l) = in_sound ls l
