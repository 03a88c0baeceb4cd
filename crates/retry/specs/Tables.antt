-- The lanes of a retry post, by their numbers.
use Rattle.std.specs.Prelude.{ℕ, List, map, slice_index_or}
use Rattle.alternating.specs.Lanes.{LaneModel, lane_model, fresh}
use Rattle.retry.specs.declared.kept.KeptLane.{KeptLane}

abbrev pub kept_model : KeptLane → LaneModel
kept_model k = lane_model k.lane

abbrev pub lane_in : List KeptLane → ℕ → LaneModel
lane_in ls l = slice_index_or (map kept_model ls) l fresh
