use Rattle.cable.proofs.Tables.{all_same}
use Rattle.retry.specs.Tables.{kept_model}
use Rattle.retry.proofs.retry.new_lanes.Goals as goal

pub returns : goal.returns
returns c = record { value = all_same kept_model 30 c.new.result _ c.new.ensures.value }
