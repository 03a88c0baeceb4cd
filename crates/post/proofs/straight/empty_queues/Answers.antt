use Rattle.cable.specs.Rows.{contents}
use Rattle.cable.proofs.Tables.{all_same}
use Rattle.post.proofs.straight.empty_queues.Goals as goal

pub returns : goal.returns
returns c = record { value = all_same contents 30 c.new.result _ c.new.ensures.value }
