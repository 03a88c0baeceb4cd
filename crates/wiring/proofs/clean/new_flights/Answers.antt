use Rattle.std.proofs.Common.{[]}
use Rattle.cable.specs.Numbers.{wires}
use Rattle.wiring.specs.Wires.{flying_on}
use Rattle.cable.proofs.Tables.{all_same}
use Rattle.wiring.proofs.clean.new_flights.Goals as goal

pub returns : goal.returns
returns c = record { value = all_same flying_on wires c.new.result [] c.new.ensures.value }
