-- Which lane and wire numbers there are, and how a number becomes a place in a table. Any other number can be held, and is refused by
-- the call that is given it.
use Rattle.std.specs.Prelude.{ℕ, cond, Ok, Err, Result, nat_lt}
use Rattle.cable.specs.declared.number.CabinetNo.{CabinetNo}
use Rattle.cable.specs.declared.number.LaneNo.{LaneNo}
use Rattle.cable.specs.declared.number.WireNo.{WireNo}
use Rattle.cable.specs.declared.refusal.Refusal.{Refusal}
use Rattle.cable.specs.declared.refusal.Refusal.TheVariants.{NoSuchCabinet, NoSuchLane, NoSuchWire}

-- a tree of sixteen cabinets has fifteen cables, each with a lane for either direction
abbrev pub lanes : ℕ
lanes = 30

-- two for each lane
abbrev pub wires : ℕ
wires = 60

-- a number below the count is a place in a table of that length
abbrev pub place_in : ℕ → ℕ → Refusal → Result ℕ Refusal
place_in n count absent = cond (nat_lt n count) (Ok n) (Err absent)

abbrev pub cabinet_index : CabinetNo → ℕ → Result ℕ Refusal
cabinet_index c cabinets = place_in c.0 cabinets NoSuchCabinet

abbrev pub lane_index : LaneNo → Result ℕ Refusal
lane_index l = place_in l.0 lanes NoSuchLane

abbrev pub wire_index : WireNo → Result ℕ Refusal
wire_index w = place_in w.0 wires NoSuchWire
