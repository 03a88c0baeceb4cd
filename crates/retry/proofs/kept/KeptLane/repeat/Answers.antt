use Rattle.std.proofs.Common.{length, ap}
use Rattle.wiring.specs.Wirings.{Sends, Takes}
use Rattle.alternating.proofs.Meaning.{round_meant}
use Rattle.alternating.specs.Lanes.{LaneSound, lane_model}
use Rattle.retry.proofs.Repeating.{round_sound}
use Rattle.retry.specs.Keeping.{kept_sound}
use Rattle.retry.specs.Tables.{kept_model}
use Rattle.retry.proofs.kept.KeptLane.repeat.Goals as goal

pub invariant_of-self : goal.invariant_of-self
invariant_of-self g c =
    let w = c.args.wiring.now in
    let v = c.repeat.new.wiring in
    let m = kept_model c.args.self.now in
    let n = lane_model c.repeat.new.lane in
    let d = c.args.link.lane.0 in
    let s : LaneSound n =
    round_sound d c.args.link.within m n (g.W.Wiring.means w) (g.W.Wiring.means v) c.repeat.result (kept_sound c.args.self.now)
    (g.met.W.Wiring.sound w) (λ none. (c.repeat.ensures.idle none).1)
    (λ x is.
    round_meant g.W.Wiring.means g.W.Wiring.sends Sends g.W.Wiring.takes Takes g.met.W.Wiring.send_meant
    g.met.W.Wiring.take_meant d c.repeat.result n v x m w (c.repeat.ensures.round x is)) in
    record { idle = λ none. ap length (s.idle none); level = s.level; few = s.few }
