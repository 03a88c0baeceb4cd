use Rattle.std.proofs.Common.{rules}
use Rattle.alternating.specs.Arrivals.{receive_next}
use Rattle.alternating.specs.Lanes.{lane_model}
use Rattle.alternating.specs.declared.lane.Received.{Received}
use Rattle.alternating.specs.declared.lane.Lane.{Lane}
use Rattle.retry.proofs.Folding.{folded}
use Rattle.retry.proofs.round.receive.Goals as goal

pub returns : goal.returns
returns g c =
    let d = c.args.link.lane.0 in
    let ran = c.drain.ensures.drains in
    record {
      receives = (
        ran.0,
        (
          rw (← c.frames.ensures.value) ran.1.0,
          rw (← c.nothing.ensures.value) (folded (λ (n : Lane × Received). (lane_model n.0, n.1)) (receive_next d) (λ n f k one. search rules) ran.0 _ _ ran.1.1),
        ),
      );
    }
