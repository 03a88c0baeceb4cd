use Rattle.std.proofs.Common.{rules}
use Rattle.alternating.specs.Arrivals.{answered_by}
use Rattle.alternating.specs.Lanes.{lane_model}
use Rattle.retry.proofs.Folding.{folded}
use Rattle.retry.proofs.round.take_answers.Goals as goal

pub returns : goal.returns
returns g c =
    let d = c.args.link.lane.0 in
    let ran = c.drain.ensures.drains in
    record {
      drains = (
        ran.0,
        (
          rw (← c.answers.ensures.value) ran.1.0,
          folded lane_model (λ m f. answered_by d f m) (λ n f k one. search rules) ran.0 _ _ ran.1.1,
        ),
      );
    }
