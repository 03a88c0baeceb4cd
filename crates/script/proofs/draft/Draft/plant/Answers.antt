use Rattle.std.proofs.Common.{ap}
use Rattle.script.proofs.Planting.{drafted_so}
use Rattle.script.specs.Obeying as obeying
use Rattle.script.specs.Stages.{draft_of, choice_of, setting_of}
use Rattle.script.proofs.draft.Draft.plant.Goals as goal

pub returns-in_ok-planted-in-Straight : goal.returns-in_ok-planted-in-Straight
returns-in_ok-planted-in-Straight c =
    record {
      cases =
          drafted_so _ _ _ _ (draft_of c.args.self.now) _ c.as_slice-parents.ensures.value
          (obeying.over_a_straight (ap choice_of c.in-Straight.is) c.new.ensures.value) c.in_ok-planted-in-Straight.ensures.cases;
    }

pub returns-in_ok-planted-in-Clean : goal.returns-in_ok-planted-in-Clean
returns-in_ok-planted-in-Clean c =
    let new : obeying.NewClean c.new-in-Clean-2.result = record { wires = c.new-in-Clean.result; nothing_flies = c.new-in-Clean.ensures.value; over = c.new-in-Clean-2.ensures.value } in
    record {
      cases =
          drafted_so _ _ _ _ (draft_of c.args.self.now) _ c.as_slice-parents.ensures.value
          (obeying.over_a_clean (ap choice_of c.in-Clean.is) new) c.in_ok-planted-in-Clean.ensures.cases;
    }

pub returns-in_ok-planted-in-Retry : goal.returns-in_ok-planted-in-Retry
returns-in_ok-planted-in-Retry c =
    let new : obeying.NewPatterned (setting_of c.in-Retry.setting) c.new-in-Retry.result = record { wires = c.with-wiring.result; begun = c.with-wiring.ensures.value; over = c.new-in-Retry.ensures.value } in
    record {
      cases =
          drafted_so _ _ _ _ (draft_of c.args.self.now) _ c.as_slice-parents.ensures.value
          (obeying.over_a_patterned (ap choice_of c.in-Retry.is) new) c.in_ok-planted-in-Retry.ensures.cases;
    }
