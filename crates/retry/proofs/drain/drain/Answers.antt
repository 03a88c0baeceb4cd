use Rattle.std.proofs.Common.{[], ◌∷◌, ◌++◌, Some, None, Ok, refl, rules}
use Rattle.std.proofs.lemmas.Fn.{FoldsTo-push}
use Rattle.alternating.proofs.Draining.{never_refused, fewer}
use Rattle.alternating.specs.Rounds.{begun, further}
use Rattle.retry.proofs.drain.drain.Goals.{in_default, in_default-2}
use Rattle.retry.proofs.drain.drain.Goals as goal

pub loop-frame-init : goal.loop-frame-init
loop-frame-init g c = ([], (begun, refl))

pub loop-frame-smaller : goal.loop-frame-smaller
loop-frame-smaller g c =
    fewer _ _ c.args.wire.number.0 (Some c.in-Ok-Some.frame) c.args.wire.within refl
    (g.met.W.Wiring.take_meant c.loop-frame.wiring c.take.new.self c.args.wire.number.0 _ (rw c.in-Ok-Some.field-0-is at c.in-Ok-Some.ensures.own))

pub loop-frame-preserved : goal.loop-frame-preserved
loop-frame-preserved g c =
    let so_far = c.loop-frame.invariant in
    let f = c.in-Ok-Some.frame in (
      so_far.0 ++ f ∷ [],
      (
        further {u = c.take.new.self} so_far.1.0 (rw c.in-Ok-Some.field-0-is at c.in-Ok-Some.ensures.own),
        FoldsTo-push _ _ _ _ f _ so_far.1.1 c.make-made.ensures,
      ),
    )

pub returns : goal.returns
returns g c =
    let nothing : g.W.Wiring.takes c.loop-frame.wiring c.args.wire.number.0 (Ok None) c.take.new.self =
    elim c.match-take.branch [ in_default w ↦ search rules | in_default-2 w ↦ absurd (never_refused _ _ c.args.wire.number.0 w.in_default.field-0 _ c.args.wire.within refl (g.met.W.Wiring.take_meant c.loop-frame.wiring c.take.new.self c.args.wire.number.0 _ (rw w.in_default.is at c.take.ensures.own))) ] in
    record {
      drains = (
        c.loop-frame.invariant.0,
        (record { last = c.loop-frame.wiring; taken = c.loop-frame.invariant.1.0; nothing = nothing }, c.loop-frame.invariant.1.1),
      );
    }
