use Rattle.std.proofs.Common.{rules, sym, ap, ◌∙◌, subst, arith}
use Rattle.tree.specs.Planted.{members_of}
use Rattle.cabinet.specs.Cabinets.{model_of}
use Rattle.cabinet.specs.Kept.{Kept}
use Rattle.cabinet.specs.Models.{served, assigned, asks, asking}
use Rattle.cabinet.specs.Phases.{phase_of, phase_after}
use Rattle.cabinet.specs.Reactions.{reaction_to}
use Rattle.cabinet.proofs.Ghosts.{kept}
use Rattle.cabinet.proofs.Keeping.{event_fits, event_keeps}
use Rattle.cabinet.proofs.Phasing.{phase_told}
use Rattle.cabinet.proofs.cabinet.Cabinet.react.Goals as goal

pub act-requires : goal.act-requires
act-requires c = record { room = event_fits _ _ (kept c.args.self.now) c.args.event }

pub invariant_of-self : goal.invariant_of-self
invariant_of-self c =
    let k = subst (Kept (members_of c.args.self.now.neighbours)) (sym c.in_err-act.ensures.cases.1) (kept c.args.self.now) in
    record { few = k.few; once = k.once; apart = k.apart; home = k.home; idle = k.idle; asks = k.asks; known = k.known; near = k.near; told = search rules }

pub invariant_of-self-2 : goal.invariant_of-self-2
invariant_of-self-2 c =
    let bs = members_of c.args.self.now.neighbours in
    let m = model_of c.args.self.now in
    let h = kept c.args.self.now in
    let done = c.settle-reaction.ensures.after ∙ ap (λ n. asking (assigned n)) c.in_ok-act.ensures.cases.1 in
    let k = subst (Kept bs) (sym done) (event_keeps bs m c.args.event h c.in_ok-act.ensures.cases.0) in
    let before = c.args.self.now.told in
    let comes = c.settle-reaction.ensures.value ∙ ap (λ n. reaction_to (served n) (asks (assigned n))) c.in_ok-act.ensures.cases.1 in
    let tells = ap (λ p. phase_after p c.args.event c.settle-reaction.result.entered) before ∙ ap (λ a. phase_after (phase_of m) c.args.event a.entered) comes in
    let leads = sym (phase_told bs m c.args.event h c.in_ok-act.ensures.cases.0) ∙ ap phase_of (sym done) in
    let after = c.after-self.ensures.value in
    record { few = k.few; once = k.once; apart = k.apart; home = k.home; idle = k.idle; asks = k.asks; known = k.known; near = k.near; told = grind arith }
