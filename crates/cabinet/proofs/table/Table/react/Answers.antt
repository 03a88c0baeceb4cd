use Rattle.std.proofs.Common.{rules, ◌≡◌, length, ap, ◌∙◌}
use Rattle.cabinet.specs.Tables.{views_of, answer_at, after_at}
use Rattle.cabinet.proofs.Viewing.{placed, answers, changes}
use Rattle.cabinet.proofs.table.Table.react.Goals as goal

pub returns-clause-value : goal.returns-clause-value
returns-clause-value c =
    let all : length c.args.self.now.cabinets ≡ 16 = search rules in
    let at = placed c.args.n.0 c.in_ok-k.k c.in_ok-k.ensures.value in
    answers c.args.self.now.cabinets c.in_ok-k.k c.index-self-k.result c.react.new.self all at.1 c.args.event c.react.result
    c.react.ensures.reacts c.react.ensures.same
    ∙ ap (λ k. answer_at (views_of c.args.self.now) k c.args.event) at.0

pub returns-clause-after : goal.returns-clause-after
returns-clause-after c =
    let all : length c.args.self.now.cabinets ≡ 16 = search rules in
    let at = placed c.args.n.0 c.in_ok-k.k c.in_ok-k.ensures.value in
    changes c.args.self.now.cabinets c.in_ok-k.k c.index-self-k.result c.react.new.self all at.1 c.args.event c.react.result
    c.react.ensures.reacts c.react.ensures.same
    ∙ ap (λ k. after_at (views_of c.args.self.now) k c.args.event) at.0
