use Rattle.std.proofs.Common.{rules, ◌≡◌, ◌≤◌, false, length, sym, ap, ◌∙◌, ⊎_elim, arith}
use Rattle.std.proofs.lemmas.Bool.{cases_lt}
use Rattle.std.proofs.lemmas.List.{get_or_past}
use Rattle.tree.specs.Planted.{parents_of}
use Rattle.tree.specs.Trees.{neighbours}
use Rattle.tree.proofs.Cables.{neighbours_within}
use Rattle.cable.proofs.Made.{made}
use Rattle.tree.proofs.tree.Tree.neighbours.Goals as goal

pub returns-clause-value : goal.returns-clause-value
returns-clause-value c =
    let ps = parents_of c.args.self.now in
    let k = c.args.k.0 in
    let few : length ps ≤ 16 = omega (arith, c.list-list.ensures.few, ap length c.list-list.ensures.value) in
    λ n.
    ⊎_elim (λ l. made (λ i m. m ≡ neighbours ps k i) 16 (λ i y q l called. search rules) c.from_fn.ensures.items n false l)
    (λ far. get_or_past c.from_fn.result n false (omega (arith, c.from_fn.ensures.items.long))
    ∙ sym (neighbours_within ps c.args.self.now.grown k n (omega arith)))
    (cases_lt n 16)
