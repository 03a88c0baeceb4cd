use Rattle.std.proofs.Common.{rules, ◌≡◌, true}
use Rattle.std.specs.Prelude.{◌↔◌, IsTrue, EachIndex}
use Rattle.tree.specs.Trees.{lower, parent_of}
use Rattle.tree.proofs.InOrder.{in_order}
use Rattle.tree.proofs.tree.plant.in_order.Goals as goal

pub returns : goal.returns
returns c =
    let ps = c.args.parents.now in
    let each : IsTrue c.all.result ↔ EachIndex ps (λ k. lower k (parent_of ps k) ≡ true) = search rules in
    record { value = in_order ps c.all.result each }
