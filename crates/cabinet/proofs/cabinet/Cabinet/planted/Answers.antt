use Rattle.std.proofs.Common.{rules, ◌≡◌, ap, ◌∙◌}
use Rattle.cable.proofs.Room.{contents_few}
use Rattle.tree.specs.Planted.{members_of, parents_of}
use Rattle.cabinet.specs.Kept.{knows}
use Rattle.cabinet.specs.Planted.{holder_in}
use Rattle.cabinet.proofs.Few.{few_neighbours_of_any, parent_known}
use Rattle.cabinet.proofs.Ghosts.{kept_new}
use Rattle.cabinet.proofs.cabinet.Cabinet.planted.Goals as goal

pub invariant_of-result : goal.invariant_of-result
invariant_of-result c =
    let tree = c.args.tree.now in
    let ps = parents_of tree in
    let small = contents_few tree.parents in
    let bs = members_of c.neighbours.result in
    let near = c.neighbours.ensures.value in
    let few = few_neighbours_of_any ps tree.grown small bs c.args.k.0 near in
    let holder : c.map_or.result ≡ holder_in ps c.args.k.0 = search rules in
    let known = ap (knows bs) holder ∙ parent_known ps tree.grown small bs c.args.k.0 near in
    let k = kept_new bs _ c.map_or.result few known c.new.ensures.value in
    record { few = k.few; once = k.once; apart = k.apart; home = k.home; idle = k.idle; asks = k.asks; known = k.known; near = k.near; told = search rules }
