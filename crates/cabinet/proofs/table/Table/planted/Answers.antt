use Rattle.std.proofs.Common.{rules, ap}
use Rattle.tree.specs.Planted.{parents_of}
use Rattle.cable.proofs.Made.{made}
use Rattle.cabinet.specs.Tables.{PlantedAt}
use Rattle.cabinet.proofs.Viewing.{planted_all}
use Rattle.cabinet.proofs.table.Table.planted.Goals as goal

pub returns : goal.returns
returns c =
    let ps = parents_of c.args.tree.now in
    record {
      value =
          planted_all ps c.from_fn.result c.from_fn.ensures.items.long
          (made (PlantedAt ps) 16
          (λ i y q l called. (ap (λ t. record { 0 = t }) called.met.1, search rules)) c.from_fn.ensures.items);
    }
