use Rattle.std.proofs.Common.{get_or, sym, ap, ◌∙◌, arith}
use Rattle.std.proofs.lemmas.List.{length-set}
use Rattle.cabinet.specs.Tables.{view_of}
use Rattle.bank.proofs.Counting.{grown, counted_next, counted_all}
use Rattle.bank.proofs.waits.lengthen.Goals as goal

pub loop-k-preserved : goal.loop-k-preserved
loop-k-preserved c = (
  length-set c.loop-k.counts c.loop-k.k c.longer.result ∙ c.loop-k.invariant.0,
  counted_next c.args.cabinets.now c.loop-k.counts c.args.counts.now c.loop-k.k c.longer.result
      c.index-cabinets-k.result (omega arith) c.loop-k.invariant.1 c.index-cabinets-k.is
      (c.longer.ensures.value ∙ ap (λ x. grown (view_of x) (get_or c.loop-k.counts c.loop-k.k 0)) (sym c.index-cabinets-k.is)),
)

pub returns : goal.returns
returns c =
    record {
      after = counted_all c.args.cabinets.now c.loop-k.counts c.args.counts.now c.loop-k.k (omega arith) c.loop-k.invariant.1;
    }
