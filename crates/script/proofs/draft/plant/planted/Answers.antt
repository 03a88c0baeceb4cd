use Rattle.std.proofs.lemmas.Result.{err_from_is_err_and}
use Rattle.bank.specs.Banks.{own_rules, bank_of}
use Rattle.script.proofs.Planting.{planted_so, refused_so}
use Rattle.script.proofs.draft.plant.planted.Goals as goal

pub returns-in_err-plant : goal.returns-in_err-plant
returns-in_err-plant g c =
    let p = err_from_is_err_and c.from_residual.result c.from_residual.ensures.1 in
    rw (p.1, p.2)
    record { cases = refused_so (own_rules g.P.Post.means g.P.Post.puts g.P.Post.pulls) _ _ _ _ c.new-bank.ensures.value c.requires.idle _ c.in_err-plant.ensures.plants }

pub returns : goal.returns
returns g c =
    record {
      cases = (
        planted_so (own_rules g.P.Post.means g.P.Post.puts g.P.Post.pulls) _ _ _ _ c.new-bank.ensures.value c.requires.idle c.in_ok-plant.ensures.plants,
        record { before = bank_of c.new-bank.result; new = c.new-bank.ensures.value; plants = c.in_ok-plant.ensures.plants },
      );
    }
