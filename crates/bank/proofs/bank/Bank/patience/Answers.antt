use Rattle.std.proofs.Common.{refl, arith}
use Rattle.bank.proofs.Promising.{promised}
use Rattle.bank.proofs.bank.Bank.patience.Goals as goal

pub returns : goal.returns
returns g c =
    record {
      value = c.patience.ensures.value;
      few = omega (arith, c.patience.ensures.value, (g.met.P.Post.sound c.args.self.now.post).bounded);
      promised =
          promised g.P.Post.means g.P.Post.puts g.P.Post.pulls
          record {
            sound = g.met.P.Post.sound;
            waiting = λ p. refl;
            puts = g.met.P.Post.put_meant;
            pulls = g.met.P.Post.pull_meant;
          };
    }
