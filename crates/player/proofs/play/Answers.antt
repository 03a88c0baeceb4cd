use Rattle.std.proofs.Common.{subst}
use Rattle.lines.specs.Inputs.{lines_of}
use Rattle.player.specs.Plays.{Plays}
use Rattle.script.specs.Scripts.{held_by}
use Rattle.player.proofs.Playing.{played}
use Rattle.player.proofs.play.Goals as goal

pub returns : goal.returns
returns g c =
    let h = c.in_ok-each_line.ensures.handles in
    let t = played (λ p. held_by p.script) (λ p. g.W.Write.contents p.out) h.2 in
    record {
      plays = (h.0, h.1, t.0, t.1, subst (λ s. Plays s (lines_of h.0) t.0 t.1) c.new.ensures.value t.2, t.3);
      end = c.in_ok-each_line.ensures.end;
    }
