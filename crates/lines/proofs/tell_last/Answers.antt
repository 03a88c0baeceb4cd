use Rattle.std.proofs.Common.{rules, ◌≡◌, ◌≤◌, length}
use Rattle.std.proofs.lemmas.Result.{on_ok_weaker}
use Rattle.text.specs.Lines.{line_in}
use Rattle.lines.proofs.Handling.{last_none, last_one}
use Rattle.lines.proofs.tell_last.Goals as goal

pub returns-then-is_empty : goal.returns-then-is_empty
returns-then-is_empty g c =
    let e : length (line_in c.args.line.now) ≡ 0 = search rules in
    record { handles = last_none _ _ _ e }

pub returns : goal.returns
returns g c =
    let e : 1 ≤ length (line_in c.args.line.now) = search rules in
    record { handles = on_ok_weaker _ (last_one _ _ _ _ _ c.line-2.ensures.value e) c.handle.ensures.handled }
