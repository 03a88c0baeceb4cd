use Rattle.std.proofs.Common.{rules}
use Rattle.std.proofs.lemmas.List.{take_rest}
use Rattle.text.proofs.Cuts.{clear_more}
use Rattle.text.proofs.field.cut.Goals as goal

pub returns-in-Some : goal.returns-in-Some
returns-in-Some c = record { value = search (rules, clear_more, take_rest) }
