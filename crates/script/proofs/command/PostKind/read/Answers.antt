use Rattle.std.proofs.Common.{rules, refl, arith}
use Rattle.std.proofs.lemmas.Slice.Eq.{text_from_reads}
use Rattle.script.specs.declared.command.PostKind.TheVariants.{Straight}
use Rattle.text.proofs.Naming.{named_so}
use Rattle.script.specs.Words.{kind_name, kinds}
use Rattle.script.proofs.command.PostKind.read.Goals as goal

pub returns-in-straight : goal.returns-in-straight
returns-in-straight c = record { value = named_so kind_name kinds Straight refl c.args.field.now (text_from_reads _ _ (omega arith) (search rules)) }
