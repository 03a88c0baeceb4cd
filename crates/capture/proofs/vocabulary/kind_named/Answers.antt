use Rattle.std.proofs.Common.{rules, arith, refl}
use Rattle.std.proofs.lemmas.Slice.Eq.{text_from_reads}
use Rattle.cable.specs.declared.frame.Kind.TheVariants.{Carry, Answer}
use Rattle.cable.specs.declared.message.Message.TheVariants.{Request, Privilege}
use Rattle.text.proofs.Naming.{named_so}
use Rattle.capture.specs.Vocabulary.{kind_name, kinds}
use Rattle.capture.proofs.vocabulary.kind_named.Goals as goal

pub returns-in-REQUEST : goal.returns-in-REQUEST
returns-in-REQUEST c = record { value = named_so kind_name kinds (Carry Request) refl c.args.field.now (text_from_reads _ _ (omega arith) (search rules)) }

pub returns-in-PRIVILEGE : goal.returns-in-PRIVILEGE
returns-in-PRIVILEGE c = record { value = named_so kind_name kinds (Carry Privilege) refl c.args.field.now (text_from_reads _ _ (omega arith) (search rules)) }

pub returns-in-ANSWER : goal.returns-in-ANSWER
returns-in-ANSWER c = record { value = named_so kind_name kinds Answer refl c.args.field.now (text_from_reads _ _ (omega arith) (search rules)) }
