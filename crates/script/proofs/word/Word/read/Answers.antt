use Rattle.std.proofs.Common.{rules, refl, arith}
use Rattle.std.proofs.lemmas.Slice.Eq.{text_from_reads}
use Rattle.script.specs.declared.word.Word.TheVariants.{Misses, Pattern, Cabinet}
use Rattle.text.proofs.Naming.{named_so}
use Rattle.script.specs.Words.{word_name, words}
use Rattle.script.proofs.word.Word.read.Goals as goal

pub returns-in-misses : goal.returns-in-misses
returns-in-misses c = record { value = named_so word_name words Misses refl c.args.field.now (text_from_reads _ _ (omega arith) (search rules)) }

pub returns-in-pattern : goal.returns-in-pattern
returns-in-pattern c = record { value = named_so word_name words Pattern refl c.args.field.now (text_from_reads _ _ (omega arith) (search rules)) }

pub returns-in-cabinet : goal.returns-in-cabinet
returns-in-cabinet c = record { value = named_so word_name words Cabinet refl c.args.field.now (text_from_reads _ _ (omega arith) (search rules)) }
