use Rattle.std.proofs.Common.{arith}
use native.Mathlib.Nat.{mod-add-mod}
use Rattle.wiring.proofs.letters.Letters.following.Goals as goal

pub returns : goal.returns
returns c = record { value = grind (arith, mod-add-mod) }
