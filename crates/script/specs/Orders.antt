-- What a line asks for.
use Rattle.std.specs.Prelude.{ℕ, List, Ok, Err, Result}
use Rattle.cable.specs.declared.refusal.Refusal.{Refusal}
use Rattle.wiring.specs.Held.{letters_of}
use Rattle.wiring.specs.declared.letter.Letter.{Letter}
use Rattle.script.specs.declared.command.Command.{Command}
use Rattle.script.specs.declared.command.Command.TheVariants as command
use Rattle.script.specs.declared.command.PostKind.{PostKind}

pub data Order : Type 0 where
  post : PostKind → Order
  misses : ℕ → Order
  pattern : ℕ → List Letter → Order
  cabinet : ℕ → ℕ → Order
  plant : Order
  want : ℕ → Order
  leave : ℕ → Order
  sweep : ℕ → Order
  bound : ℕ → Order

abbrev pub order_of : Command → Order
order_of (command.Post k) = post k
order_of (command.Misses m) = misses m
order_of (command.Pattern w ls) = pattern w.0 (letters_of ls)
order_of (command.Cabinet k p) = cabinet k.0 p.0
order_of command.Plant = plant
order_of (command.Want n) = want n.0
order_of (command.Leave n) = leave n.0
order_of (command.Sweep c) = sweep c
order_of (command.Bound s) = bound s

abbrev pub ordered : Result Command Refusal → Result Order Refusal
ordered (Ok c) = Ok (order_of c)
ordered (Err why) = Err why
