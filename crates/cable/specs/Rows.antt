-- First-in first-out rows, over places that are lent to them or over N of their own.
use Rattle.std.specs.Prelude.{ℕ, cond, List, [], ◌∷◌, ◌++◌, length, take, Some, None, Ok, Err, Option, Result, nat_lt}
use Rattle.cable.specs.declared.row.Full.{Full}
use Rattle.cable.specs.declared.row.Row.{Row}
use Rattle.cable.specs.declared.row.lent.LentRow.{LentRow}

-- what stands in a row over these places, oldest first: those that are taken
abbrev pub contents_over : {T : Type 0} → LentRow → List T → List T
contents_over r places = take r.taken places

abbrev pub contents : {T : Type 0} {N : ℕ} → Row T N → List T
contents r = contents_over r.row r.places

-- one more behind the others, where fewer than size stand
abbrev pub joined : {T : Type 0} → List T → ℕ → T → List T
joined xs size x = cond (nat_lt (length xs) size) (xs ++ x ∷ []) xs

abbrev pub joins : {T : Type 0} → List T → ℕ → Result (Unit {0}) Full
joins xs size = cond (nat_lt (length xs) size) (Ok tt) (Err (record {}))

abbrev pub oldest : {T : Type 0} → List T → Option T
oldest [] = None
oldest (x ∷ xs) = Some x

abbrev pub rest : {T : Type 0} → List T → List T
rest [] = []
rest (x ∷ xs) = xs
