-- Parties: the cabinet itself, or a neighbour.
use Rattle.std.specs.Prelude.{ℕ, ◌+◌, Bool, true, false, cond, List, [], ◌∷◌, ◌==◌}
use Rattle.cabinet.specs.declared.party.Party.{Party}
use Rattle.cabinet.specs.declared.party.Party.TheVariants.{Own, Neighbour}

abbrev pub own : Party → Bool
own Own = true
own (Neighbour n) = false

abbrev pub same : Party → Party → Bool
same Own Own = true
same Own (Neighbour n) = false
same (Neighbour m) Own = false
same (Neighbour m) (Neighbour n) = m.0 == n.0

-- how often a party stands in a queue
abbrev pub times : Party → List Party → ℕ
times p [] = 0
times p (q ∷ qs) = cond (same p q) 1 0 + times p qs
