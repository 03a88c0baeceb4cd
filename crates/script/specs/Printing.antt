-- What is printed of an answer: fields with a tab between each and the next, and a line feed behind the last.
use Rattle.std.specs.Prelude.{ℕ, List, [], ◌∷◌, ◌++◌, Some, None, Ok, Err, codes, decimal, Option, Result}
use Rattle.cable.specs.Refusals.{number_of}
use Rattle.cable.specs.Rows.{contents}
use Rattle.cable.specs.declared.refusal.Refusal.{Refusal}
use Rattle.bank.specs.declared.calls.Wanted.{Wanted}
use Rattle.bank.specs.declared.calls.Wanted.TheVariants as wanted
use Rattle.bank.specs.declared.sweep.Entered.{Entered}
use Rattle.script.specs.declared.answer.Answer.{Answer}
use Rattle.script.specs.declared.answer.Answer.TheVariants.{Noted, Planted, Wanted as WantedAs, Left, Swept, Bound}
use Rattle.script.specs.declared.printed.Printed.{Printed}

abbrev pub held : Printed → List ℕ
held p = contents p.row

-- a line of these fields
abbrev pub line_of : List (List ℕ) → List ℕ
line_of [] = 10 ∷ []
line_of (f ∷ []) = f ++ 10 ∷ []
line_of (f ∷ g ∷ fs) = f ++ (9 ∷ line_of (g ∷ fs))

abbrev pub outcome : Wanted → List ℕ
outcome wanted.In = codes "in"
outcome wanted.Waits = codes "waits"

abbrev pub last_in : Option Entered → List (List ℕ)
last_in None = codes "-" ∷ []
last_in (Some e) = decimal e.cabinet.0 ∷ decimal e.wait ∷ []

abbrev pub printed : Result Answer Refusal → List ℕ
printed (Ok Noted) = []
printed (Ok (Planted cabinets)) = line_of (codes "plant" ∷ decimal cabinets ∷ [])
printed (Ok (WantedAs n w)) = line_of (codes "want" ∷ decimal n.0 ∷ outcome w ∷ [])
printed (Ok (Left n)) = line_of (codes "leave" ∷ decimal n.0 ∷ codes "done" ∷ [])
printed (Ok (Swept sweeps last)) = line_of (codes "sweep" ∷ decimal sweeps ∷ last_in last)
printed (Ok (Bound stay limit)) = line_of (codes "bound" ∷ decimal stay ∷ decimal limit ∷ [])
printed (Err why) = line_of (codes "no" ∷ decimal (number_of why) ∷ [])
