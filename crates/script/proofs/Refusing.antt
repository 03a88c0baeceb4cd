-- What the answer of a step tells of the grounds for refusing it.
use Rattle.std.proofs.Common.{◌≡◌, Some, None, Ok, Err, Option, Result, sym, refl, ap, arith}
use Rattle.cable.specs.declared.refusal.Refusal.{Refusal}
use Rattle.script.specs.Grounds.{unless_refused}

abbrev pub why_of : Refusal → Result (Unit {0}) Refusal → Refusal
why_of why (Ok x) = why
why_of why (Err other) = other

pub was_refused : (why : Refusal) (o : Option Refusal) → Err why ≡ unless_refused o → o ≡ Some why
was_refused why None e = absurd (grind arith)
was_refused why (Some other) e = ap Some (sym (ap (why_of why) e))

pub not_refused : (u : Unit {0}) (o : Option Refusal) → Ok u ≡ unless_refused o → o ≡ None
not_refused u None e = refl
not_refused u (Some other) e = absurd (grind arith)
