-- A planted bank has cabinets, and is not bare.
use Rattle.std.proofs.Common.{◌≡◌, ◌≤◌, true, false, List, [], ◌∷◌, length, Some, None, Option, refl, arith}
use Rattle.std.specs.Option.{is_some}
use Rattle.cable.specs.declared.number.CabinetNo.{CabinetNo}
use Rattle.promise.specs.Calls.{bare}
use Rattle.bank.specs.Banks.{planted_on, bank_of}
use Rattle.bank.specs.declared.cabinets.Cabinets.{Cabinets}

some_parents : (ps : List CabinetNo) → 1 ≤ length ps → elim ps [ [] ↦ true | p ∷ more ↦ false ] ≡ false
some_parents [] h = absurd (omega arith)
some_parents (p ∷ ps) h = refl

pub cabinets_not_bare : {P : Type 0} (w : Cabinets) (p : P) → bare (planted_on w p) ≡ false
cabinets_not_bare w p = some_parents _ w.tree.some

pub planted_not_bare : {P : Type 0} (o : Option Cabinets) (p : P) → is_some o ≡ true → bare (bank_of {P = P} (record { cabinets = o; post = p })) ≡ false
planted_not_bare None p e = absurd (grind arith)
planted_not_bare (Some w) p e = cabinets_not_bare w p

pub none_bare : {P : Type 0} (o : Option Cabinets) (p : P) → is_some o ≡ false → bare (bank_of {P = P} (record { cabinets = o; post = p })) ≡ true
none_bare None p e = refl
none_bare (Some w) p e = absurd (grind arith)
