use Rattle.std.proofs.Common.{◌≡◌, Bool, sym, arith}
use Rattle.std.proofs.lemmas.Bool.Decides.{nat_tests}
use Rattle.cabinet.specs.Parties.{same}
use Rattle.cabinet.specs.contracts.party.PartyPartialEq.TheImpl.{ghosts}
use Rattle.cabinet.specs.declared.party.Party.{Party}
use Rattle.cabinet.specs.declared.party.Party.TheVariants.{Own, Neighbour}
use Rattle.cabinet.proofs.Counting.{times_told}
use Rattle.cabinet.proofs.state.State.queues.Goals as goal

-- what `==` says of two parties
equal_is_same : (p y : Party) (b : Bool) → (b ≡ ghosts.eq y p) → same p y ≡ b
equal_is_same Own Own b e = sym e
equal_is_same Own (Neighbour n) b e = sym e
equal_is_same (Neighbour m) Own b e = sym e
equal_is_same (Neighbour m) (Neighbour n) b e = grind (arith, nat_tests)

pub returns : goal.returns
returns c =
    record {
      value =
          times_told (λ y. (λ r'. r' ≡ ghosts.eq y c.args.party)) c.args.party (equal_is_same c.args.party) _ c.contains.result
          c.contains.ensures.cases;
    }
