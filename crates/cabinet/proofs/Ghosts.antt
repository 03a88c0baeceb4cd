-- What the type of a cabinet keeps, as one record and back.
use Rattle.std.proofs.Common.{◌≡◌, ◌≤◌, Bool, true, false, not, ◌&&◌, List, [], sym, refl, subst, arith}
use Rattle.std.proofs.lemmas.Bool.{both_ways}
use Rattle.tree.specs.Planted.{members_of}
use Rattle.cabinet.specs.Cabinets.{model_of}
use Rattle.cabinet.specs.Kept.{Kept, knows, many}
use Rattle.cabinet.specs.Models.{Model}
use Rattle.cabinet.specs.Parties.{own}
use Rattle.cabinet.specs.declared.cabinet.Cabinet.{Cabinet}
use Rattle.cabinet.specs.declared.party.Party.{Party}

pub kept : (c : Cabinet) → Kept (members_of c.neighbours) (model_of c)
kept c =
    record {
      few = c.few;
      once = c.once;
      apart = c.apart;
      home = c.home;
      idle = c.idle;
      asks = c.asks;
      known = c.known;
      near = c.near;
    }

none : (b : Bool) → false ≡ (not b && false)
none true = refl
none false = refl

-- a cabinet with nobody queued and no mark set keeps all of it, whoever the holder is
pub new_kept : (bs : List Bool) (p : Party) → many bs ≤ 15 → knows bs p ≡ true
    → Kept bs (record { holder = p; inside = false; asked = false; queue = [] })
new_kept bs p few near =
    record {
      few = few;
      once = λ _. omega arith;
      apart = refl;
      home = λ e. absurd (both_ways false refl e);
      idle = λ _ _. refl;
      asks = none (own p);
      known = λ _ l. absurd (omega arith);
      near = near;
    }

pub kept_new : (bs : List Bool) (m : Model) (p : Party) → many bs ≤ 15 → knows bs p ≡ true
    → m ≡ record { holder = p; inside = false; asked = false; queue = [] } → Kept bs m
kept_new bs m p few near is = subst (Kept bs) (sym is) (new_kept bs p few near)
