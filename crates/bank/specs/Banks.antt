-- What a bank means, and by which rules its post goes.
use Rattle.std.specs.Prelude.{◌≡◌, ℕ, List, [], ◌∷◌, replicate, Some, None, Option, Result}
use Rattle.cable.specs.declared.message.Message.{Message}
use Rattle.cable.specs.declared.number.CabinetNo.{CabinetNo}
use Rattle.cable.specs.declared.refusal.Refusal.{Refusal}
use Rattle.cabinet.specs.Tables.{views_of, blank, PlantedAs}
use Rattle.post.specs.Posts.{PostModel}
use Rattle.promise.specs.Banks.{Transport, Bank as Model}
use Rattle.tree.specs.Planted.{parents_of}
use Rattle.bank.specs.declared.bank.Bank.{Bank}
use Rattle.bank.specs.declared.waits.Waits.{Waits}
use Rattle.bank.specs.declared.cabinets.Cabinets.{Cabinets}

-- the rules of the post's own put and pull, and what it means by waiting; of three members of a kind of post, and no fourth one: a kind
-- could give that another value
abbrev pub own_rules : {P : Type 0} → (P → PostModel) → (P → ℕ → Message → Result (Unit {0}) Refusal → P → Type 0)
    → (P → ℕ → Result (Option Message) Refusal → P → Type 0) → Transport P
own_rules means puts pulls = record { waiting = λ p. (means p).waiting; puts = puts; pulls = pulls }

-- the wait counts, by the numbers of the cabinets
abbrev pub counts_of : Waits → List ℕ
counts_of w = w.counts

-- a planted bank, by what it keeps of its cabinets and its post
abbrev pub planted_on : {P : Type 0} → Cabinets → P → Model P
planted_on w p = record { parents = parents_of w.tree; views = views_of w.table; waits = counts_of w.waits; post = p }

-- a bank that was not planted: sixteen cabinets, each planted all by itself, of which nobody has waited
abbrev pub bare_on : {P : Type 0} → P → Model P
bare_on p = record { parents = []; views = replicate 16 blank; waits = replicate 16 0; post = p }

abbrev pub bank_of : {P : Type 0} → Bank P → Model P
bank_of b = elim b.cabinets [ None ↦ bare_on b.post | Some w ↦ planted_on w b.post ]

-- a single cabinet
abbrev pub alone : List CabinetNo
alone = record { 0 = 0 } ∷ []

-- a bank as it is made: bare, and nobody has waited
pub record New {P : Type 0} (p : P) (b : Model P) : Type 0 where
  pub parents : b.parents ≡ []
  pub views : PlantedAs alone b.views
  pub waits : b.waits ≡ replicate 16 0
  pub post : b.post ≡ p
