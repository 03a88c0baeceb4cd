-- A bank over any kind of post, as its calls see it.
use Rattle.std.specs.Prelude.{ℕ, List, Option, Result}
use Rattle.cable.specs.declared.message.Message.{Message}
use Rattle.cable.specs.declared.number.CabinetNo.{CabinetNo}
use Rattle.cable.specs.declared.refusal.Refusal.{Refusal}
use Rattle.cabinet.specs.Tables.{View}
use Rattle.post.specs.Posts.{PostModel, Puts, Pulls}

-- a kind of post: what waits on each lane, and what its own put and pull do
pub record Transport (P : Type 0) : Type 1 where
  pub waiting : P → ℕ → List Message
  pub puts : P → ℕ → Message → Result (Unit {0}) Refusal → P → Type 0
  pub pulls : P → ℕ → Result (Option Message) Refusal → P → Type 0

-- any post whatever, known only by what a post means
abbrev pub any_post : Transport PostModel
any_post = record { waiting = λ p. p.waiting; puts = Puts; pulls = Pulls }

-- the list of parents, which is empty while the bank is bare; the cabinets; their wait counts; the post
pub record Bank (P : Type 0) : Type 0 where
  pub parents : List CabinetNo
  pub views : List View
  pub waits : List ℕ
  pub post : P

abbrev pub with_post : {P : Type 0} → Bank P → P → Bank P
with_post b p = record { parents = b.parents; views = b.views; waits = b.waits; post = p }

abbrev pub with_waits : {P : Type 0} → Bank P → List ℕ → Bank P
with_waits b ws = record { parents = b.parents; views = b.views; waits = ws; post = b.post }
