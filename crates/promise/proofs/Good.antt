-- What holds of every planted bank, in the middle of a sweep too.
use Rattle.std.proofs.Common.{◌≡◌, ℕ, ◌+◌, ◌<◌, ◌≤◌, Bool, true, false, List, [], length, get_or, Some, None, Option}
use Rattle.cable.specs.declared.message.Message.{Message}
use Rattle.cabinet.specs.Kept as cabinet
use Rattle.cabinet.specs.Tables.{blank}
use Rattle.cabinet.specs.declared.event.Event.{Event}
use Rattle.post.specs.Posts.{PostModel, PostSound}
use Rattle.promise.proofs.Balance.{arrived}
use Rattle.promise.proofs.Ends.{before}
use Rattle.promise.proofs.Nets.{Net, InOrder, no}
use Rattle.promise.specs.Banks.{Bank, with_post}
use Rattle.promise.specs.Promise.{holding, under_way}
use Rattle.promise.specs.Records.{model_at}
use Rattle.tree.specs.Trees.{ordered, neighbours, lane_from}

abbrev pub on : PostModel → Option ℕ → List Message
on p None = []
on p (Some l) = p.waiting l

abbrev pub allow_on : PostModel → Option ℕ → ℕ
allow_on p None = 0
allow_on p (Some l) = p.allowance l

abbrev pub net_of : Bank PostModel → Net
net_of b = record { cab = model_at b; lane = λ x y. on b.post (lane_from b.parents x y) }

abbrev pub near : Bank PostModel → ℕ → ℕ → Type 0
near b x y = neighbours b.parents x y ≡ true

abbrev pub members_at : Bank PostModel → ℕ → List Bool
members_at b k = (get_or b.views k blank).members

pub record Good (b : Bank PostModel) : Type 0 where
  pub sound : PostSound b.post
  pub grown : ordered 0 b.parents ≡ true
  pub some : 1 ≤ length b.parents
  pub few : length b.parents ≤ 16
  pub all : length b.views ≡ 16
  pub members : (k n : ℕ) → k < 16 → get_or (members_at b k) n false ≡ neighbours b.parents k n
  pub kept : (k : ℕ) → k < length b.parents → cabinet.Kept (members_at b k) (model_at b k)
  pub edges : InOrder (near b) (net_of b)
  pub one : holding b + under_way b ≡ 1
  pub outside : (k : ℕ) → length b.parents ≤ k → (model_at b k).inside ≡ false

-- the post once what arrives at cabinet x on event e was taken off its lane; for any other event, the post itself
pub record Taken (b : Bank PostModel) (p : PostModel) (x : ℕ) (e : Event) : Type 0 where
  pub sound : PostSound p
  pub patience : p.patience ≡ b.post.patience
  pub back : (y : ℕ) → near b x y → on b.post (lane_from b.parents y x) ≡ before (no y) e (on p (lane_from b.parents y x))
  pub rest : (y z : ℕ) → (z ≡ x → ⊥) → near b y z → on p (lane_from b.parents y z) ≡ on b.post (lane_from b.parents y z)
  pub under : under_way b ≡ under_way (with_post b p) + arrived e
  pub calm :
      (y z : ℕ) → near b y z → on p (lane_from b.parents y z) ≡ on b.post (lane_from b.parents y z)
      → (on b.post (lane_from b.parents y z) ≡ [] → ⊥) → allow_on p (lane_from b.parents y z) ≤ allow_on b.post (lane_from b.parents y z)
