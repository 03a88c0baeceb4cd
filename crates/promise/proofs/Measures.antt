-- What a measure of waiting has to do: it is within the limit at first, at least 1 while the cabinet waits, and each sweep lowers it.
use Rattle.std.proofs.Common.{◌≡◌, ℕ, ◌+◌, ◌<◌, ◌≤◌, true, false, cond, Result}
use Rattle.cable.specs.declared.refusal.Refusal.{Refusal}
use Rattle.cabinet.specs.Parties.{times}
use Rattle.cabinet.specs.declared.party.Party.TheVariants.{Own}
use Rattle.post.specs.Posts.{PostModel}
use Rattle.promise.proofs.Good.{Good}
use Rattle.promise.specs.Banks.{Bank, any_post}
use Rattle.promise.specs.Promise.{limit_at}
use Rattle.promise.specs.Records.{Call, Said, Step, is_sweep, model_at}

abbrev pub Waits : Bank PostModel → ℕ → Type 0
Waits b w = 0 < times Own (model_at b w).queue

-- one entry counts the sweeps since each cabinet went in: since before it, then after it
pub record Counts (b : Bank PostModel) (since : ℕ → ℕ) (k : Call) (c : Bank PostModel) (then : ℕ → ℕ) : Type 0 where
  pub kept : (x : ℕ) → (model_at b x).inside ≡ true → (model_at c x).inside ≡ true → then x ≡ since x + cond (is_sweep k) 1 0
  pub fresh : (x : ℕ) → (model_at b x).inside ≡ false → (model_at c x).inside ≡ true → then x ≡ 0

-- the tree and the patience are the same
pub record Alike (a b : Bank PostModel) : Type 0 where
  pub parents : b.parents ≡ a.parents
  pub patience : b.post.patience ≡ a.post.patience

pub record Moved (owes : Bank PostModel → (ℕ → ℕ) → ℕ) (b : Bank PostModel) (since : ℕ → ℕ) (k : Call) (c : Bank PostModel) : Type 0 where
  pub then : ℕ → ℕ
  pub counts : Counts b since k c then
  pub less : owes c then + cond (is_sweep k) 1 0 ≤ owes b since

-- of cabinet w, from bank a on, where no stay is longer than S
pub record Measure (S w : ℕ) (a : Bank PostModel) : Type 0 where
  pub owes : Bank PostModel → (ℕ → ℕ) → ℕ
  pub below : (since : ℕ → ℕ) → owes a since ≤ limit_at a S
  pub some : (b : Bank PostModel) (since : ℕ → ℕ) → Good b → Alike a b → Waits b w → 1 ≤ owes b since
  pub moves :
      (b c : Bank PostModel) (since : ℕ → ℕ) (k : Call) (r : Result Said Refusal) → Good b → Alike a b → Step any_post b k r c → Waits b w → Waits c w
      → ((x : ℕ) → is_sweep k ≡ true → (model_at b x).inside ≡ true → since x + 1 ≤ S) → Moved owes b since k c
