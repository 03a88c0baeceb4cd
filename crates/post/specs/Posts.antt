-- What a post means: for each lane a list of waiting messages, oldest first, and an allowance of empty pulls; one patience, which no
-- call changes. What a put and a pull may do is a relation between the meaning before, the answer, and the meaning after.
use Rattle.std.specs.Prelude.{◌≡◌, ℕ, ◌<◌, ◌≤◌, cond, ◌⊎◌, List, [], ◌∷◌, ◌++◌, length, Some, None, Ok, Err, Option, Result, ◌≢◌, nat_lt}
use Rattle.cable.specs.Numbers.{lanes}
use Rattle.cable.specs.declared.message.Message.{Message}
use Rattle.cable.specs.declared.refusal.Refusal.{Refusal}
use Rattle.cable.specs.declared.refusal.Refusal.TheVariants.{NoSuchLane, LaneFull}

-- a lane's allowance: how many pulls may still be in vain before the oldest of the waiting messages has to come; the patience: the
-- most that any lane's allowance may be
pub record PostModel : Type 0 where
  pub waiting : ℕ → List Message
  pub allowance : ℕ → ℕ
  pub patience : ℕ

-- what is true of every post
pub record PostSound (p : PostModel) : Type 0 where
  pub bounded : p.patience ≤ 65535
  pub allowances : (l : ℕ) → p.allowance l ≤ p.patience
  pub few : (l : ℕ) → length (p.waiting l) ≤ 4

pub record PostSame (p q : PostModel) : Type 0 where
  pub waiting : (l : ℕ) → q.waiting l ≡ p.waiting l
  pub allowance : (l : ℕ) → q.allowance l ≡ p.allowance l

-- on other lanes the lists stay and no allowance rises
pub record OtherLanes (lane : ℕ) (p q : PostModel) : Type 0 where
  pub waiting : (l : ℕ) → (l ≢ lane) → q.waiting l ≡ p.waiting l
  pub allowance : (l : ℕ) → (l ≢ lane) → q.allowance l ≤ p.allowance l

-- the message joins the end; an empty lane gets any allowance, on another it does not rise
pub record Joins (lane : ℕ) (m : Message) (p q : PostModel) : Type 0 where
  pub end : q.waiting lane ≡ p.waiting lane ++ m ∷ []
  pub first : p.waiting lane ≡ [] → q.allowance lane ≤ p.patience
  pub behind : (p.waiting lane ≢ []) → q.allowance lane ≤ p.allowance lane

pub record Puts (p : PostModel) (lane : ℕ) (m : Message) (r : Result (Unit {0}) Refusal) (q : PostModel) : Type 0 where
  pub patience : q.patience ≡ p.patience
  pub no_lane : lanes ≤ lane → (r ≡ Err NoSuchLane) × PostSame p q
  pub full : lane < lanes → length (p.waiting lane) ≡ 4 → (r ≡ Err LaneFull) × PostSame p q
  pub done : lane < lanes → length (p.waiting lane) < 4 → (r ≡ Ok tt) × Joins lane m p q × OtherLanes lane p q

-- the oldest message is given, with any new allowance
pub record Gives (lane : ℕ) (m : Message) (ms : List Message) (p : PostModel) (r : Result (Option Message) Refusal) (q : PostModel) : Type 0 where
  pub given : r ≡ Ok (Some m)
  pub rest : q.waiting lane ≡ ms
  pub renewed : q.allowance lane ≤ p.patience

-- or the pull comes back empty, and the allowance falls
pub record Holds (lane : ℕ) (p : PostModel) (r : Result (Option Message) Refusal) (q : PostModel) : Type 0 where
  pub nothing : r ≡ Ok None
  pub stays : q.waiting lane ≡ p.waiting lane
  pub falls : q.allowance lane < p.allowance lane

pub record Pulls (p : PostModel) (lane : ℕ) (r : Result (Option Message) Refusal) (q : PostModel) : Type 0 where
  pub patience : q.patience ≡ p.patience
  pub no_lane : lanes ≤ lane → (r ≡ Err NoSuchLane) × PostSame p q
  pub empty : lane < lanes → p.waiting lane ≡ [] → (r ≡ Ok None) × (q.waiting lane ≡ []) × (q.allowance lane ≤ p.patience)
  pub some : lane < lanes → (m : Message) (ms : List Message) → p.waiting lane ≡ m ∷ ms → Gives lane m ms p r q ⊎ Holds lane p r q
  pub others : lane < lanes → OtherLanes lane p q

-- how many messages wait on a lane
abbrev pub count_of : PostModel → ℕ → Result ℕ Refusal
count_of p lane = cond (nat_lt lane lanes) (Ok (length (p.waiting lane))) (Err NoSuchLane)
