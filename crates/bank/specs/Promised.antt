-- What is promised of every bank.
use Rattle.std.specs.Prelude.{◌≡◌, ℕ, List, [], ◌∷◌}
use Rattle.std.specs.List.{AllByRecursion}
use Rattle.post.specs.Posts.{PostModel}
use Rattle.promise.specs.Banks.{Transport}
use Rattle.promise.specs.OnSweeps.{NobodyWaitsForMoreSweeps}
use Rattle.promise.specs.OverRetry.{RecordsOverRetryAreKept}
use Rattle.promise.specs.Promise.{EveryRecord, limit}
use Rattle.promise.specs.Tie.{RecordsAreKept}
use Rattle.alternating.specs.Retry.{RetryIsAPost, RetryPutsAsAPost, RetryPullsAsAPost}

-- limits worked out by hand, as cabinets, patience, longest stay, and sweeps; in the first, K and S are any
abbrev pub worked_limits : ℕ → ℕ → List (ℕ × ℕ × ℕ × ℕ)
worked_limits K S = (1, K, S, 0) ∷ (2, 0, 0, 3) ∷ (3, 0, 4, 14) ∷ []

abbrev pub TheWorkedLimitsHold : Type 0
TheWorkedLimitsHold = (K S : ℕ) → AllByRecursion (λ row. limit row.0 row.1 row.2 ≡ row.3) (worked_limits K S)

-- the promise holds of every record over any post; the records of this bank, by the rules T of its post, are such records; the retry
-- post, over any wiring, is a post, and the records of a bank over it are such records too
pub record Promised {P : Type 0} (means : P → PostModel) (T : Transport P) : Type 0 where
  pub every_record : EveryRecord
  pub nobody_waits_for_more_sweeps : NobodyWaitsForMoreSweeps
  pub records_are_kept : RecordsAreKept means T
  pub retry_is_a_post : RetryIsAPost
  pub retry_puts_as_a_post : RetryPutsAsAPost
  pub retry_pulls_as_a_post : RetryPullsAsAPost
  pub records_over_retry_are_kept : RecordsOverRetryAreKept
  pub worked_limits_hold : TheWorkedLimitsHold
