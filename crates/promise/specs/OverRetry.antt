-- A bank over the retry post, over any wiring: its record, read through what the retry post means, is a record over any post.
use Rattle.std.specs.Prelude.{◌≡◌, ℕ, true, List, map}
use Rattle.alternating.specs.Lanes.{fresh, waiting_in}
use Rattle.alternating.specs.Retry.{RetryModel, RetryPuts, RetryPulls, post_of}
use Rattle.wiring.specs.Wirings.{WiringSound, Sends, Takes}
use Rattle.promise.specs.Banks.{Transport, Bank}
use Rattle.promise.specs.Calls.{bare}
use Rattle.promise.specs.Promise.{Kept}
use Rattle.promise.specs.Records.{Entry, Record}
use Rattle.promise.specs.Tie.{entry_by}

-- the retry post over any wiring whatever, known only by what a wiring means
abbrev pub retry_post : Transport RetryModel
retry_post = record { waiting = λ s l. waiting_in (s.lane l); puts = RetryPuts; pulls = RetryPulls Sends Takes }

-- a new bank is bare, over a new retry post, over any wiring
pub record NewOverRetry (b : Bank RetryModel) : Type 0 where
  pub bare : bare b ≡ true
  pub wiring : WiringSound b.post.wiring
  pub lanes : (l : ℕ) → b.post.lane l ≡ fresh

abbrev pub RecordsOverRetryAreKept : Type 0
RecordsOverRetryAreKept = (es : List (Entry RetryModel)) → Record retry_post NewOverRetry es → Kept (map (entry_by post_of) es)
