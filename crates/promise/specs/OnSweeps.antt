-- The limit, told by sweeps: whoever waits goes in on one of them, and on no other entry.
use Rattle.std.specs.Prelude.{◌≡◌, ℕ, ◌≤◌, Bool, ◌⊎◌, List, ◌∷◌, ◌++◌, Ok}
use Rattle.post.specs.Posts.{PostModel}
use Rattle.promise.specs.Promise.{Kept, GoesInWithin, limit_at}
use Rattle.promise.specs.Records.{Entry, GoesIn, NoStayOver, sweeps_in, want, sweep, wanted}

-- cabinet n goes in on one of the first L sweeps among the entries new, which follow the entries old
pub record GoesInOnASweep (n L : ℕ) (new old : List (Entry PostModel)) : Type 0 where
  pub within : GoesInWithin n L new old
  pub sweep : within.entry.call ≡ sweep

-- a cabinet whose want is done goes in on that entry or on one of the next sweeps up to the limit, if so many follow
abbrev pub NobodyWaitsForMoreSweeps : Type 0
NobodyWaitsForMoreSweeps =
    (S n : ℕ) (entered : Bool) (new old : List (Entry PostModel)) (e : Entry PostModel) → Kept (new ++ (e ∷ old)) → NoStayOver S (new ++ (e ∷ old))
    → e.call ≡ want n → e.answer ≡ Ok (wanted entered) → limit_at e.after S ≤ sweeps_in new
    → GoesIn n e old ⊎ GoesInOnASweep n (limit_at e.after S) new (e ∷ old)
