-- A record of a bank by the rules of its own post is, read through what the post means, a record over any post.
use Rattle.std.specs.Prelude.{◌≡◌, true, List, map}
use Rattle.post.specs.Posts.{PostModel}
use Rattle.promise.specs.Banks.{Transport, Bank}
use Rattle.promise.specs.Calls.{bare}
use Rattle.promise.specs.Promise.{Kept}
use Rattle.promise.specs.Records.{Entry, Record}

abbrev pub bank_by : {P : Type 0} → (P → PostModel) → Bank P → Bank PostModel
bank_by means b = record { parents = b.parents; views = b.views; waits = b.waits; post = means b.post }

abbrev pub entry_by : {P : Type 0} → (P → PostModel) → Entry P → Entry PostModel
entry_by means e = record { call = e.call; answer = e.answer; after = bank_by means e.after }

-- a record by the rules T, from any bare bank on
abbrev pub RecordsAreKept : {P : Type 0} → (P → PostModel) → Transport P → Type 0
RecordsAreKept {P} means T = (es : List (Entry P)) → Record T (λ b. bare b ≡ true) es → Kept (map (entry_by means) es)
