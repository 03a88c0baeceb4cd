-- What a script answers to a line that reads well, and what it then holds.
use Rattle.std.specs.Prelude.{◌≡◌, ℕ, List, [], ◌∷◌, ◌++◌, length, Some, None, Ok, Err, Option, Result, Bool, true, false, slice_set}
use Rattle.cable.specs.declared.number.CabinetNo.{CabinetNo}
use Rattle.cable.specs.declared.refusal.Refusal.{Refusal}
use Rattle.post.specs.Posts.{PostModel}
use Rattle.alternating.specs.Retry.{RetryPuts, RetryPulls, read_by, post_of}
use Rattle.post.specs.Straights.{waiting_on, StraightPuts, StraightPulls, straight_of}
use Rattle.post.specs.declared.straight.Straight.{Straight}
use Rattle.retry.specs.States.{state_of, NewOver}
use Rattle.retry.specs.declared.retry.Retry.{Retry}
use Rattle.wiring.specs.Wirings.{WiringModel}
use Rattle.wiring.specs.Clean.{flights_of, clean_means, CleanSends, CleanTakes}
use Rattle.wiring.specs.Patterned.{BegunWith, patterned_means, PatternedSends, PatternedTakes}
use Rattle.wiring.specs.declared.clean.Clean.{Clean}
use Rattle.wiring.specs.declared.patterned.Patterned.{Patterned}
use Rattle.promise.specs.Banks.{Transport, Bank as Model}
use Rattle.promise.specs.Calls.{Plants}
use Rattle.bank.specs.Banks.{own_rules, New}
use Rattle.script.specs.Calls.{Asks}
use Rattle.script.specs.Grounds.{refusal}
use Rattle.script.specs.Orders.{Order, post, misses, pattern, cabinet, plant}
use Rattle.script.specs.Stages.{Stage, Setting, Choice, Draft, straight, clean, retry, unnamed, drafted, over_straight, over_clean, over_retry, drafted_with, phase_of}
use Rattle.script.specs.declared.answer.Answer.{Answer}
use Rattle.script.specs.declared.answer.Answer.TheVariants.{Noted, Planted}
use Rattle.script.specs.declared.command.PostKind.{PostKind}

-- the own rules of the three posts
abbrev pub straight_rules : Transport Straight
straight_rules = own_rules straight_of StraightPuts StraightPulls

abbrev pub retry_means : {W : Type 0} → (W → WiringModel) → Retry W → PostModel
retry_means means p = post_of (read_by means (state_of p))

abbrev pub retry_rules : {W : Type 0} → (W → WiringModel) → (W → ℕ → List ℕ → Result (Unit {0}) Refusal → W → Type 0)
    → (W → ℕ → Result (Option (List ℕ)) Refusal → W → Type 0) → Transport (Retry W)
retry_rules means sends takes =
    own_rules (retry_means means) (λ p l m r q. RetryPuts (state_of p) l m r (state_of q))
    (λ p l r q. RetryPulls sends takes (state_of p) l r (state_of q))

abbrev pub clean_rules : Transport (Retry Clean)
clean_rules = retry_rules clean_means CleanSends CleanTakes

abbrev pub patterned_rules : Transport (Retry Patterned)
patterned_rules = retry_rules patterned_means PatternedSends PatternedTakes

-- a new bank over a new post p is planted with these parents
pub record PlantedOver {P : Type 0} (T : Transport P) (p : P) (ps : List CabinetNo) (c : Model P) : Type 0 where
  pub before : Model P
  pub new : New p before
  pub plants : Plants T before ps (Ok tt) c

-- the new posts
abbrev pub NewStraight : Straight → Type 0
NewStraight p = (l : ℕ) → waiting_on p l ≡ []

pub record NewClean (p : Retry Clean) : Type 0 where
  pub wires : Clean
  pub nothing_flies : (k : ℕ) → flights_of wires k ≡ []
  pub over : NewOver wires (state_of p)

pub record NewPatterned (s : Setting) (p : Retry Patterned) : Type 0 where
  pub wires : Patterned
  pub begun : BegunWith s.misses s.letters wires
  pub over : NewOver wires (state_of p)

-- the cabinets are planted, over a new post of the chosen kind
pub data PlantsTheDraft (d : Draft) : Stage → Type 0 where
  over_a_straight : {p : Straight} {b : Model Straight} → d.post ≡ straight → NewStraight p → PlantedOver straight_rules p d.parents b
      → PlantsTheDraft d (over_straight b)
  over_a_clean : {p : Retry Clean} {b : Model (Retry Clean)} → d.post ≡ clean → NewClean p → PlantedOver clean_rules p d.parents b
      → PlantsTheDraft d (over_clean b)
  over_a_patterned : {s : Setting} {p : Retry Patterned} {b : Model (Retry Patterned)} → d.post ≡ retry s → NewPatterned s p
      → PlantedOver patterned_rules p d.parents b → PlantsTheDraft d (over_retry b)

abbrev pub tells_of_the_site : Order → Bool
tells_of_the_site (misses m) = true
tells_of_the_site (pattern w ls) = true
tells_of_the_site (cabinet k p) = true
tells_of_the_site o = false

-- the last that is said of the misses, or of a wire, counts; cabinets are added
abbrev pub set_to : Setting → Order → Setting
set_to s (misses m) = record { misses = m; letters = s.letters }
set_to s (pattern w ls) = record { misses = s.misses; letters = slice_set s.letters w ls }
set_to s o = s

abbrev pub chosen_with : Choice → Order → Choice
chosen_with (retry s) o = retry (set_to s o)
chosen_with c o = c

abbrev pub added_to : List CabinetNo → Order → List CabinetNo
added_to ps (cabinet k p) = ps ++ record { 0 = p } ∷ []
added_to ps o = ps

abbrev pub noted : Draft → Order → Draft
noted d o = record { post = chosen_with d.post o; parents = added_to d.parents o }

-- a line that is refused is not noted
abbrev pub noted_if : Result (Unit {0}) Refusal → Draft → Order → Draft
noted_if (Ok done) d o = noted d o
noted_if (Err why) d o = d

-- a line to which no ground for refusing applies
pub data Does : Stage → Order → Result Answer Refusal → Stage → Type 0 where
  names : {k : PostKind} → Does unnamed (post k) (Ok Noted) (drafted (drafted_with k))
  notes : {d : Draft} {o : Order} → tells_of_the_site o ≡ true → Does (drafted d) o (Ok Noted) (drafted (noted d o))
  plants : {d : Draft} {t : Stage} → PlantsTheDraft d t → Does (drafted d) plant (Ok (Planted (length d.parents))) t
  asks_straight : {o : Order} {a : Result Answer Refusal} {b c : Model Straight} → Asks straight_of straight_rules b o a c → Does (over_straight b) o a (over_straight c)
  asks_clean : {o : Order} {a : Result Answer Refusal} {b c : Model (Retry Clean)} → Asks (retry_means clean_means) clean_rules b o a c → Does (over_clean b) o a (over_clean c)
  asks_retry : {o : Order} {a : Result Answer Refusal} {b c : Model (Retry Patterned)} → Asks (retry_means patterned_means) patterned_rules b o a c → Does (over_retry b) o a (over_retry c)

pub data Obeys (s : Stage) (o : Order) : Result Answer Refusal → Stage → Type 0 where
  refused : {why : Refusal} → refusal (phase_of s) o ≡ Some why → Obeys s o (Err why) s
  done : {a : Result Answer Refusal} {t : Stage} → refusal (phase_of s) o ≡ None → Does s o a t → Obeys s o a t
