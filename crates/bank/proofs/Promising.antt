-- What is promised of every bank.
use Rattle.std.proofs.Common.{ℕ, ◌+◌, ◌*◌, Option, Result, refl, zero-mul}
use Rattle.cable.specs.declared.message.Message.{Message}
use Rattle.cable.specs.declared.refusal.Refusal.{Refusal}
use Rattle.post.specs.Posts.{PostModel}
use Rattle.alternating.proofs.Retrying.{retry_is_a_post, retry_puts_as_a_post, retry_pulls_as_a_post}
use Rattle.promise.proofs.Promised.{every_record, nobody_waits_for_more_sweeps}
use Rattle.promise.proofs.Tying.{Meant, records_are_kept, records_over_retry_are_kept}
use Rattle.bank.specs.Banks.{own_rules}
use Rattle.bank.specs.Promised.{Promised, TheWorkedLimitsHold}

worked : TheWorkedLimitsHold
worked K S = (zero-mul (3 * (K + 1) + S), (refl, (refl, tt)))

pub promised : {P : Type 0} (means : P → PostModel) (puts : P → ℕ → Message → Result (Unit {0}) Refusal → P → Type 0)
    (pulls : P → ℕ → Result (Option Message) Refusal → P → Type 0) → Meant means (own_rules means puts pulls) → Promised means (own_rules means puts pulls)
promised means puts pulls meant =
    record {
      every_record = every_record;
      nobody_waits_for_more_sweeps = nobody_waits_for_more_sweeps;
      records_are_kept = records_are_kept means (own_rules means puts pulls) meant;
      retry_is_a_post = retry_is_a_post;
      retry_puts_as_a_post = retry_puts_as_a_post;
      retry_pulls_as_a_post = retry_pulls_as_a_post;
      records_over_retry_are_kept = records_over_retry_are_kept;
      worked_limits_hold = worked;
    }
