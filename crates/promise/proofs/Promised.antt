-- The promise, of every record of a bank over any post.
use Rattle.promise.proofs.Entries as entries
use Rattle.promise.proofs.Limits as limits
use Rattle.promise.proofs.Measuring.{measure}
use Rattle.promise.specs.OnSweeps.{NobodyWaitsForMoreSweeps}
use Rattle.promise.specs.Promise.{EveryRecord}

pub every_record : EveryRecord
every_record =
    record {
      exactly_one_privilege = entries.exactly_one_privilege;
      at_most_one_in = entries.at_most_one_in;
      no_inner_refusal = entries.no_inner_refusal;
      nobody_waits_longer = limits.nobody_waits_longer measure;
    }

pub nobody_waits_for_more_sweeps : NobodyWaitsForMoreSweeps
nobody_waits_for_more_sweeps = limits.nobody_waits_for_more_sweeps measure
