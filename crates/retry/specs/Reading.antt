-- Over a sound wiring, what a retry post holds is sound.
use Rattle.wiring.specs.Wirings.{WiringModel, WiringSound}
use Rattle.retry.specs.Keeping.{in_sound}
use Rattle.alternating.specs.Retry.{RetrySound, read_by}
use Rattle.retry.specs.States.{state_of}
use Rattle.retry.specs.declared.retry.Retry.{Retry}

pub sound_by : {W : Type 0} (means : W → WiringModel) → ((w : W) → WiringSound (means w)) → (p : Retry W) → RetrySound (read_by means (state_of p))
sound_by means sound p = record { wiring = sound p.wiring; lane = in_sound p.lanes }
