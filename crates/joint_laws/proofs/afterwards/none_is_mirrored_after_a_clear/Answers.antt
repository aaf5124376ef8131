use Rattle.joint_laws.proofs.GoneAfter.{none_is_mirrored}
use Rattle.joint_laws.proofs.ReadingsGoneAfter.{none_is_mirrored_reading}
use Rattle.joint_laws.proofs.afterwards.none_is_mirrored_after_a_clear.Goals as goal

pub returns : goal.returns
returns c = record { list = none_is_mirrored; lock_free = none_is_mirrored_reading }
