use Rattle.joint_laws.proofs.GoneAfter.{weak_reads_are_gone}
use Rattle.joint_laws.proofs.ReadingsGoneAfter.{weak_reads_are_gone_reading}
use Rattle.joint_laws.proofs.afterwards.weak_reads_of_freed_peers_are_gone.Goals as goal

pub returns : goal.returns
returns c = record { reads = weak_reads_are_gone; lock_free = weak_reads_are_gone_reading }
