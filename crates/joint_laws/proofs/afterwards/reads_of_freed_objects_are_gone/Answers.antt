use Rattle.joint_laws.proofs.GoneAfter.{reads_are_gone}
use Rattle.joint_laws.proofs.ReadingsGoneAfter.{lock_free_reads_are_gone}
use Rattle.joint_laws.proofs.afterwards.reads_of_freed_objects_are_gone.Goals as goal

pub returns : goal.returns
returns c = record { reads = reads_are_gone; lock_free = lock_free_reads_are_gone }
