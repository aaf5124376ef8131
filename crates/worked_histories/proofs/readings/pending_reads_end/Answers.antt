use Rattle.std.proofs.Common.{refl}
use Rattle.computed_histories.proofs.ReadingTests.{pending}
use Rattle.computed_histories.proofs.Telling.{refuted}
use Rattle.joint_machine.specs.declared.names.Thread.TheVariants.{M}
use Rattle.worked_histories.specs.Readings.{pending_after_end, pending_too_late}
use Rattle.worked_histories.proofs.readings.pending_reads_end.Goals as goal

pub returns : goal.returns
returns c = record { late = (pending pending_after_end 15 (M 1) 1).holds refl; too_late = refuted (pending pending_too_late 16 (M 1) 1) refl }
