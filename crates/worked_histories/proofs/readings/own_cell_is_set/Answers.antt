use Rattle.std.proofs.Common.{refl}
use Rattle.computed_histories.proofs.ReadingTests.{unset}
use Rattle.computed_histories.proofs.Telling.{refuted}
use Rattle.joint_machine.specs.declared.names.Thread.TheVariants.{M}
use Rattle.worked_histories.specs.Pins.{pinned_object}
use Rattle.worked_histories.specs.Readings.{cells_of}
use Rattle.worked_histories.proofs.readings.own_cell_is_set.Goals as goal

pub returns : goal.returns
returns c = refuted (unset pinned_object (cells_of pinned_object) 6 (M 1) 5) refl
