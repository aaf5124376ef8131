use Rattle.std.proofs.Common.{refl}
use Rattle.computed_histories.proofs.ReadingTests.{linked}
use Rattle.worked_histories.specs.Pins.{pinned_object}
use Rattle.worked_histories.proofs.readings.pinned_reads_by_readers.Goals as goal

pub returns : goal.returns
returns c = (linked pinned_object).holds refl
