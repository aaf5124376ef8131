use Rattle.std.proofs.Common.{refl}
use Rattle.computed_histories.proofs.ReadingTests.{linked}
use Rattle.worked_histories.specs.PendingRead.{pending_read}
use Rattle.worked_histories.proofs.readings.pending_reads_by_readers.Goals as goal

pub returns : goal.returns
returns c = (linked pending_read).holds refl
