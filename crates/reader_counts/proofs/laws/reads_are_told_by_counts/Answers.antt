use Rattle.reader_counts.proofs.Counted.{told_by_counts}
use Rattle.reader_counts.proofs.laws.reads_are_told_by_counts.Goals as goal

pub returns : goal.returns
returns c = told_by_counts
