use Rattle.reader_counts.proofs.Counted.{counts_on}
use Rattle.reader_counts.proofs.laws.counts_go_on.Goals as goal

pub returns : goal.returns
returns c = counts_on
