use Rattle.view_laws.proofs.ExactReads.{exact_reads_are_replies}
use Rattle.view_laws.proofs.exact_reads_are_replies.Goals as goal

pub returns : goal.returns
returns c = exact_reads_are_replies
