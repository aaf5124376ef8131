use Rattle.report_reader.proofs.Places.{behind_end, not_empty}
use Rattle.report_reader.proofs.endings.judge_rest.Goals as goal

pub returns-else-is_empty : goal.returns-else-is_empty
returns-else-is_empty c = rw c.refusal.ensures (behind_end c.args.lines c.args.bytes.now (not_empty _ c.if-is_empty.ensures))
