use Rattle.std.specs.Prelude.{nat_eq, not}
use Rattle.array_graphs.specs.Graphs.{IsSet, LeadsInRow}
use Rattle.cycle_check.specs.Judging.{IsJudged, IsKept, IsLost}
use Rattle.pass_c.proofs.Answering.{early-told}
use Rattle.pass_c.proofs.checks.cycle_check_outcome.Goals as goal

pub returns-in-Ok-clause-early : goal.returns-in-Ok-clause-early
returns-in-Ok-clause-early c = early-told (LeadsInRow c.args.row_starts.now c.args.targets.now) (IsKept c.args.kinds.now c.args.kept.now) (IsLost c.args.kinds.now c.args.kept.now)
    (IsJudged c.args.kinds.now (not (nat_eq c.args.which 0))) (IsSet c.args.dead.now) c.in-Ok.outcome c.tell.result c.args.finding.now c.tell.new.finding c.tell.ensures.answered c.in-Ok.ensures.says
