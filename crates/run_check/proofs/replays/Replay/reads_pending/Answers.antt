-- A `pending` goes by the counts.
use Rattle.std.proofs.Common.{◌∙◌}
use Rattle.run_check.proofs.ReadAnswers.{open-is, pending-answers}
use Rattle.run_check.proofs.replays.Replay.reads_pending.Goals as goal

pub returns-else-right-clause-right : goal.returns-else-right-clause-right
returns-else-right-clause-right c = λ h past w.
    pending-answers h past c.args.self.now w c.args.caller c.requires.caller c.args.c.0 c.may_be_pending-right.result c.cycles-cycles.result c.is_some-is_open.result c.cycles-cycles.ensures
    (c.is_some-is_open.ensures ∙ open-is c.open_cycle.result c.args.self.now.managed.state.managed.cycle c.open_cycle.ensures) c.may_be_pending-right.ensures
