use Rattle.std.proofs.Common.{sym, subst}
use Rattle.joint_history.specs.Operations.{IsOperationOf}
use Rattle.script_runs.proofs.Making.{from_same, not_pending, waits_line}
use Rattle.script_runs.proofs.lines.read_in_time.Goals as goal

pub returns-clause-ok : goal.returns-clause-ok
returns-clause-ok g c =
    let r = c.in_ok-reserve.ensures.rest in
    let o = subst (λ t. IsOperationOf t c.args.act.now) (sym r.0) c.requires.act.2 in
    from_same c.args.caller.now.thread c.reserve.new.caller.thread c.args.caller.now.view c.reserve.new.caller.view c.read_wait.new.caller.view c.args.index c.args.act.now r.0 r.1
    (waits_line c.reserve.new.caller.thread c.reserve.new.caller.view c.read_wait.new.caller.view c.args.index c.args.act.now _ o c.read_wait.ensures.reads.runs
    (λ is k d e f. not_pending c.read_wait.result d c.read_wait.ensures.answered f))
