use Rattle.std.proofs.Common.{sym, subst}
use Rattle.joint_history.specs.Operations.{IsOperationOf}
use Rattle.script_runs.proofs.Making.{from_same, now_not_await, waits_line}
use Rattle.script_runs.proofs.lines.read_at_once.Goals as goal

pub returns-clause-ok : goal.returns-clause-ok
returns-clause-ok g c =
    let r = c.in_ok-reserve.ensures.rest in
    let o = subst (λ t. IsOperationOf t c.args.act.now) (sym r.0) c.requires.act.2 in
    from_same c.args.caller.now.thread c.reserve.new.caller.thread c.args.caller.now.view c.reserve.new.caller.view c.read_now.new.caller.view c.args.index c.args.act.now r.0 r.1
    (waits_line c.reserve.new.caller.thread c.reserve.new.caller.view c.read_now.new.caller.view c.args.index c.args.act.now _ o c.read_now.ensures.reads.runs
    (λ is k d e f. now_not_await c.args.act.now k c.requires.call e))
