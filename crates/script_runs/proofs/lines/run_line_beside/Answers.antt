use Rattle.script_runs.proofs.Making.{is_not_managed, locked_not_await, waits_line}
use Rattle.std.proofs.Common.{sym, ◌∙◌}
use Rattle.script_runs.proofs.lines.run_line_beside.Goals as goal

pub returns-in_ok-managed-in-Locked-clause-ok : goal.returns-in_ok-managed-in-Locked-clause-ok
returns-in_ok-managed-in-Locked-clause-ok g c =
    waits_line c.args.caller.now.thread c.args.caller.now.view c.managed.new.caller.view c.args.index
    c.args.act.now c.in_ok-managed-in-Locked.field-0 c.requires.act c.in_ok-managed-in-Locked.ensures.ok
    (λ is k d e f. locked_not_await c.args.act.now k (sym c.read_call.ensures ∙ c.in-Locked.is) e)

pub returns-in_ok-peer-in-P-clause-ok : goal.returns-in_ok-peer-in-P-clause-ok
returns-in_ok-peer-in-P-clause-ok g c =
    waits_line c.args.caller.now.thread c.args.caller.now.view c.peer.new.caller.view c.args.index c.args.act.now c.in_ok-peer-in-P.field-0 c.requires.act c.in_ok-peer-in-P.ensures.ok
    (λ is k d e f. is_not_managed c.args.caller.now.thread c.in-P.field-0 (sym c.thread.ensures ∙ c.in-P.is) is)
