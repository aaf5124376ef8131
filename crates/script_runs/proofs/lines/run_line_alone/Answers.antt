use Rattle.std.proofs.Common.{sym, ◌∙◌}
use Rattle.script_runs.proofs.Making.{answers_line, is_not_managed}
use Rattle.script_runs.proofs.lines.run_line_alone.Goals as goal

pub returns-in_ok-managed-in-M-clause-ok : goal.returns-in_ok-managed-in-M-clause-ok
returns-in_ok-managed-in-M-clause-ok g c =
    answers_line c.args.caller.now.thread c.args.caller.now.view c.managed.new.caller.view c.args.index c.args.act.now
    c.in_ok-managed-in-M.field-0 c.requires.act c.in_ok-managed-in-M.ensures.ok (λ is. c.in_ok-managed-in-M.ensures.exact)

pub returns-in_ok-peer-in-P-clause-ok : goal.returns-in_ok-peer-in-P-clause-ok
returns-in_ok-peer-in-P-clause-ok g c =
    answers_line c.args.caller.now.thread c.args.caller.now.view c.peer.new.caller.view c.args.index c.args.act.now c.in_ok-peer-in-P.field-0 c.requires.act c.in_ok-peer-in-P.ensures.ok
    (λ is. absurd (is_not_managed c.args.caller.now.thread c.in-P.field-0 (sym c.thread.ensures ∙ c.in-P.is) is))
