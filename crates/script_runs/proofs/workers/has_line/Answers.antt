use Rattle.std.proofs.Common.{sym, ◌∙◌}
use Rattle.script_runs.proofs.Ordered.{line_seen}
use Rattle.script_runs.proofs.Reading.{line_of, none_so_far, there}
use Rattle.script_runs.proofs.workers.has_line.Goals as goal

pub loop-line-preserved : goal.loop-line-preserved
loop-line-preserved c = none_so_far c.args.script.now c.loop-line.line-index c.args.t c.loop-line-test.true (sym c.is_thread.ensures ∙ c.if-is_thread.false) c.loop-line.invariant

pub returns-then-is_thread-clause-some : goal.returns-then-is_thread-clause-some
returns-then-is_thread-clause-some c = λ e.
    let script = c.args.script.now in
    let i = c.loop-line.line-index in
    line_seen script c.args.t i (line_of script i) (there script i c.loop-line-test.true) (sym c.is_thread.ensures ∙ c.if-is_thread.true)
