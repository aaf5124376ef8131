-- A node that is passed has no handle.
use Rattle.std.proofs.Common.{sym, ◌∙◌}
use Rattle.handle_weaken.proofs.Turns.{left-none}
use Rattle.run_check.proofs.cycles.bridge_node.Goals as goal

pub loop-i-preserved : goal.loop-i-preserved
loop-i-preserved c = record { rest = sym (left-none c.args.graph.now.nodes c.loop-i.i (c.handle.ensures.0, c.handle.ensures.1, c.handle.ensures.2 ∙ c.in_default.is)) ∙ c.loop-i.invariant.rest }
