use Rattle.std.proofs.Common.{◌∙◌}
use Rattle.heap_views.proofs.Nodes.{dead-made, searched-dead}
use Rattle.heap_views.proofs.mirrored.is_dead.Goals as goal

pub returns-clause-dead : goal.returns-clause-dead
returns-clause-dead c = c.is_ok.ensures.value
    ∙ searched-dead c.args.joint.now.graph.managed c.args.m c.dead.result.now c.binary_search.result c.dead.ensures.rows c.dead.ensures.rise c.binary_search.ensures.position

pub returns-clause-made : goal.returns-clause-made
returns-clause-made c = dead-made c.args.joint.now.graph.managed c.args.m c.dead.result.now c.is_ok.result c.dead.ensures.rows c.dead.ensures.made
    (c.is_ok.ensures.value
    ∙ searched-dead c.args.joint.now.graph.managed c.args.m c.dead.result.now c.binary_search.result c.dead.ensures.rows c.dead.ensures.rise c.binary_search.ensures.position)
