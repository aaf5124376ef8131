-- Each node was put last.
use Rattle.std.proofs.Common.{refl}
use Rattle.side_tests.specs.Circles.{nodes}
use Rattle.side_tests.proofs.mirrors.two_nodes.Goals as goal

pub returns : goal.returns
unfolding nodes
returns c = rw (c.finish.ensures.nodes, c.in_ok-node-2.ensures.nodes, c.in_ok-node.ensures.nodes, c.new-builder.ensures.nodes) refl
