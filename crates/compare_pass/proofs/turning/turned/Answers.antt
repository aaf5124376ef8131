-- The edges are turned round.
use Rattle.compare_pass.proofs.turning.turned.Goals as goal

pub returns : goal.returns
returns c = rw (c.finish.ensures.nodes, c.finish.ensures.edges, c.turn_edges.ensures.nodes) record {
  count = c.in_ok-turn_nodes.ensures.nodes.count;
  leads = c.in_ok-turn_edges.ensures.edges;
}
