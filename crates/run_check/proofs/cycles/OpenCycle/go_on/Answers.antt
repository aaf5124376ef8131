-- The next bridge node is the one behind one more.
use Rattle.run_check.proofs.Handed.{at-next}
use Rattle.run_check.proofs.cycles.OpenCycle.go_on.Goals as goal

pub returns-then-self-nodes-clause-next : goal.returns-then-self-nodes-clause-next
returns-then-self-nodes-clause-next c = λ n l a. at-next c.args.self.now.graph.nodes c.args.self.now.place c.bridge_node-self.result n a l c.bridge_node-self.ensures.within
    c.bridge_node-self.ensures.rest c.bridge_node-self.ensures.bridge
