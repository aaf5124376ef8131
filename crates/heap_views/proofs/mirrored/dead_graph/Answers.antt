-- The builder's nodes and edges are the graph's.
use Rattle.std.proofs.Common.{◌↔◌, ◌∙◌, ℕ, List, sym, subst}
use Rattle.joint_machine.specs.Cycles.{DeadEdge}
use Rattle.joint_replay.specs.Plain.{dead_of}
use Rattle.bridge_graph.specs.Parts.{NodeLeads}
use Rattle.heap_views.proofs.Nodes.{bridges}
use Rattle.heap_views.proofs.mirrored.dead_graph.Goals as goal

pub returns-clause-bridges : goal.returns-clause-bridges
returns-clause-bridges c = bridges c.args.joint.now.graph.managed c.finish.result.nodes
    (c.finish.ensures.nodes ∙ (c.in_ok-add_rows.ensures.nodes ∙ c.in_ok-add_nodes.ensures.nodes)) c.objects-objects.ensures.places

pub returns-clause-edges : goal.returns-clause-edges
returns-clause-edges c =
    let s = c.args.joint.now.graph.managed in
    λ a k. subst (λ (es : List (List ℕ)). NodeLeads es a k ↔ DeadEdge s (dead_of s) a k) (sym c.finish.ensures.edges) (c.in_ok-add_rows.ensures.edges a k)
