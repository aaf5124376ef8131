-- The rows have no edges before, and afterwards those of their fields. There is room for them all.
use Rattle.std.proofs.Common.{◌≤◌, ◌↔◌, ℕ, List, sym, subst, arith, true≢false}
use Rattle.std.proofs.lemmas.List.{length-map}
use Rattle.joint_machine.specs.declared.names.MNum.{MNum}
use Rattle.joint_machine.specs.Histories.{managed_numbers}
use Rattle.bridge_graph.specs.Parts.{NodeLeads}
use Rattle.managed_heap.specs.Graphs.{HasDeadField}
use Rattle.managed_heap.proofs.DeadGraphs.{edges-all}
use Rattle.managed_heap.proofs.FieldRoom.{fields-fit}
use Rattle.managed_heap.proofs.Resolutions.{All-numbers, rows-few}
use Rattle.managed_heap.proofs.graphs.graph_of.Goals as goal

pub places_of-places-requires-clause-within : goal.places_of-places-requires-clause-within
places_of-places-requires-clause-within c = All-numbers (λ m. m ≤ c.made.result) c.args.dead.now (λ m k. (let l = c.requires.live m k in omega (arith, l.made.1, c.made.ensures.made)))

pub unreachable-requires : goal.unreachable-requires
unreachable-requires c =
    let few = rows-few c.args.heap.now.heap (managed_numbers c.args.dead.now) c.requires.rise c.requires.live in
    true≢false (sym (c.in_default.ensures.ready (omega (arith, few, c.requires.nodes, length-map c.args.dead.now (λ (m : MNum). m.0)))))

pub unreachable-requires-in_default-add_edges : goal.unreachable-requires-in_default-add_edges
unreachable-requires-in_default-add_edges c =
    let few = fields-fit c.args.heap.now.heap (managed_numbers c.args.dead.now) c.requires.rise c.requires.live in
    true≢false (sym (c.in_default-add_edges.ensures.ready (omega (arith, few, c.requires.edges, c.add_nodes.ensures.spare))))

pub returns-clause-edges : goal.returns-clause-edges
returns-clause-edges c =
    let numbers = managed_numbers c.args.dead.now in
    λ a k. subst (λ (es : List (List ℕ)). NodeLeads es a k ↔ HasDeadField c.args.heap.now.heap numbers a k) (sym c.finish.ensures.edges)
    (edges-all c.args.heap.now.heap numbers c.add_nodes.new.builder.edges c.add_edges.new.builder.edges c.in-Ok.ensures.edges c.in-Ok-add_edges.ensures.edges a k)
