-- What was found is live, and there are few of it. The objects are those for which the room was taken.
use Rattle.std.proofs.Common.{◌≡◌, ◌∙◌, ◌↔◌, ◌≤◌, List, length, map, ap, sym, subst, arith}
use Rattle.std.specs.Prelude.{Contains, sum}
use Rattle.std.proofs.lemmas.List.{length-map}
use Rattle.joint_machine.specs.declared.names.MNum.{MNum}
use Rattle.joint_machine.specs.Components.{Rises}
use Rattle.joint_machine.specs.Heaps.{Heap, IsLive}
use Rattle.joint_machine.specs.Histories.{managed_numbers}
use Rattle.bridge_graph.specs.Parts.{NodeLeads}
use Rattle.row_heap.specs.Rows.{HeapRows}
use Rattle.managed_heap.specs.Graphs.{HasDeadField}
use Rattle.managed_heap.proofs.Resolutions.{rows-few}
use Rattle.managed_heap.proofs.TakingSnapshots.{dead-live, dead-rises, freed-live, freed-rises, candidates-live, candidates-rise}
use Rattle.managed_heap.proofs.snapshots.prepare.Goals as goal

pub graph_of-graph-requires-clause-edges : goal.graph_of-graph-requires-clause-edges
graph_of-graph-requires-clause-edges c =
    let same : c.find-found.new.heap.heap ≡ c.args.heap.now.heap = ap (λ (v : HeapRows). v.heap) c.find-found.ensures.rest ∙ ap (λ (v : HeapRows). v.heap) c.mark_slots.ensures.rest in
    subst (λ (h : Heap). sum (map length h.fields) ≤ c.args.room.graph.spare_edges) (sym same) c.requires.fields

pub graph_of-graph-requires-clause-live : goal.graph_of-graph-requires-clause-live
graph_of-graph-requires-clause-live c = λ m k. subst (λ (v : HeapRows). IsLive v.heap m) (sym c.find-found.ensures.rest)
    (dead-live c.mark_slots.new.heap c.find-found.new.heap _ _ _ _ c.find-found.ensures.finds m (subst (λ (xs : List MNum). Contains (managed_numbers xs) m) c.deref.ensures.value k))

pub graph_of-graph-requires-clause-rise : goal.graph_of-graph-requires-clause-rise
graph_of-graph-requires-clause-rise c = subst (λ (xs : List MNum). Rises (managed_numbers xs))
    (sym c.deref.ensures.value) (dead-rises c.mark_slots.new.heap c.find-found.new.heap _ _ _ _ c.find-found.ensures.finds)

pub graph_of-graph-requires-clause-few : goal.graph_of-graph-requires-clause-few
graph_of-graph-requires-clause-few c =
    let same = ap (λ (v : HeapRows). length v.heap.fields) c.mark_slots.ensures.rest in
    let few = rows-few c.mark_slots.new.heap.heap (managed_numbers c.find-found.result.dead.items)
    (dead-rises c.mark_slots.new.heap c.find-found.new.heap _ _ _ _ c.find-found.ensures.finds) (dead-live c.mark_slots.new.heap c.find-found.new.heap _ _ _ _ c.find-found.ensures.finds) in
    omega (arith, few, same, ap length c.deref.ensures.value, length-map c.find-found.result.dead.items (λ (m : MNum). m.0), c.made.ensures.made, c.made.ensures.most)

pub returns-clause-few : goal.returns-clause-few
returns-clause-few c =
    let same = ap (λ (v : HeapRows). length v.heap.fields) c.mark_slots.ensures.rest in
    let freed = rows-few c.mark_slots.new.heap.heap (managed_numbers c.find-found.result.freed.items)
    (freed-rises c.mark_slots.new.heap c.find-found.new.heap _ _ _ _ c.find-found.ensures.finds) (freed-live c.mark_slots.new.heap c.find-found.new.heap _ _ _ _ c.find-found.ensures.finds) in
    let picked = rows-few c.mark_slots.new.heap.heap c.find-found.result.candidates.items (candidates-rise c.mark_slots.new.heap c.find-found.new.heap _ _ _ _ c.find-found.ensures.finds)
    (candidates-live c.mark_slots.new.heap c.find-found.new.heap _ _ _ _ c.find-found.ensures.finds) in
    (omega (arith, freed, same, length-map c.find-found.result.freed.items (λ (m : MNum). m.0), c.made.ensures.made, c.made.ensures.most), omega (arith, picked, same))

-- the graph was made over the heap after `find`, whose objects are those before
pub returns-clause-edges : goal.returns-clause-edges
returns-clause-edges c =
    let same : c.find-found.new.heap.heap ≡ c.args.heap.now.heap = ap (λ (v : HeapRows). v.heap) c.find-found.ensures.rest ∙ ap (λ (v : HeapRows). v.heap) c.mark_slots.ensures.rest in
    λ a k. subst (λ (h : Heap). NodeLeads c.graph_of-graph.result.edges a k ↔ HasDeadField h (managed_numbers c.find-found.result.dead.items) a k) same
    (rw c.deref.ensures.value at c.graph_of-graph.ensures.edges a k)
