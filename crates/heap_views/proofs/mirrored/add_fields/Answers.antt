-- One field more in each turn.
use Rattle.std.proofs.Common.{◌≡◌, ◌↔◌, ◌⊎◌, ◌∙◌, ◌<◌, ℕ, true, List, Option, Some, length, take, refl, subst, arith}
use Rattle.std.proofs.lemmas.List.{take_all}
use Rattle.joint_machine.specs.Heaps.{Heap, fields_of, slot}
use Rattle.joint_machine.proofs.Numbered.{slot-at}
use Rattle.joint_replay.specs.Plain.{kept_target}
use Rattle.bridge_graph.specs.Parts.{NodeLeads}
use Rattle.heap_views.specs.Mirrored.{HasDead, is_dead}
use Rattle.heap_views.proofs.Edges.{fields-more}
use Rattle.heap_views.proofs.mirrored.add_fields.Goals as goal

pub loop-j-preserved : goal.loop-j-preserved
loop-j-preserved c =
    let s = c.args.joint.now.graph.managed in
    let m = c.args.m in
    let j = c.loop-j.j in
    let fields = fields_of s.heap m in
    let many : c.fields_len-j-end.result ≡ length fields = subst (λ (h : Heap). c.fields_len-j-end.result ≡ length (fields_of h m)) c.objects-heap.ensures.heap c.fields_len-j-end.ensures in
    let within : j < length fields = omega (arith, c.loop-j-test.true, many) in
    let target : c.open_field.result ≡ kept_target s.heap (slot fields j) =
    subst (λ (h : Heap). c.open_field.result ≡ kept_target h (slot (fields_of h m) j)) c.objects-heap.ensures.heap c.open_field.ensures.target in
    record {
      nodes = c.in_ok-add_edge.ensures.nodes ∙ c.loop-j.invariant.nodes;
      edges = fields-more s fields j m (slot fields j) c.args.builder.now.edges c.loop-j.builder.edges c.add_edge.new.builder.edges
          (slot-at fields j (slot fields j) within refl) c.loop-j.invariant.edges
          (subst (λ (o : Option ℕ). (a k : ℕ) → NodeLeads c.add_edge.new.builder.edges a k ↔ (NodeLeads c.loop-j.builder.edges a k ⊎ ((a ≡ m) × (o ≡ Some k) × (is_dead s k ≡ true)))) target
          c.in_ok-add_edge.ensures.edges);
    }

pub returns-clause-edges : goal.returns-clause-edges
returns-clause-edges c =
    let s = c.args.joint.now.graph.managed in
    let m = c.args.m in
    let fields = fields_of s.heap m in
    let many : c.fields_len-j-end.result ≡ length fields = subst (λ (h : Heap). c.fields_len-j-end.result ≡ length (fields_of h m)) c.objects-heap.ensures.heap c.fields_len-j-end.ensures in
    let all : take c.loop-j.j fields ≡ fields = take_all c.loop-j.j fields (omega (arith, c.loop-j-test.false, many)) in
    subst (λ (fs : List (Option ℕ)). (a k : ℕ) → NodeLeads c.loop-j.builder.edges a k ↔ (NodeLeads c.args.builder.now.edges a k ⊎ ((a ≡ m) × HasDead s fs k))) all c.loop-j.invariant.edges
