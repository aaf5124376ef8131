-- An edge more, where the field leads to a row of the dead part.
use Rattle.std.proofs.Common.{◌≡◌, ◌↔◌, ◌⊎◌, ◌<◌, ◌∙◌, ℕ, true, List, Option, Some, length, sym, subst, arith}
use Rattle.std.proofs.lemmas.Result.{on_ok_weaker}
use Rattle.joint_machine.specs.Heaps.{IsMade}
use Rattle.bridge_graph.specs.Parts.{NodeLeads}
use Rattle.heap_views.specs.Mirrored.{is_dead}
use Rattle.heap_views.proofs.Edges.{target-more}
use Rattle.heap_views.proofs.Nodes.{number-plain, told-true, within}
use Rattle.heap_views.proofs.mirrored.add_edge.Goals as goal

pub edge-requires-clause-from : goal.edge-requires-clause-from
edge-requires-clause-from c = within c.args.joint.now.graph.managed c.args.builder.now.nodes c.args.m c.requires.nodes c.requires.from.1

pub edge-requires-clause-to : goal.edge-requires-clause-to
edge-requires-clause-to c =
    let made = told-true (IsMade c.args.joint.now.graph.managed.heap c.in-Some.y) c.is_dead.result c.is_dead.ensures.made c.if-not-is_dead.false in
    within c.args.joint.now.graph.managed c.args.builder.now.nodes c.in-Some.y c.requires.nodes made.1

pub edge-requires-clause-open : goal.edge-requires-clause-open
edge-requires-clause-open c = number-plain c.args.joint.now.graph.managed c.args.builder.now.nodes c.args.m c.requires.nodes c.requires.from.1

pub returns-clause-edges : goal.returns-clause-edges
returns-clause-edges c =
    let s = c.args.joint.now.graph.managed in
    let es = c.args.builder.now.edges in
    let m = c.args.m in
    let y = c.in-Some.y in
    let here = within s c.args.builder.now.nodes m c.requires.nodes c.requires.from.1 in
    let few : m < length es = omega (arith, here, c.nodes.ensures.part.rows) in
    let dead : is_dead s y ≡ true = sym c.is_dead.ensures.dead ∙ c.if-not-is_dead.false in
    on_ok_weaker c.edge.result (λ e a k. subst (λ (f : Option ℕ). NodeLeads c.edge.new.self.edges a k ↔ (NodeLeads es a k ⊎ ((a ≡ m) × (f ≡ Some k) × (is_dead s k ≡ true)))) (sym c.in-Some.is)
    (subst (λ (ls : List (List ℕ)). NodeLeads ls a k ↔ (NodeLeads es a k ⊎ ((a ≡ m) × (Some y ≡ Some k) × (is_dead s k ≡ true)))) (sym e)
    (target-more s es m y a k few dead))) c.edge.ensures.edges
