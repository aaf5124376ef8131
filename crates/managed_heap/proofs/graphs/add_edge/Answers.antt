-- The row's place names the node to which the edge leads.
use Rattle.std.proofs.Common.{◌≡◌, ◌<◌, ◌↔◌, ◌⊎◌, ℕ, List, Option, Some, length, get_or, sym, subst, arith}
use Rattle.std.specs.Prelude.{IfSome}
use Rattle.std.proofs.lemmas.Result.{on_ok_weaker}
use Rattle.std.proofs.lemmas.Option.{slice_get-get_or}
use Rattle.bridge_graph.specs.Parts.{NodeLeads}
use Rattle.managed_heap.specs.Graphs.{IsPlaceOf}
use Rattle.managed_heap.proofs.DeadGraphs.{place-there, placed-more}
use Rattle.managed_heap.proofs.graphs.add_edge.Goals as goal

pub returns-clause-edges : goal.returns-clause-edges
returns-clause-edges c =
    let places = c.args.places.now in
    let y = c.in-Some.y in
    let es = c.args.builder.now.edges in
    let within : y < length places = subst (λ (f : Option ℕ). IfSome f (λ z. z < length places)) c.in-Some.is c.requires.named in
    let few : c.args.i < length es = omega (arith, c.requires.from, c.nodes.ensures.part.rows) in
    on_ok_weaker c.edge.result (λ e a k. subst (λ (f : Option ℕ). NodeLeads c.edge.new.self.edges a k ↔ (NodeLeads es a k ⊎ ((a ≡ c.args.i) × IsPlaceOf places f k))) (sym c.in-Some.is)
    (subst (λ (ls : List (List ℕ)). NodeLeads ls a k ↔ (NodeLeads es a k ⊎ ((a ≡ c.args.i) × IsPlaceOf places (Some y) k))) (sym e)
    (placed-more places es c.args.i a k y (get_or places y 0) few (slice_get-get_or places y 0 within) c.if-place-eq0.false))) c.edge.ensures.edges

pub edge-requires-clause-to : goal.edge-requires-clause-to
edge-requires-clause-to c =
    let places = c.args.places.now in
    let y = c.in-Some.y in
    let within : y < length places = subst (λ (f : Option ℕ). IfSome f (λ z. z < length places)) c.in-Some.is c.requires.named in
    place-there places y (get_or places y 0) (length c.args.builder.now.nodes) (slice_get-get_or places y 0 within) c.if-place-eq0.false c.requires.within
