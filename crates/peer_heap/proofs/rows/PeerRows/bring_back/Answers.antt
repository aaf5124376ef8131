-- The peer is visited, if a marking is open.
use Rattle.std.proofs.Common.{ap, sym, ◌∙◌}
use Rattle.std.proofs.lemmas.Bool.{true≢false}
use Rattle.row_heap.specs.Rows.{HeapRows}
use Rattle.row_heap.proofs.Edges.{rest-kept}
use Rattle.row_marking.proofs.Greys.{Greyed-as, Greyed-none}
use Rattle.peer_heap.specs.Rows.{rows_with}
use Rattle.peer_heap.proofs.Fitting.{ArePeerRows-marked}
use Rattle.peer_heap.proofs.rows.PeerRows.bring_back.Goals as goal

pub visit-requires-clause-some : goal.visit-requires-clause-some
visit-requires-clause-some c = c.requires.live.made.0

pub visit-requires-clause-row : goal.visit-requires-clause-row
visit-requires-clause-row c = rw (← c.self.view_is) at c.requires.live

pub invariant_of-self : goal.invariant_of-self
invariant_of-self c = ArePeerRows-marked c.self.inside.heap c.visit.new.g _ _ _
    (ap (λ (v : HeapRows). v.heap.fields) (rest-kept c.self.inside.heap c.visit.new.g c.visit.ensures.kept)) c.self.invariant

pub returns-then-not-is_open-clause-shaded : goal.returns-then-not-is_open-clause-shaded
returns-then-not-is_open-clause-shaded c = Greyed-none _ _ _ _ (λ k w. true≢false (sym w.0 ∙ c.if-not-is_open.true))

pub returns-clause-rest : goal.returns-clause-rest
returns-clause-rest c =
    let i = c.self.inside in
    rw (← c.self.view_is) (ap (λ (v : HeapRows). rows_with v i.sorts.items i.names i.issued i.table) (rest-kept i.heap c.visit.new.g c.visit.ensures.kept))

pub returns-clause-shaded : goal.returns-clause-shaded
returns-clause-shaded c = rw (← c.self.view_is) (Greyed-as _ _ _ _ _ _ _ _ (λ k w. w.1) (λ k w. (c.if-not-is_open.false, w)) c.visit.ensures.greyed)
