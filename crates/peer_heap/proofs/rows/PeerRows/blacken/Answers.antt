-- Only marks and links change, so the parts fit as before; and there are no more peers than may be made.
use Rattle.std.proofs.Common.{ap, arith}
use Rattle.row_heap.specs.Rows.{HeapRows}
use Rattle.peer_heap.specs.Rows.{rows_with}
use Rattle.peer_heap.proofs.Fitting.{ArePeerRows-marked}
use Rattle.peer_heap.proofs.rows.PeerRows.blacken.Goals as goal

pub mark_some-requires : goal.mark_some-requires
mark_some-requires c = rw (← c.self.view_is) at c.requires

pub invariant_of-self : goal.invariant_of-self
invariant_of-self c = ArePeerRows-marked c.self.inside.heap c.mark_some.new.self _ _ _ (ap (λ (v : HeapRows). v.heap.fields) c.mark_some.ensures.rest) c.self.invariant

pub returns-clause-steps : goal.returns-clause-steps
returns-clause-steps c = rw (← c.self.view_is) c.mark_some.ensures.steps

pub returns-clause-few : goal.returns-clause-few
returns-clause-few c = omega (arith, c.mark_some.ensures.few, c.recall_marks_len.ensures, c.recall_tidy.ensures.most)

pub returns-clause-made : goal.returns-clause-made
returns-clause-made c = rw (← c.self.view_is) c.recall_tidy.ensures.most

pub returns-clause-rest : goal.returns-clause-rest
returns-clause-rest c =
    let i = c.self.inside in
    rw (← c.self.view_is) (ap (λ (v : HeapRows). rows_with v i.sorts.items i.names i.issued i.table) c.mark_some.ensures.rest)
