-- No marked object is freed, so the loop's edges are those of the heap.
use Rattle.std.proofs.Common.{inl, inr, subst}
use Rattle.reachability.specs.Marks.{IsClosed}
use Rattle.row_heap.specs.Rows.{HeapRows}
use Rattle.row_heap.specs.Marks.{LeadsTo}
use Rattle.row_heap.proofs.Edges.{greying-leads, shut-edges, reached-edge, reached-leads}
use Rattle.row_heap.proofs.heap.RowHeap.finish_marking.Goals as goal

pub finish-requires : goal.finish-requires
finish-requires g c = record {
  roots = c.requires.roots;
  before = c.requires.before;
  greying = greying-leads c.args.self.now _ _ _ _ _ c.recall_tidy.ensures c.recall_ends_live.ensures c.recall_marked_live.ensures c.requires.greying;
}

pub returns-clause-marks : goal.returns-clause-marks
returns-clause-marks g c = λ roots before i x.
    let m = c.finish.ensures.marks roots before (greying-leads c.args.self.now roots before _ _ _ c.recall_tidy.ensures c.recall_ends_live.ensures c.recall_marked_live.ensures i) x in (
      (λ u. elim (m.0 u) [
        | inl w ↦ inl w
        | inr w ↦ inr (reached-edge c.args.self.now roots x c.recall_tidy.ensures c.recall_ends_live.ensures
            (λ k h. c.recall_marked_live.ensures k (i.roots_marked k h)) w)
      ]),
      (λ u. m.1 (elim u [ inl w ↦ inl w | inr w ↦ inr (reached-leads c.args.self.now roots x w) ])),
    )

pub returns-clause-shut : goal.returns-clause-shut
returns-clause-shut g c = shut-edges c.args.self.now c.finish.new.g.marks (subst (λ (v : HeapRows). IsClosed (LeadsTo v) c.finish.new.g.marks) c.finish.ensures.kept c.finish.ensures.closed)
