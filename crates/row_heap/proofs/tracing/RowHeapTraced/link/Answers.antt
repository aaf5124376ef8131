-- A row with a mark stands.
use Rattle.row_heap.proofs.Walked.{live-seen, link-at, marked-row}
use Rattle.std.proofs.Common.{◌∙◌, Some, ap, subst, sym}
use Rattle.reachability.specs.Marks.{HasMark}
use Rattle.row_heap.specs.Rows.{HeapRows}
use Rattle.row_heap.proofs.tracing.RowHeapTraced.link.Goals as goal

pub returns-clause-row : goal.returns-clause-row
returns-clause-row g c = live-seen _ _ _ _ c.self.inside.references _ _ c.args.self.now c.args.x c.self.view_is c.self.invariant.0.sound c.marked_link.ensures.stands

pub marked_link-requires : goal.marked_link-requires
marked_link-requires g c = marked-row _ c.args.x (subst (λ (w : HeapRows). HasMark w.marks c.args.x) (sym c.self.view_is) c.requires)

pub returns-clause-link : goal.returns-clause-link
returns-clause-link g c = link-at _ _ _ _ c.self.inside.references _ c.args.self.now c.args.x c.self.view_is c.marked_link.ensures.stands ∙ ap (λ l. Some l) (sym c.marked_link.ensures.link)
