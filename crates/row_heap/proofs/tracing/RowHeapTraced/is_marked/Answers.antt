-- The mark of a row that stands.
use Rattle.std.proofs.Common.{◌∙◌, Some, ap, sym}
use Rattle.row_heap.proofs.Indexed.{stands-within}
use Rattle.row_heap.proofs.Walked.{stands-seen, mark-at}
use Rattle.row_heap.proofs.tracing.RowHeapTraced.is_marked.Goals as goal

pub is_marked-requires : goal.is_marked-requires
is_marked-requires g c = stands-within c.self.inside.rows c.args.x (stands-seen _ _ _ _ c.self.inside.references _ _ c.args.self.now c.args.x c.self.view_is c.self.invariant.0.sound c.requires)

pub returns : goal.returns
returns g c =
    mark-at _ _ _ _ c.self.inside.references _ c.args.self.now c.args.x c.self.view_is
    (stands-seen _ _ _ _ c.self.inside.references _ _ c.args.self.now c.args.x c.self.view_is c.self.invariant.0.sound c.requires) ∙ ap (λ b. Some b) (sym c.is_marked.ensures)
