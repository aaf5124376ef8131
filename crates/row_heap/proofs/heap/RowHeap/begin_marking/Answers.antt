-- Only marks change, and whether references are followed.
use Rattle.std.proofs.Common.{◌∙◌, refl, ap, subst, false, ◌∷◌, map}
use Rattle.reachability.specs.Marks.{HasMark}
use Rattle.row_heap.specs.Places.{Seen}
use Rattle.row_heap.proofs.FieldCounts.{count-kept, width}
use Rattle.row_heap.proofs.Gone.{fallen}
use Rattle.row_heap.proofs.Edges.{IsRowHeap-unmarked, map-unmarked, seen-unmarked, unmarked-none}
use Rattle.row_heap.proofs.heap.RowHeap.begin_marking.Goals as goal

pub unmark_from-requires : goal.unmark_from-requires
unmark_from-requires g c = λ x le m. fallen _ _ _ _ _ c.self.inside.gone c.self.invariant.0.sound c.self.invariant.1 x le (c.recall_marked_stand.ensures x m)

pub invariant_of-self : goal.invariant_of-self
invariant_of-self g c = (
  IsRowHeap-unmarked _ _ _ _ _ c.self.inside.references _ _ c.args.follows _ c.args.self.now
      (c.self.view_is ∙ c.move_on.ensures) c.self.invariant.0 c.requires c.unmark_from.ensures c.forget.ensures.rest c.forget.ensures.none,
  c.self.invariant.1,
  count-kept _ _ _ (ap (map width) c.unmark_from.ensures ∙ map-unmarked width c.self.inside.rows (λ r. refl)) c.self.invariant.2,
)

pub returns-clause-marks : goal.returns-clause-marks
returns-clause-marks g c = λ x m. unmarked-none c.self.inside.rows x (subst (λ l. HasMark (false ∷ map (λ (r : Seen). r.marked) l) x) c.unmark_from.ensures m)

pub returns-clause-rest : goal.returns-clause-rest
returns-clause-rest g c = seen-unmarked _ _ _ _ _ c.self.inside.references _ _ c.args.follows c.args.self.now (c.self.view_is ∙ c.move_on.ensures) c.unmark_from.ensures c.forget.ensures.rest
