-- The rows of the list are removed, and the heap stays sound.
use Rattle.std.proofs.Common.{◌∙◌, ap, map}
use Rattle.std.proofs.lemmas.List.{map-append}
use Rattle.heap_rules.proofs.Sound.{IsUp-live}
use Rattle.row_heap.proofs.Gone.{gone-more}
use Rattle.row_heap.proofs.FieldCounts.{count-fields}
use Rattle.row_heap.proofs.Freed.{IsRowHeap-freed, seen-freed}
use Rattle.row_heap.proofs.Swept.{marks-freed}
use Rattle.row_heap.proofs.Sound.{stand-room, rest-freed}
use Rattle.row_heap.proofs.heap.RowHeap.free.Goals as goal

pub free_rows-requires-clause-up : goal.free_rows-requires-clause-up
free_rows-requires-clause-up g c =
    let can = rw (← c.self.view_is) at c.requires.can in
    λ k d l. IsUp-live _ _ _ c.self.invariant.0.sound.flags (can.live k d l)

pub invariant_of-self : goal.invariant_of-self
invariant_of-self g c = (
  IsRowHeap-freed _ _ _ _ (map g.N.Number.number c.args.xs.now) _ _ c.self.inside.references _ _ _
      c.args.self.now c.self.view_is c.self.invariant.0 c.free_rows.ensures.rows c.requires.can c.requires.ends
      (ap (map g.N.Number.number) c.free_rows.ensures.freed ∙ map-append g.N.Number.number c.self.inside.freed.items c.args.xs.now) c.free_rows.ensures.capacity,
  gone-more _ _ _ _ c.self.invariant.1 (ap (map g.N.Number.number) c.free_rows.ensures.freed ∙ map-append g.N.Number.number c.self.inside.freed.items c.args.xs.now),
  count-fields _ _ _ c.free_rows.ensures.rows.fields c.self.invariant.2,
)

pub returns-clause-heap : goal.returns-clause-heap
returns-clause-heap g c = seen-freed _ _ _ _ (map g.N.Number.number c.args.xs.now) _ _ c.self.inside.references _ c.args.self.now c.self.view_is c.free_rows.ensures.rows
    (ap (map g.N.Number.number) c.free_rows.ensures.freed ∙ map-append g.N.Number.number c.self.inside.freed.items c.args.xs.now)

pub returns-clause-marks : goal.returns-clause-marks
returns-clause-marks g c = marks-freed _ _ _ _ _ c.self.inside.references _ c.args.self.now
    (map g.N.Number.number c.args.xs.now) c.self.view_is c.free_rows.ensures.rows c.recall_marked_stand.ensures c.recall_marked_stand-2.ensures

pub free_rows-requires-clause-rises : goal.free_rows-requires-clause-rises
free_rows-requires-clause-rises g c = c.requires.can.rises

pub free_rows-requires-clause-room : goal.free_rows-requires-clause-room
free_rows-requires-clause-room g c = stand-room g.N.Number.number _ _ _ _ _ c.self.invariant.0.sound

pub returns-clause-rest : goal.returns-clause-rest
returns-clause-rest g c = rest-freed _ _ _ _ _ _ c.self.inside.references _ c.args.self.now c.self.view_is
