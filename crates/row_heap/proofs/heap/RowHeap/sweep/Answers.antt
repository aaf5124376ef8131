-- The rows without a mark are removed, and the heap stays sound.
use Rattle.std.proofs.Common.{◌∙◌, sym, ap, subst, arith}
use Rattle.std.proofs.lemmas.List.{length-map}
use Rattle.joint_machine.specs.Heaps.{with_freed}
use Rattle.row_heap.specs.Marks.{AreWhite}
use Rattle.row_heap.specs.Places.{row_at}
use Rattle.row_heap.specs.Rows.{HeapRows}
use Rattle.row_heap.proofs.Gone.{fallen, gone-made, gone-more}
use Rattle.row_heap.proofs.FieldCounts.{count-fields}
use Rattle.row_heap.proofs.Freed.{IsRowHeap-freed, seen-freed}
use Rattle.row_heap.proofs.Swept.{AreWhite-swept, seen-swept, swept-end, white-stands, white-can_free, white-none_refers}
use Rattle.row_heap.proofs.Sound.{rows-most, stand-room}
use Rattle.row_heap.proofs.heap.RowHeap.sweep.Goals as goal

pub sweep_rows-requires-clause-from : goal.sweep_rows-requires-clause-from
sweep_rows-requires-clause-from g c = omega (arith, gone-made _ c.self.inside.gone c.self.invariant.0.sound.tidy c.self.invariant.1, length-map c.self.inside.rows (λ r. r.fields))

pub sweep_rows-requires-clause-before : goal.sweep_rows-requires-clause-before
sweep_rows-requires-clause-before g c = λ x le w. fallen _ _ _ _ _ c.self.inside.gone c.self.invariant.0.sound c.self.invariant.1 x le (white-stands (row_at c.self.inside.rows x) w).0

pub invariant_of-self : goal.invariant_of-self
invariant_of-self g c =
    let v = c.args.self.now in
    let s = c.sweep_rows.ensures.swept in
    let white : AreWhite v s.swept = AreWhite-swept _ _ _ _ _ _ c.self.inside.references _ _ v c.self.view_is c.self.invariant.0.sound s in (
      IsRowHeap-freed _ _ _ _ s.swept _ _ c.self.inside.references _ _ _ v c.self.view_is c.self.invariant.0 s.rows (white-can_free v s.swept white c.requires.slots c.requires.shut)
          (white-none_refers v s.swept white c.requires.shut) s.freed c.sweep_rows.ensures.capacity,
      gone-more _ _ _ _ c.self.invariant.1 s.freed,
      count-fields _ _ _ s.rows.fields c.self.invariant.2,
    )

pub returns-clause-white : goal.returns-clause-white
returns-clause-white g c =
    let v = c.args.self.now in
    let s = c.sweep_rows.ensures.swept in
    subst (AreWhite v) (sym (swept-end v _ _ s.swept (sym (ap (λ (w : HeapRows). w.heap.freed) c.self.view_is)) s.freed))
    (AreWhite-swept _ _ _ _ _ _ c.self.inside.references _ _ v c.self.view_is c.self.invariant.0.sound s)

pub returns-clause-heap : goal.returns-clause-heap
returns-clause-heap g c =
    let v = c.args.self.now in
    let s = c.sweep_rows.ensures.swept in
    seen-freed _ _ _ _ s.swept _ _ c.self.inside.references _ v c.self.view_is s.rows s.freed
    ∙ ap (with_freed v.heap) (sym (swept-end v _ _ s.swept (sym (ap (λ (w : HeapRows). w.heap.freed) c.self.view_is)) s.freed))

pub returns-clause-rest : goal.returns-clause-rest
returns-clause-rest g c = seen-swept _ _ _ _ _ _ c.self.inside.references _ c.args.self.now c.self.view_is c.sweep_rows.ensures.swept.marks

pub sweep_rows-requires-clause-most : goal.sweep_rows-requires-clause-most
sweep_rows-requires-clause-most g c = rows-most _ _ _ _ _ c.self.invariant.0.sound

pub sweep_rows-requires-clause-room : goal.sweep_rows-requires-clause-room
sweep_rows-requires-clause-room g c = stand-room g.N.Number.number _ _ _ _ _ c.self.invariant.0.sound
