-- The row of one number goes, and the others stay.
use Rattle.std.proofs.Common.{◌≡◌, None, sym, subst, ◌∙◌, length}
use Rattle.joint_machine.specs.Heaps.{numbered_set}
use Rattle.peer_heap.specs.Rows.{Rows, rows_with}
use Rattle.global_handles.proofs.Rows.{length-without}
use Rattle.peer_heap.proofs.Handles.{rows-removed, length-without_le, row_in-shown, AreRowsIssued-removed}
use Rattle.peer_heap.proofs.rows.PeerRows.remove.Goals as goal

pub returns-clause-rows : goal.returns-clause-rows
returns-clause-rows c =
    let i = c.self.inside in
    subst (λ (z : Rows). rows_with i.heap i.sorts.items i.names i.issued c.release.new.self ≡ record z { table = numbered_set z.table c.args.h.0 None; tabled = length c.release.new.self.rows })
    c.self.view_is
    (rows-removed i.heap i.sorts.items i.names i.issued i.table c.release.new.self c.args.h c.release.ensures.rows c.release.ensures.made c.release.ensures.last)

pub returns-clause-fewer : goal.returns-clause-fewer
returns-clause-fewer c = rw (sym c.self.view_is, c.release.ensures.rows) (length-without_le c.self.inside.table.rows c.args.h)

pub returns-clause-tabled : goal.returns-clause-tabled
returns-clause-tabled c = λ row at.
    let shown = rw (sym c.self.view_is) at at in
    let found = row_in-shown c.self.inside.table.rows c.args.h.0 c.self.inside.table.last row shown in
    rw (sym c.self.view_is, c.release.ensures.rows) (length-without 0 c.self.inside.table.last c.self.inside.table.rows c.args.h found.0 c.self.invariant.rising found.1)

pub invariant_of-self : goal.invariant_of-self
invariant_of-self c =
    let i = c.self.inside in
    let kept = c.self.invariant in
    record {
      rising = c.release.ensures.rising;
      places = c.release.ensures.last ∙ kept.places;
      rows_issued = AreRowsIssued-removed i.issued i.table c.release.new.self c.args.h c.release.ensures.rows kept.rows_issued;
      sorted = kept.sorted;
      short = kept.short;
    }
