-- The row whose turn comes is as it was, and there is room for each row that stands.
use Rattle.std.proofs.Common.{◌≡◌, refl, ◌+◌, ◌∙◌, map, length, ap, subst, arith, length-append}
use Rattle.std.proofs.lemmas.List.{length-map}
use Rattle.row_heap.specs.Places.{row_at}
use Rattle.row_heap.specs.Rows.{RowsSwept}
use Rattle.row_heap.proofs.Swept.{RowsSwept-none, RowsSwept-next, up-row, white-stands}
use Rattle.row_heap.proofs.sweeping.sweep_rows.Goals as goal

pub loop-i-init : goal.loop-i-init
loop-i-init g c = record { swept = RowsSwept-none c.args.from c.args.rows.now _ _ c.requires.before refl; capacity = refl }

pub sweep_row-requires-clause-room : goal.sweep_row-requires-clause-room
sweep_row-requires-clause-room g c = λ w.
    let s = c.loop-i.invariant.swept in
    let up = up-row c.loop-i.rows (c.loop-i.i + 1) (white-stands (row_at c.loop-i.rows (c.loop-i.i + 1)) w).0 in
    omega (
      arith,
      up,
      s.rows.flags.count,
      c.requires.room,
      c.loop-i.invariant.capacity,
      ap length s.freed,
      length-append (map g.N.Number.number c.args.freed.now.items) s.swept,
      length-map c.args.freed.now.items g.N.Number.number,
      length-map c.loop-i.freed.items g.N.Number.number,
    )

pub loop-i-preserved : goal.loop-i-preserved
loop-i-preserved g c = record {
  swept = RowsSwept-next c.loop-i.i c.args.rows.now c.loop-i.rows c.sweep_row.new.rows _ _ _ (c.loop-i.i + 1) c.loop-i.invariant.swept refl c.sweep_row.ensures.rows c.sweep_row.ensures.freed;
  capacity = c.sweep_row.ensures.capacity ∙ c.loop-i.invariant.capacity;
}

pub returns-clause-swept : goal.returns-clause-swept
returns-clause-swept g c =
    let all : c.loop-i.i ≡ length c.args.rows.now = omega (arith, c.loop-i-test.false, c.made-i-end.ensures, c.loop-i.auto) in
    subst (λ n. RowsSwept n c.args.rows.now c.loop-i.rows (map g.N.Number.number c.args.freed.now.items) (map g.N.Number.number c.loop-i.freed.items)) all c.loop-i.invariant.swept

pub overflow_add-i : goal.overflow_add-i
overflow_add-i g c = omega (arith, c.loop-i-test.true, c.made-i-end.ensures, c.requires.most)

pub sweep_row-requires-clause-row : goal.sweep_row-requires-clause-row
sweep_row-requires-clause-row g c =
    let s = c.loop-i.invariant.swept in
    (omega arith, omega (arith, c.loop-i-test.true, c.made-i-end.ensures, s.rows.flags.len, length-map c.loop-i.rows (λ r. r.stands), length-map c.args.rows.now (λ r. r.stands)))

pub sweep_row-requires-clause-number : goal.sweep_row-requires-clause-number
sweep_row-requires-clause-number g c = omega (arith, c.loop-i-test.true, c.made-i-end.ensures, c.requires.most)
