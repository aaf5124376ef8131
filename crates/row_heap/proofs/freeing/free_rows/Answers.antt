-- The numbers rise, so each row still stands when its turn comes, and there is room for each.
use Rattle.std.proofs.Common.{◌≡◌, refl, ◌+◌, ◌∙◌, ◌++◌, [], ◌∷◌, take, length, sym, ap, arith, append_assoc, length-append, subst, map}
use Rattle.std.proofs.lemmas.List.{take_more, length-map, take_all}
use Rattle.row_heap.proofs.Freed.{RowsFreed-here, RowsFreed-next}
use Rattle.row_heap.specs.Rows.{RowsFreed}
use Rattle.row_heap.proofs.freeing.free_rows.Goals as goal

pub free-requires : goal.free-requires
free-requires g c = (RowsFreed-here g.N.Number.number c.args.xs.now c.loop-x.x-index c.x-item.result c.get.result c.args.rows.now
    c.loop-x.rows c.loop-x.invariant.rows c.requires.up c.requires.rises c.loop-x-test.true c.x-item.is c.get.ensures).0

pub push_reserved-requires : goal.push_reserved-requires
push_reserved-requires g c =
    omega (
      arith,
      (RowsFreed-here g.N.Number.number c.args.xs.now c.loop-x.x-index c.x-item.result c.get.result c.args.rows.now c.loop-x.rows c.loop-x.invariant.rows c.requires.up
          c.requires.rises c.loop-x-test.true c.x-item.is c.get.ensures).1,
      c.loop-x.invariant.rows.flags.count,
      c.loop-x.invariant.capacity,
      ap length c.loop-x.invariant.freed,
      length-append c.args.freed.now.items (take c.loop-x.x-index c.args.xs.now),
      length-map (take c.loop-x.x-index c.args.xs.now) g.N.Number.number,
      c.requires.room,
      c.loop-x.freed.ok,
    )

pub loop-x-preserved : goal.loop-x-preserved
loop-x-preserved g c = record {
  rows = RowsFreed-next g.N.Number.number c.args.xs.now c.loop-x.x-index c.x-item.result c.get.result c.args.rows.now c.loop-x.rows
      c.free.new.self c.loop-x.invariant.rows c.requires.up c.requires.rises c.loop-x-test.true c.x-item.is c.get.ensures c.free.ensures;
  freed =
      let xs = c.args.xs.now in
      let i = c.loop-x.x-index in
      let more : take (i + 1) xs ≡ take i xs ++ c.x-item.result ∷ [] = take_more xs i c.x-item.result c.loop-x-test.true ∙ ap (λ z. take i xs ++ z ∷ []) (sym c.x-item.is) in
      rw (c.push_reserved.ensures.items, c.loop-x.invariant.freed, append_assoc, more) refl;
  capacity = c.push_reserved.ensures.capacity ∙ c.loop-x.invariant.capacity;
}

pub overflow_cast-get : goal.overflow_cast-get
overflow_cast-get g c = omega (arith, c.get.type_inv)

pub returns-clause-rows : goal.returns-clause-rows
returns-clause-rows g c = subst (λ l. RowsFreed (map g.N.Number.number l) c.args.rows.now c.loop-x.rows) (take_all c.loop-x.x-index c.args.xs.now c.loop-x-test.false) c.loop-x.invariant.rows

pub returns-clause-freed : goal.returns-clause-freed
returns-clause-freed g c = c.loop-x.invariant.freed ∙ ap (λ l. c.args.freed.now.items ++ l) (take_all c.loop-x.x-index c.args.xs.now c.loop-x-test.false)
