-- A row without a mark stands, so it can be removed, and there is room for its number.
use Rattle.std.proofs.Common.{◌∙◌, ◌++◌, ◌∷◌, [], map, sym, ap, arith}
use Rattle.std.proofs.lemmas.List.{map-append}
use Rattle.row_heap.specs.Places.{row_at}
use Rattle.row_heap.proofs.Swept.{white-stands}
use Rattle.row_heap.proofs.sweeping.sweep_row.Goals as goal

pub free-requires : goal.free-requires
free-requires g c = (white-stands (row_at c.args.rows.now c.args.x) (sym c.is_white.ensures ∙ c.if-is_white.true)).0

pub push_reserved-requires : goal.push_reserved-requires
push_reserved-requires g c = omega (arith, c.requires.room (sym c.is_white.ensures ∙ c.if-is_white.true))

pub returns-then-is_white-clause-rows : goal.returns-then-is_white-clause-rows
returns-then-is_white-clause-rows g c = rw (← c.is_white.ensures, c.if-is_white.true) c.free.ensures

pub returns-then-is_white-clause-freed : goal.returns-then-is_white-clause-freed
returns-then-is_white-clause-freed g c =
    rw (← c.is_white.ensures, c.if-is_white.true)
    (ap (map g.N.Number.number) c.push_reserved.ensures.items ∙ (map-append g.N.Number.number c.args.freed.now.items _ ∙ ap (λ z. map g.N.Number.number c.args.freed.now.items ++ z ∷ []) c.of.ensures))
