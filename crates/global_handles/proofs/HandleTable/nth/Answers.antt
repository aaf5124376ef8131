-- Where no hole is left, each name leads to the row at its place.
use Rattle.std.proofs.Common.{◌≤◌, length, refl, sym, ◌∙◌, arith}
use Rattle.std.proofs.lemmas.Option.{slice_get_read}
use Rattle.global_handles.specs.Slots.{rows_of}
use Rattle.global_handles.proofs.Slots.{get_some, length-rows-le, rows_of-nth}
use Rattle.global_handles.proofs.HandleTable.nth.Goals as goal

pub index-name-requires : goal.index-name-requires
index-name-requires c =
    let below = rw (← c.self.view_is) at c.requires.within in
    omega (arith, below, length-rows-le c.self.inside.slots.items c.self.inside.names.items)

pub unreachable-requires : goal.unreachable-requires
unreachable-requires c =
    let ss = c.self.inside.slots.items in
    let es = c.self.inside.names.items in
    let none = rw (← c.self.view_is) at c.requires.settled in
    let below = rw (← c.self.view_is) at c.requires.within in
    let le : length es ≤ length (rows_of ss es) = omega (arith, none) in
    let there = slice_get_read es (length es) c.args.i c.index-name.result.now refl (omega (arith, below, length-rows-le ss es)) c.index-name.ensures in
    let gone = rw c.as_slice.ensures.value at (sym c.named.ensures ∙ c.in_default.is) in
    get_some (rows_of ss es) c.args.i below (rw (rows_of-nth ss es c.args.i le, there) gone)

pub returns : goal.returns
returns c =
    let ss = c.self.inside.slots.items in
    let es = c.self.inside.names.items in
    let none = rw (← c.self.view_is) at c.requires.settled in
    let below = rw (← c.self.view_is) at c.requires.within in
    let le : length es ≤ length (rows_of ss es) = omega (arith, none) in
    let there = slice_get_read es (length es) c.args.i c.index-name.result.now refl (omega (arith, below, length-rows-le ss es)) c.index-name.ensures in
    let is = rw c.as_slice.ensures.value at (sym c.named.ensures ∙ c.in-Some.is) in
    rw (← c.self.view_is, rows_of-nth ss es c.args.i le, there) is
