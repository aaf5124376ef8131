-- The names that are left lead to the same rows, and are as many.
use Rattle.std.proofs.Common.{◌≡◌, ◌-◌, filter, length, refl, arith}
use Rattle.global_handles.specs.Slots.{is_named, rows_of}
use Rattle.global_handles.proofs.Slots.{ArePlaced-filter, NamesRise-filter, length-filter_named, rows_of-filter}
use Rattle.global_handles.proofs.HandleTable.settle.Goals as goal

pub invariant_of-self : goal.invariant_of-self
invariant_of-self c =
    let ss = c.self.inside.slots.items in
    let es = c.self.inside.names.items in
    let i = c.self.invariant in
    let e : c.drop_holes.new.names.items ≡ filter (is_named ss) es = rw c.as_slice.ensures.value at c.drop_holes.ensures.items in
    record {
      most = i.most;
      counted = rw (e, rows_of-filter ss es) i.counted;
      few = i.few;
      rise = rw e (NamesRise-filter (is_named ss) 0 _ es i.rise);
      placed = rw e (ArePlaced-filter (is_named ss) _ es i.placed);
      twice = rw e (omega (arith, length-filter_named ss es, i.counted, i.few));
      chained = i.chained;
      slots_room = i.slots_room;
      names_room = omega (arith, i.names_room, c.drop_holes.ensures.capacity);
      heads_most = i.heads_most;
      heads_room = i.heads_room;
    }

pub returns : goal.returns
returns c =
    let ss = c.self.inside.slots.items in
    let es = c.self.inside.names.items in
    let e : c.drop_holes.new.names.items ≡ filter (is_named ss) es = rw c.as_slice.ensures.value at c.drop_holes.ensures.items in
    let none : length (rows_of ss es) - length (rows_of ss es) ≡ 0 = omega arith in
    rw (e, rows_of-filter ss es, length-filter_named ss es, none, ← c.self.view_is) refl
