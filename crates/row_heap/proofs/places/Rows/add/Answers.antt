-- The key was vacant, so no place of the index has it.
use Rattle.std.proofs.Common.{◌∙◌, arith}
use Rattle.row_heap.proofs.Marked.{kept-are, kept-rows, leaf-are, leaf-rows, pushed-are, pushed-rows}
use Rattle.joint_machine.proofs.Results.{at_error}
use Rattle.row_heap.proofs.places.Rows.add.Goals as goal

pub invariant_of-self : goal.invariant_of-self
invariant_of-self c = kept-are c.self.inside.slab c.take_room.new.slab _ _ _ _ _ _ c.take_room.ensures.kept.0
    c.take_room.ensures.kept.1 c.take_room.ensures.kept.2 c.take_room.ensures.kept.3 c.self.invariant

pub invariant_of-self-in_err-fields : goal.invariant_of-self-in_err-fields
invariant_of-self-in_err-fields c = kept-are c.self.inside.slab c.take_room.new.slab _ _ _ _ _ _ c.take_room.ensures.kept.0
    c.take_room.ensures.kept.1 c.take_room.ensures.kept.2 c.take_room.ensures.kept.3 c.self.invariant

pub returns-in_err-take_room-clause-err : goal.returns-in_err-take_room-clause-err
returns-in_err-take_room-clause-err c = at_error _ (kept-rows c.self.inside.slab c.take_room.new.slab _ _ _ _ _ _
    c.take_room.ensures.kept.0 c.take_room.ensures.kept.1 c.take_room.ensures.kept.2 c.take_room.ensures.kept.3 ∙ c.self.view_is)

pub returns-in_err-fields-clause-err : goal.returns-in_err-fields-clause-err
returns-in_err-fields-clause-err c = at_error _ (kept-rows c.self.inside.slab c.take_room.new.slab _ _ _ _ _ _
    c.take_room.ensures.kept.0 c.take_room.ensures.kept.1 c.take_room.ensures.kept.2 c.take_room.ensures.kept.3 ∙ c.self.view_is)

pub invariant_of-self-then-fields-eq0 : goal.invariant_of-self-then-fields-eq0
invariant_of-self-then-fields-eq0 c =
    let are = kept-are c.self.inside.slab c.take_room.new.slab _ c.take_room.new.places.items _ c.take_room.new.marks.items _ c.take_room.new.links.items
    c.take_room.ensures.kept.0 c.take_room.ensures.kept.1 c.take_room.ensures.kept.2 c.take_room.ensures.kept.3 c.self.invariant in
    rw (c.push_place.ensures.places, c.push_place.ensures.marks, c.push_place.ensures.links) (leaf-are _ _ _ _ are)

pub returns-then-fields-eq0-clause-ok : goal.returns-then-fields-eq0-clause-ok
returns-then-fields-eq0-clause-ok c =
    let new = c.take_room.new in
    let are = kept-are c.self.inside.slab new.slab _ new.places.items _ new.marks.items _ new.links.items
    c.take_room.ensures.kept.0 c.take_room.ensures.kept.1 c.take_room.ensures.kept.2 c.take_room.ensures.kept.3 c.self.invariant in
    let rows = kept-rows c.self.inside.slab new.slab _ new.places.items _ new.marks.items _ new.links.items
    c.take_room.ensures.kept.0 c.take_room.ensures.kept.1 c.take_room.ensures.kept.2 c.take_room.ensures.kept.3 ∙ c.self.view_is in
    rw (c.push_place.ensures.places, c.push_place.ensures.marks, c.push_place.ensures.links, c.if-fields-eq0.true)
    (leaf-rows _ _ _ _ _ rows are)

pub invariant_of-self-2 : goal.invariant_of-self-2
invariant_of-self-2 c =
    let are = kept-are c.self.inside.slab c.take_room.new.slab _ c.take_room.new.places.items _ c.take_room.new.marks.items _ c.take_room.new.links.items
    c.take_room.ensures.kept.0 c.take_room.ensures.kept.1 c.take_room.ensures.kept.2 c.take_room.ensures.kept.3 c.self.invariant in
    rw (c.push_place-2.ensures.places, c.push_place-2.ensures.marks, c.push_place-2.ensures.links)
    (pushed-are _ _ _ _ _ _ _ are c.insert_reserved-key.ensures.was_vacant c.insert_reserved-key.ensures.updates)

pub returns-clause-ok : goal.returns-clause-ok
returns-clause-ok c =
    let new = c.take_room.new in
    let are = kept-are c.self.inside.slab new.slab _ new.places.items _ new.marks.items _ new.links.items
    c.take_room.ensures.kept.0 c.take_room.ensures.kept.1 c.take_room.ensures.kept.2 c.take_room.ensures.kept.3 c.self.invariant in
    let rows = kept-rows c.self.inside.slab new.slab _ new.places.items _ new.marks.items _ new.links.items
    c.take_room.ensures.kept.0 c.take_room.ensures.kept.1 c.take_room.ensures.kept.2 c.take_room.ensures.kept.3 ∙ c.self.view_is in
    rw (c.push_place-2.ensures.places, c.push_place-2.ensures.marks, c.push_place-2.ensures.links, ← c.in_ok-fields.ensures.ok)
    (pushed-rows _ _ _ _ _ _ _ _ rows are c.insert_reserved-key.ensures.was_vacant c.insert_reserved-key.ensures.updates)

pub insert_reserved-key-requires : goal.insert_reserved-key-requires
insert_reserved-key-requires c = c.in_ok-take_room.ensures.room.0

pub overflow_cast-key : goal.overflow_cast-key
overflow_cast-key c = omega (arith, c.in_ok-take_room.ensures.key, c.insert_reserved-key.ensures.key)

pub push_place-requires-clause-places : goal.push_place-requires-clause-places
push_place-requires-clause-places c = c.in_ok-take_room.ensures.room.1

pub push_place-requires-clause-marks : goal.push_place-requires-clause-marks
push_place-requires-clause-marks c = c.in_ok-take_room.ensures.room.2

pub push_place-requires-clause-links : goal.push_place-requires-clause-links
push_place-requires-clause-links c = c.in_ok-take_room.ensures.room.3
