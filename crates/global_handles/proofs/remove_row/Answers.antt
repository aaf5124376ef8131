use Rattle.std.proofs.Common.{length, None, refl, sym, eq-eqb, arith}
use Rattle.std.proofs.lemmas.Option.{slice_get_read}
use Rattle.global_handles.specs.Slots.{head_in}
use Rattle.global_handles.proofs.Chains.{IsChained-emptied, IsChained-without, head-within, length-with_next, length-with_row, length-without_slots, links-within, opens-own, rows_of-without_slots}
use Rattle.global_handles.proofs.remove_row.Goals as goal
use Rattle.joint_machine.proofs.Deciding.{neq-eqb}

pub returns-then-not-is_open-clause-chained : goal.returns-then-not-is_open-clause-chained
returns-then-not-is_open-clause-chained c =
    let all = c.args.slots.now.items in
    let there = slice_get_read all (length all) c.args.place c.index-slot.result.now refl (omega arith) c.index-slot.ensures in
    rw c.set_row.ensures.items (IsChained-emptied all c.args.place c.index-slot.result.now _ there (sym c.if-not-is_open.ensures) c.requires.chained)

pub returns-then-not-is_open-clause-len : goal.returns-then-not-is_open-clause-len
returns-then-not-is_open-clause-len c = rw c.set_row.ensures.items (length-with_row c.args.slots.now.items c.args.place None)

pub set_next-requires : goal.set_next-requires
set_next-requires c =
    let all = c.args.slots.now.items in
    let there = slice_get_read all (length all) c.args.place c.index-slot.result.now refl (omega arith) c.index-slot.ensures in
    let own = opens-own c.index-slot.result.now (sym c.if-not-is_open.ensures) in
    rw (c.set_row.ensures.items, length-with_row all c.args.place None) (links-within all c.args.place c.index-slot.result.now _ _ c.requires.chained there own).0

pub set_previous-requires : goal.set_previous-requires
set_previous-requires c =
    let all = c.args.slots.now.items in
    let there = slice_get_read all (length all) c.args.place c.index-slot.result.now refl (omega arith) c.index-slot.ensures in
    let own = opens-own c.index-slot.result.now (sym c.if-not-is_open.ensures) in
    rw (c.set_next.ensures.items, c.set_row.ensures.items, length-with_next, length-with_row all c.args.place None)
    (links-within all c.args.place c.index-slot.result.now _ _ c.requires.chained there own).1

pub set_head-requires : goal.set_head-requires
set_head-requires c =
    let all = c.args.slots.now.items in
    let there = slice_get_read all (length all) c.args.place c.index-slot.result.now refl (omega arith) c.index-slot.ensures in
    let own = opens-own c.index-slot.result.now (sym c.if-not-is_open.ensures) in
    head-within c.args.heads.now.items c.index-slot.result.now.peer ((links-within all c.args.place c.index-slot.result.now _ _ c.requires.chained there own).2 c.if-slot-eq0.true)

pub returns-then-slot-eq0-clause-chained : goal.returns-then-slot-eq0-clause-chained
returns-then-slot-eq0-clause-chained c =
    let all = c.args.slots.now.items in
    let i = c.args.place in
    let slot = c.index-slot.result.now in
    let there = slice_get_read all (length all) i slot refl (omega arith) c.index-slot.ensures in
    let own = opens-own slot (sym c.if-not-is_open.ensures) in
    rw (c.set_previous.ensures.items, c.set_next.ensures.items, c.set_row.ensures.items)
    (IsChained-without all i slot slot.peer (head_in c.args.heads.now.items) (head_in c.set_head.new.heads.items) there own
    (λ q. rw (eq-eqb slot.previous 0 c.if-slot-eq0.true) (c.set_head.ensures.head q)) c.requires.chained)

pub returns-else-slot-eq0-clause-chained : goal.returns-else-slot-eq0-clause-chained
returns-else-slot-eq0-clause-chained c =
    let all = c.args.slots.now.items in
    let i = c.args.place in
    let slot = c.index-slot.result.now in
    let there = slice_get_read all (length all) i slot refl (omega arith) c.index-slot.ensures in
    let own = opens-own slot (sym c.if-not-is_open.ensures) in
    rw (c.set_previous.ensures.items, c.set_next.ensures.items, c.set_row.ensures.items)
    (IsChained-without all i slot slot.peer (head_in c.args.heads.now.items) (head_in c.args.heads.now.items) there own (λ q. rw (neq-eqb slot.previous 0 (omega arith)) refl) c.requires.chained)

pub returns-then-slot-eq0-clause-rows : goal.returns-then-slot-eq0-clause-rows
returns-then-slot-eq0-clause-rows c = λ names. rw (c.set_previous.ensures.items, c.set_next.ensures.items, c.set_row.ensures.items)
    (rows_of-without_slots c.args.slots.now.items names c.args.place c.index-slot.result.now)

pub returns-else-slot-eq0-clause-rows : goal.returns-else-slot-eq0-clause-rows
returns-else-slot-eq0-clause-rows c = λ names. rw (c.set_previous.ensures.items, c.set_next.ensures.items, c.set_row.ensures.items)
    (rows_of-without_slots c.args.slots.now.items names c.args.place c.index-slot.result.now)

pub returns-then-slot-eq0-clause-len : goal.returns-then-slot-eq0-clause-len
returns-then-slot-eq0-clause-len c = rw (c.set_previous.ensures.items, c.set_next.ensures.items, c.set_row.ensures.items)
    (length-without_slots c.args.slots.now.items c.args.place c.index-slot.result.now)

pub returns-else-slot-eq0-clause-len : goal.returns-else-slot-eq0-clause-len
returns-else-slot-eq0-clause-len c = rw (c.set_previous.ensures.items, c.set_next.ensures.items, c.set_row.ensures.items)
    (length-without_slots c.args.slots.now.items c.args.place c.index-slot.result.now)
