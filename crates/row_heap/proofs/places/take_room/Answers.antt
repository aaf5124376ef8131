-- The slab's last reservation leaves its slots and its key.
use Rattle.std.proofs.Common.{◌<◌, ◌≤◌, vec_len, vec_capacity, ap, arith}
use Rattle.std.proofs.lemmas.Result.{on_ok_weaker}
use Rattle.slab.specs.Slab.{HasRoomFor}
use Rattle.joint_machine.proofs.Results.{at_value}
use Rattle.row_heap.proofs.places.take_room.Goals as goal

pub returns-clause-kept : goal.returns-clause-kept
returns-clause-kept c = (ap (λ s. s.slots) c.reserve-4.ensures.rest_kept, c.reserve.ensures.items, c.reserve-2.ensures.items, c.reserve-3.ensures.items)

pub returns-clause-room : goal.returns-clause-room
returns-clause-room c =
    let roomy : HasRoomFor c.reserve-4.new.self 1 → HasRoomFor c.reserve-4.new.self 1 × (vec_len c.reserve.new.self < vec_capacity c.reserve.new.self)
    × (vec_len c.reserve-2.new.self < vec_capacity c.reserve-2.new.self) × (vec_len c.reserve-3.new.self < vec_capacity c.reserve-3.new.self) =
    λ row. (row, omega (arith, c.in_ok-reserve.ensures.ok), omega (arith, c.in_ok-reserve-2.ensures.ok), omega (arith, c.in_ok-reserve-3.ensures.ok)) in
    on_ok_weaker _ roomy c.reserve-4.ensures.room

pub returns-clause-key : goal.returns-clause-key
returns-clause-key c =
    let key = ap (λ s. s.vacant_key) c.reserve-4.ensures.rest_kept in
    let fits : c.reserve-4.new.self.vacant_key ≤ 4294967295 = omega (arith, key, c.vacant_key.ensures.value, c.if-vacant_key.false) in
    at_value _ fits
