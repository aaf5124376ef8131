-- Each list has room, and holds what it held.
use Rattle.std.proofs.Common.{◌≤◌, ◌+◌, vec_len, vec_capacity}
use Rattle.std.proofs.lemmas.Result.{on_ok_weaker}
use Rattle.xref_list.proofs.components.take_room.Goals as goal

pub returns-clause-kept : goal.returns-clause-kept
returns-clause-kept c = (c.reserve.ensures.items, c.reserve-2.ensures.items, c.reserve-3.ensures.items)

pub returns-clause-room : goal.returns-clause-room
returns-clause-room c =
    let roomy : vec_len c.reserve-3.new.self + c.args.more ≤ vec_capacity c.reserve-3.new.self
    → (vec_len c.reserve.new.self + c.args.comps ≤ vec_capacity c.reserve.new.self) × (vec_len c.reserve-2.new.self + c.args.more ≤ vec_capacity c.reserve-2.new.self)
    × (vec_len c.reserve-3.new.self + c.args.more ≤ vec_capacity c.reserve-3.new.self) =
    λ last. (c.in_ok-reserve.ensures.ok, c.in_ok-reserve-2.ensures.ok, last) in
    on_ok_weaker _ roomy c.reserve-3.ensures.ok
