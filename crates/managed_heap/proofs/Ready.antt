-- A side that is ready has room for a snapshot.
use Rattle.std.proofs.Common.{◌≡◌, true, Option, Some, None, refl, sym, true≢false}
use Rattle.std.specs.Option.{is_some}
use Rattle.managed_heap.specs.declared.rooms.SnapRoom.{SnapRoom}

pub room_there : (room : Option SnapRoom) → is_some room ≡ true → (r : SnapRoom) × (room ≡ Some r)
room_there None ready = absurd (true≢false (sym ready))
room_there (Some r) ready = (r, refl)
