-- What crosses threads: each side may be sent to another thread, hence what is under its lock, and so a bridge shared
-- by locks may be seen by several threads.
use denote.RattleType.{RattleType}
use denote.Param.Send.{AllSend, AllSync, IsSend, IsSync, recorded_send, recorded_sync, sendable, struct_send, struct_sync, view_send}
use denote.Struct.Declared as fields
use Rattle.std.proofs.Crossing.{crosses}
use Rattle.std.specs.contracts.sync.Mutex as Mutex
use Rattle.joint_model.proofs.kept.Kept.TheSendSync.{the_send as kept}
use Rattle.joint_model.specs.contracts.lists.Entries as Entries
use Rattle.order_table.proofs.orders.Order.TheSendSync.{the_sync as order}
use Rattle.order_table.proofs.seats.Seat.TheSendSync.{the_send as seat}
use Rattle.order_table.specs.declared.seats.OrderName.{Ghosts}
use Rattle.bridge_graph.proofs.builder.GraphBuilder.TheSendSync.{the_send as builder}
use Rattle.finaliser_queue.proofs.Notices.TheSendSync.{the_send as notices}
use Rattle.instance_registry.proofs.Registry.TheSendSync.{the_send as registry}
use Rattle.global_handles.proofs.HandleTable.TheSendSync.{the_send as table}
use Rattle.row_heap.specs.contracts.places.Rows as Rows
use Rattle.managed_heap.proofs.rows.Header.TheSendSync.{the_send as held}
use Rattle.managed_heap.specs.contracts.rooms.Room as Room
use Rattle.managed_heap.specs.contracts.rooms.SnapRoom as SnapRoom
use Rattle.managed_heap.specs.contracts.rows.ManagedRows as ManagedRows
use Rattle.managed_heap.specs.contracts.side.ManagedSide as ManagedSide
use Rattle.managed_heap.specs.contracts.takings.Takings as Takings
use Rattle.peer_heap.proofs.mirroring.Mirroring.TheSendSync.{the_send as mirroring}
use Rattle.peer_heap.specs.contracts.rows.PeerRows as PeerRows
use Rattle.peer_heap.specs.contracts.side.OpenMarking as OpenMarking
use Rattle.peer_heap.specs.contracts.side.PeerSide as PeerSide
use Rattle.joint_history.specs.contracts.keeping.Locks as Locks
use Rattle.joint_history.specs.contracts.shared.Shared as Shared
use Rattle.joint_history.specs.contracts.steps.Locked as Locked
use Rattle.joint_history.specs.contracts.steps.Locked.TheInside as Inside
use Rattle.joint_history.specs.contracts.steps.ManagedSideSided.TheImpl as managed
use Rattle.joint_history.specs.contracts.steps.PeerSideSided.TheImpl as peers
use Rattle.joint_history.specs.declared.steps.Sided as sided

-- a caller's list of reads may be sent with it
pub entries : IsSend Entries.the_row
entries = search (sendable, crosses, kept) depth 60 fits 100000

heap_rows : IsSend Rows.the_row
heap_rows = search (sendable, crosses) depth 40 fits 100000

managed_rows : IsSend ManagedRows.the_row
managed_rows = search (sendable, crosses, heap_rows, notices, registry, held) depth 100 fits 100000

takings : IsSend Takings.the_row
takings = search (sendable, crosses) depth 60 fits 100000

rows_room : IsSend Room.the_row
rows_room = search (sendable, crosses, builder) depth 60 fits 100000

snap_room : IsSend SnapRoom.the_row
snap_room = search (sendable, crosses, rows_room) depth 60 fits 100000

managed_side : IsSend ManagedSide.the_row
managed_side = search (sendable, crosses, managed_rows, takings, entries, snap_room) depth 40 fits 100000

peer_rows : IsSend PeerRows.the_row
peer_rows = search (sendable, crosses, heap_rows, table) depth 100 fits 100000

open_marking : IsSend OpenMarking.the_row
open_marking = search (sendable, crosses) depth 60 fits 100000

peer_side : IsSend PeerSide.the_row
peer_side = search (sendable, crosses, peer_rows, mirroring, open_marking, entries) depth 60 fits 100000

-- for each order
module _ (N : RattleType) (g : Ghosts N.Denot) where
  -- a side under its lock
  module _ (S : RattleType) (k : sided.Ghosts S.Denot) (side : IsSend S) where
    inside_fields : AllSend (fields.shape (Inside.the_type N S g k)).fields
    inside_fields = search (sendable, crosses, seat) depth 40 fits 100000

    inside : IsSend (Inside.the_row N S g k)
    inside = recorded_send _ _ _ (Inside.the_type N S g k).to_one (struct_send (fields.shape (Inside.the_type N S g k)) inside_fields)

    locked : IsSend (Locked.the_row N S g k)
    locked = view_send _ _ _ _ _ inside

  abbrev pub managed_lock : RattleType
  managed_lock = Mutex.the_row (Locked.the_row N ManagedSide.the_row g managed.ghosts)

  abbrev pub peer_lock : RattleType
  peer_lock = Mutex.the_row (Locked.the_row N PeerSide.the_row g peers.ghosts)

  shared_fields : AllSync (fields.shape (Shared.the_type N Locks.the_row managed_lock peer_lock g)).fields
  shared_fields =
      let m : IsSend (Locked.the_row N ManagedSide.the_row g managed.ghosts) = locked ManagedSide.the_row managed.ghosts managed_side in
      let p : IsSend (Locked.the_row N PeerSide.the_row g peers.ghosts) = locked PeerSide.the_row peers.ghosts peer_side in
      search (sendable, crosses, order) depth 40 fits 100000

  -- two locks and an order
  pub shared : IsSync (Shared.the_row N Locks.the_row managed_lock peer_lock g)
  shared = recorded_sync _ _ _ (Shared.the_type N Locks.the_row managed_lock peer_lock g).to_one (struct_sync (fields.shape (Shared.the_type N Locks.the_row managed_lock peer_lock g)) shared_fields)
