use mir.Syntax.{named}
use denote.Param.{param}
use denote.Param.Send.{sendable, shr_sync}
use Rattle.std.proofs.Common.{[]}
use Rattle.std.proofs.Crossing.{crosses, sync as heap}
use Rattle.order_table.proofs.seats.Seat.TheSendSync.{the_send as seat}
use Rattle.joint_history.proofs.Crosses.{entries, shared}
use Rattle.shared_tests.proofs.readers.Plan.TheSendSync.{the_sync as plan}
use Rattle.shared_tests.proofs.readers.make_jobs.Goals as goal

-- the closure holds the runtime, the allocator, the shared bridge and the plan, each by a reference
pub map_vec-requires-sync-F : goal.map_vec-requires-sync-F
map_vec-requires-sync-F g c κs within = record {
  shared = λ x b o ν. (
    (
      (shr_sync (named 0) _ _ c.type_bounds.sync-R).shared x.0 b o ν,
      (
        (shr_sync (named 0) [] _ heap).shared x.1 b o ν,
        (
          (shr_sync (named 0) _ _ (shared (param 0 g.row.N) g.N.OrderName)).shared x.2 b o ν,
          ((shr_sync (named 0) _ _ plan).shared x.3 b o ν, tt),
        ),
      ),
    ),
    λ q. tt,
  );
}

pub map_vec-requires-send-J : goal.map_vec-requires-send-J
map_vec-requires-send-J g c κs within = search (sendable, crosses, entries, seat) depth 60 fits 100000

pub map_vec-requires-send-X : goal.map_vec-requires-send-X
map_vec-requires-send-X g c κs within = search (sendable, crosses, entries, seat) depth 60 fits 100000
