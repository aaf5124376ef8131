use mir.Syntax.{named}
use denote.Param.{param}
use denote.Param.Send.{sendable, shr_sync}
use Rattle.std.proofs.Common.{[], sym, subst}
use Rattle.std.proofs.Crossing.{crosses, sync as heap}
use Rattle.std.proofs.lemmas.List.Elements.{All-get_or}
use Rattle.order_table.proofs.seats.Seat.TheSendSync.{the_send as seat}
use Rattle.joint_history.proofs.Crosses.{entries, shared}
use Rattle.weak_reads.specs.Racing.{IsReady}
use Rattle.weak_reads.proofs.plan.Race.TheSendSync.{the_sync as race}
use Rattle.weak_reads.proofs.race.run_all.Goals as goal

-- the closure holds the runtime, the allocator, the shared bridge and the race, each by a reference
pub map_vec-requires-sync-F : goal.map_vec-requires-sync-F
map_vec-requires-sync-F g c κs within = record {
  shared = λ x b o ν. (
    (
      (shr_sync (named 0) _ _ c.type_bounds.sync-R).shared x.0 b o ν,
      (
        (shr_sync (named 0) [] _ heap).shared x.1 b o ν,
        ((shr_sync (named 0) _ _ (shared (param 0 g.row.N) g.N.OrderName)).shared x.2 b o ν, ((shr_sync (named 0) _ _ race).shared x.3 b o ν, tt)),
      ),
    ),
    λ q. tt,
  );
}

pub map_vec-requires-send-J : goal.map_vec-requires-send-J
map_vec-requires-send-J g c κs within = search (sendable, crosses, entries, seat) depth 60 fits 100000

pub map_vec-requires-send-X : goal.map_vec-requires-send-X
map_vec-requires-send-X g c κs within = search (sendable, crosses, entries, seat) depth 60 fits 100000

pub map_vec-requires-after_bounds : goal.map_vec-requires-after_bounds
map_vec-requires-after_bounds g c κs within = λ i x l e. subst IsReady (sym e) (All-get_or IsReady c.args.jobs.items i x l c.requires)
