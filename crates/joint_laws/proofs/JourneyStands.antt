-- What is known of the run at each of the driver's stands: nothing where it is idle; the snapshot's place and what was
-- seen since, before the own sweep; in the marking what that has seen too; and behind the sweep what that freed.
use Rattle.std.proofs.Common.{◌≡◌, List, [], ◌∷◌, ◌++◌, length, Some, ◌∙◌}
use Rattle.joint_machine.specs.Control.{OpenSnap, Stand, idle, snapped, contracted, weakening, marked, restoring, restored}
use Rattle.joint_machine.specs.Linked.{Linkage, MayCome, linkage_after}
use Rattle.joint_machine.specs.Managed.{OpenCycle}
use Rattle.joint_machine.specs.PeerReplay.{Marking}
use Rattle.joint_machine.specs.Run.{Moment}
use Rattle.joint_machine.specs.Told.{Noted}
use Rattle.joint_laws.proofs.AfterSweeps.{swept-rests, swept-moves}
use Rattle.joint_laws.proofs.Journeys.{IsOnTheWay, IsBehindSweep, goes-open}
use Rattle.joint_laws.proofs.JointRuns.{Stands}
use Rattle.joint_laws.proofs.MarkWatching.{IsMarkWatched}
use Rattle.joint_laws.proofs.Watching.{at-more}

-- in the own marking
pub record IsUnderWay (past : List Moment) (s : Linkage) (w : Stands s) (o : OpenSnap) : Type 0 where
  pub way : IsOnTheWay past s w o
  pub own : Marking
  pub open_mark : s.peer.marking ≡ Some own
  pub watched : IsMarkWatched past way.snap way.cycle s own
  pub vars : length s.peer.peers.heap.vars ≡ 72
  pub statics : length s.peer.peers.heap.statics ≡ 16

abbrev pub Journey : (past : List Moment) (s : Linkage) → Stands s → Stand → Type 0
Journey past s w idle = Unit {0}
Journey past s w (snapped o) = IsOnTheWay past s w o
Journey past s w (contracted o comps heavy xrefs) = IsOnTheWay past s w o
Journey past s w (weakening o count weakened swept) = IsOnTheWay past s w o
Journey past s w (marked o) = IsUnderWay past s w o
Journey past s w (restoring o answers) = IsBehindSweep past s o
Journey past s w (restored o answers clear) = IsBehindSweep past s o

-- behind the sweep, at a step of the joint machine and at an entry that is none
pub behind-next : (s : Linkage) (n : Noted) (may : MayCome s n) (w : Stands s) (v : Stands (linkage_after s n)) (past : List Moment) (o : OpenSnap) (m : Moment) (e : OpenCycle)
    → (linkage_after s n).managed.managed.cycle ≡ Some e → IsBehindSweep past s o → IsBehindSweep (past ++ m ∷ []) (linkage_after s n) o
behind-next s n may w v past o m e q k =
    let g = goes-open s n may w k.cycle e k.open_now q in
    record {
      snap = k.snap;
      freed = k.freed;
      cycle = k.cycle;
      open_now = g.cycle ∙ k.open_now;
      snaps = at-more past (m ∷ []) k.snap k.snaps;
      swept = swept-moves s n w v g k.cycle k.open_now past k.snap m k.swept;
    }

pub behind-rests : (s : Linkage) (n : Noted) (may : MayCome s n) (w : Stands s) (v : Stands (linkage_after s n)) (past : List Moment) (o : OpenSnap) (e : OpenCycle)
    → (linkage_after s n).managed.managed.cycle ≡ Some e → IsBehindSweep past s o → IsBehindSweep past (linkage_after s n) o
behind-rests s n may w v past o e q k =
    let g = goes-open s n may w k.cycle e k.open_now q in
    record {
      snap = k.snap;
      freed = k.freed;
      cycle = k.cycle;
      open_now = g.cycle ∙ k.open_now;
      snaps = k.snaps;
      swept = swept-rests s n w v g k.cycle k.open_now past k.snap k.swept;
    }
