-- The driver's marking under the peer lock: a marking that a peer thread left open is ended first, and then the cycle's
-- own begins; later the driver ends that one.
use Rattle.std.specs.Prelude.{◌≡◌, ℕ, Bool, true, false, List, [], length, Option, Some, None}
use Rattle.joint_machine.specs.declared.names.Marking.{Marking}
use Rattle.joint_machine.specs.declared.names.Thread.TheVariants.{C}
use Rattle.joint_machine.specs.declared.events.Op.TheVariants as op
use Rattle.joint_machine.specs.declared.events.Reply.TheVariants as says
use Rattle.joint_machine.specs.Control.{OpenSnap, Stand, weakening, marked, restoring, DriverAllows}
use Rattle.joint_machine.specs.Managed.{Managed, candidates_of}
use Rattle.joint_machine.specs.PeerReplay.{PeerReplay}
use Rattle.joint_machine.specs.Sides.{Side, peer_rules}
use Rattle.joint_machine.specs.Told.{nothing, sweep_of}
use Rattle.peer_heap.specs.declared.side.Swept.{Swept}
use Rattle.peer_heap.specs.Sides.{PeerModel, is_own, reserve_begun, seen}
use Rattle.order_table.specs.declared.views.View.{View}
use Rattle.order_table.specs.Views.{OrderId, Shown}
use Rattle.joint_history.specs.declared.marks.Begun.{Begun}
use Rattle.joint_history.specs.Driven.{DriverMakes, DriverMakesNone, DriverStands, driver_entry}
use Rattle.joint_history.specs.Locked.{Drew}

-- the side's open marking was ended by the driver: one entry, which tells the peers that were freed
pub record DrawsSweep (order : OrderId) (seat seat' : Shown)
    (side side' : Side PeerReplay) (index n : ℕ) (out : Swept) : Type 0 where
  pub freed : List ℕ
  pub drew : Drew peer_rules 1 order seat seat' side side'
      (driver_entry n index op.Sweep (says.Swept out.marking out.freed) None) (sweep_of freed)

-- so it was of the whole side, or none was open and nothing was done
abbrev pub DrawsEnd : OrderId → Shown → Shown → PeerModel → PeerModel → ℕ → Option (ℕ × Swept) → Type 0
DrawsEnd order seat seat' side side' index None = (seat' ≡ seat) × (side' ≡ side)
DrawsEnd order seat seat' side side' index (Some r) = (side'.threads ≡ side.threads)
    × (side'.reserve ≡ side.reserve) × DrawsSweep order seat seat' (seen side) (seen side') index r.0 r.1

-- the driver's own marking was begun, after one that was open was ended
pub record DrawsMark (order : OrderId) (seat seat' : Shown)
    (side side' : PeerModel) (index : ℕ) (begun : Begun) : Type 0 where
  pub between : Shown
  pub cleared : PeerModel
  pub ends : DrawsEnd order seat between side cleared index begun.ended
  pub begins : Drew peer_rules 1 order between seat' (seen cleared) (seen side')
      (driver_entry begun.number index op.Begin (says.Mark begun.marking) None) nothing
  pub reserve : side'.reserve ≡ reserve_begun (is_own C cleared.reserve.marking) cleared.reserve
  pub threads : side'.threads ≡ cleared.threads

-- the cycle's own marking is begun
pub record HasBegunMarking (v : View) (index : ℕ) : Type 0 where
  pub opened : OpenSnap
  pub seen : Managed
  pub stands : DriverStands v index (marked opened) seen

-- where the driver stands after it has ended a marking
abbrev pub after_sweep : Stand → Stand
after_sweep (weakening o count weakened swept) = weakening o count true true
after_sweep (marked o) = restoring o []
after_sweep stand = stand

-- the driver ended a marking, which freed so many peers
pub record DriverEndsMarking (old new : View) (index n : ℕ) (out : Swept) (stand : Stand) (m : Managed) : Type 0 where
  pub freed : List ℕ
  pub count : out.freed.count ≡ length freed
  pub makes : DriverMakes old new stand m
      (driver_entry n index op.Sweep (says.Swept out.marking out.freed) None) (sweep_of freed)
  pub stands : DriverStands new index (after_sweep stand) m

-- so it is from wherever the driver might end one, which goes by nothing that was issued or is told
abbrev pub MakesSweep : View → View → ℕ → ℕ → Swept → Type 0
MakesSweep old new index n out = (stand : Stand) (m : Managed) → DriverStands old index stand m
    → DriverAllows stand m [] op.Sweep (says.Swept out.marking out.freed) None nothing
    → DriverEndsMarking old new index n out stand m

-- all handles of the driver's cycle are weakened, and no marking was begun or ended in it
pub record MayMarkCycle (v : View) (index : ℕ) : Type 0 where
  pub opened : OpenSnap
  pub count : ℕ
  pub weakened : Bool
  pub seen : Managed
  pub stands : DriverStands v index (weakening opened count weakened false) seen
  pub all : count ≡ length (candidates_of seen)

-- the driver began its cycle's own marking, which has that number
pub record DriverBeginsMarking (old new : View) (index n : ℕ)
    (j : Marking) (stand : Stand) (o : OpenSnap) (m : Managed) : Type 0 where
  pub makes : DriverMakes old new stand m (driver_entry n index op.Begin (says.Mark j) None) nothing
  pub stands : DriverStands new index (marked o) m

-- so it is from wherever the driver might begin it
abbrev pub MakesBegin : View → View → ℕ → ℕ → Marking → Type 0
MakesBegin old new index n j = (o : OpenSnap) (count : ℕ) (weakened swept : Bool) (m : Managed)
    → DriverStands old index (weakening o count weakened swept) m → count ≡ length (candidates_of m)
    → DriverBeginsMarking old new index n j (weakening o count weakened swept) o m

-- the driver ended a marking that was open, or there was none and it made nothing
abbrev pub EndsFirst : View → View → ℕ → Option (ℕ × Swept) → Type 0
EndsFirst old new index None = DriverMakesNone old new
EndsFirst old new index (Some r) = MakesSweep old new index r.0 r.1

-- the driver began its cycle's own marking, after it had ended one that was open
pub record MakesMark (old new : View) (index : ℕ) (out : Begun) : Type 0 where
  pub between : View
  pub ends : EndsFirst old between index out.ended
  pub begins : MakesBegin between new index out.number out.marking
