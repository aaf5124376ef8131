-- The driver's stage, and what the driver knows in it: where it stands, and that what the stage has is that of the open
-- cycle. What it has seen of the managed objects at the snapshot is the same until the cycle ends, since the dead part
-- is frozen; and so are the graph, the candidates and the components.
use Rattle.std.specs.Prelude.{◌≡◌, ℕ, Bool, false, List, [], length, Option, Some, None, IfSome}
use Rattle.joint_machine.specs.declared.names.Cycle.{Cycle}
use Rattle.joint_machine.specs.declared.names.Phase.{Phase}
use Rattle.joint_machine.specs.declared.names.Phase.TheVariants as at
use Rattle.joint_machine.specs.Control.{OpenSnap, Stand, idle, snapped, contracted, weakening, marked, restoring}
use Rattle.joint_machine.specs.Control.{restored}
use Rattle.joint_model.specs.Listed.{Answers, answers_of}
use Rattle.joint_machine.specs.Managed.{Managed, OpenCycle, candidates_of}
use Rattle.joint_laws.specs.ManagedInvariants.{ManagedInvariant}
use Rattle.bridge_graph.specs.Parts.{IsPart}
use Rattle.managed_heap.specs.declared.opening.Opened.{Opened as Snapshot}
use Rattle.managed_heap.specs.Graphs.{IsDeadGraph}
use Rattle.order_table.specs.declared.views.View.{View}
use Rattle.joint_history.specs.Driven.{DriverStands}
use Rattle.dead_parts.specs.Graphs.{AreCandidates, numbered_comps}
use Rattle.bridge_cycle.specs.declared.stages.Stage.{Stage}
use Rattle.bridge_cycle.specs.declared.stages.Stage.TheVariants as stage
use Rattle.bridge_cycle.specs.Progress.{Progress, line_of}

-- the phase of a stage
abbrev pub phase_of : Stage → Phase
phase_of stage.Idle = at.Idle
phase_of (stage.Snapped o) = at.Snapped
phase_of (stage.Contracted o l a) = at.Contracted
phase_of (stage.Mirrored o a) = at.Mirrored
phase_of (stage.Weakened o a) = at.Weakened
phase_of (stage.Marked o a) = at.Marked
phase_of (stage.Swept o a) = at.Swept
phase_of (stage.Restored o a clear) = at.Restored

-- the snapshot of a stage's cycle
abbrev pub snapshot_in : Stage → Option Snapshot
snapshot_in stage.Idle = None
snapshot_in (stage.Snapped o) = Some o
snapshot_in (stage.Contracted o l a) = Some o
snapshot_in (stage.Mirrored o a) = Some o
snapshot_in (stage.Weakened o a) = Some o
snapshot_in (stage.Marked o a) = Some o
snapshot_in (stage.Swept o a) = Some o
snapshot_in (stage.Restored o a clear) = Some o

-- what the driver keeps: what it knows, its stage, the cycle that it opened last, and how many candidates that one has
pub record Fields : Type 0 where
  pub view : View
  pub stage : Stage
  pub cycle : Cycle
  pub candidates : ℕ

-- what contracts see of it
abbrev pub shown : Fields → Progress
shown f = record { view = f.view; phase = phase_of f.stage; cycle = f.cycle; candidates = f.candidates }

-- the open cycle, as the history names it
abbrev pub cycle_of : Snapshot → OpenSnap
cycle_of o = record { cycle = o.cycle.0; snap = o.number }

-- the snapshot is that of the open cycle, which has so many candidates, and its graph is the dead part's
pub record IsOfCycle (k : Cycle) (n : ℕ) (seen : Managed) (o : Snapshot) : Type 0 where
  pub same : o.cycle ≡ k
  pub cycle : OpenCycle
  pub opened : seen.cycle ≡ Some cycle
  pub kept : ManagedInvariant seen
  pub graph : IsDeadGraph seen cycle.dead o.graph
  pub part : IsPart o.graph.nodes o.graph.edges
  pub count : length (candidates_of seen) ≡ n
  pub candidates : AreCandidates seen o.graph.nodes

-- there is room for so many answers
pub record HasRoom (n : ℕ) (a : Answers) : Type 0 where
  pub none : a.values ≡ []
  pub room : a.room ≡ n

-- where the driver stands in a stage, if so many candidates have their answers to come
abbrev pub IsAt : Stage → ℕ → Stand → Type 0
IsAt stage.Idle n stand = stand ≡ idle
IsAt (stage.Snapped o) n stand = stand ≡ snapped (cycle_of o)
IsAt (stage.Contracted o l a) n stand = HasRoom n a
    × ((heavy : List ℕ) × (length heavy ≡ l.heavy)
    × (stand ≡ contracted (cycle_of o) (numbered_comps o.graph l.comps) heavy l.pairs))
IsAt (stage.Mirrored o a) n stand = HasRoom n a × (stand ≡ weakening (cycle_of o) 0 false false)
IsAt (stage.Weakened o a) n stand = HasRoom n a
    × ((weakened : Bool) × (stand ≡ weakening (cycle_of o) n weakened false))
IsAt (stage.Marked o a) n stand = HasRoom n a × (stand ≡ marked (cycle_of o))
IsAt (stage.Swept o a) n stand = HasRoom n a × (stand ≡ restoring (cycle_of o) [])
IsAt (stage.Restored o a clear) n stand = stand ≡ restored (cycle_of o) (answers_of a.values) clear

-- so it is by what the driver knows
pub record KnowsItsStand (f : Fields) : Type 0 where
  pub stand : Stand
  pub seen : Managed
  pub stands : DriverStands f.view (line_of (shown f)) stand seen
  pub cycle : IfSome (snapshot_in f.stage) (λ o. IsOfCycle f.cycle f.candidates seen o)
  pub at : IsAt f.stage f.candidates stand
