-- The handles of a graph's bridge nodes, weakened or restored one after another: an entry of the driver for each, under
-- a hold of the peer lock of its own.
use Rattle.std.specs.Prelude.{◌≡◌, ℕ, Bool, false, List, [], Option, length}
use Rattle.joint_machine.specs.declared.names.Cycle.{Cycle}
use Rattle.joint_machine.specs.declared.names.HNum.{HNum}
use Rattle.joint_machine.specs.declared.names.PhaseWord.{PhaseWord}
use Rattle.joint_machine.specs.declared.names.PhaseWord.TheVariants as word
use Rattle.joint_machine.specs.declared.names.Thread.TheVariants.{C}
use Rattle.joint_machine.specs.declared.events.Entry.{Entry}
use Rattle.joint_machine.specs.declared.events.Reply.TheVariants as says
use Rattle.joint_machine.specs.Control.{OpenSnap, weakening, restoring}
use Rattle.joint_model.specs.Listed.{answers_of}
use Rattle.joint_machine.specs.Managed.{Managed}
use Rattle.joint_machine.specs.Phases.{AreTimes, candidates_after}
use Rattle.bridge_graph.specs.declared.graph.Node.{Node}
use Rattle.order_table.specs.declared.views.View.{View}
use Rattle.joint_history.specs.Driven.{DriverStands}
use Rattle.joint_history.specs.Operations.{MakesAll}
use Rattle.dead_parts.specs.Graphs.{AreCandidates}
use Rattle.bridge_cycle.specs.Progress.{AreDriversOnLine, cycle_after, last_reply}

-- the driver made so many entries of a phase, which open no cycle and count no candidates
pub record MakesTimes (old new : View) (index : ℕ) (w : PhaseWord) (n : ℕ) (entries : List Entry) : Type 0 where
  pub made : MakesAll C old new entries
  pub places : AreDriversOnLine index entries
  pub times : AreTimes w n entries
  pub cycle : (k : Cycle) → cycle_after k entries ≡ k
  pub candidates : (c : ℕ) → candidates_after c entries ≡ c

-- no handle of the driver's cycle is weakened yet
pub record MayWeakenAll (v : View) (index snap : ℕ) (nodes : List Node) : Type 0 where
  pub opened : OpenSnap
  pub weakened : Bool
  pub seen : Managed
  pub stands : DriverStands v index (weakening opened 0 weakened false) seen
  pub candidates : AreCandidates seen nodes
  pub same : opened.snap ≡ snap

-- so many handles are weakened
pub record Weakens (old new : View) (index n : ℕ) (o : OpenSnap) (m : Managed) : Type 0 where
  pub entries : List Entry
  pub makes : MakesTimes old new index word.Weaken n entries
  pub last : last_reply entries ≡ says.Ok
  pub weakened : Bool
  pub stands : DriverStands new index (weakening o n weakened false) m

abbrev pub WeakensAll : View → View → ℕ → ℕ → List Node → List HNum → Type 0
WeakensAll old new index snap nodes hs = (o : OpenSnap) (weakened : Bool) (m : Managed)
    → DriverStands old index (weakening o 0 weakened false) m
    → AreCandidates m nodes → o.snap ≡ snap → Weakens old new index (length hs) o m

-- no handle of the driver's cycle is restored yet
pub record MayRestoreAll (v : View) (index : ℕ) (nodes : List Node) : Type 0 where
  pub opened : OpenSnap
  pub seen : Managed
  pub stands : DriverStands v index (restoring opened []) seen
  pub candidates : AreCandidates seen nodes

-- so many handles are restored, with these answers
pub record Restores (old new : View) (index n : ℕ)
    (values : List (Option HNum)) (o : OpenSnap) (m : Managed) : Type 0 where
  pub entries : List Entry
  pub makes : MakesTimes old new index word.Restore n entries
  pub count : length values ≡ n
  pub stands : DriverStands new index (restoring o (answers_of values)) m

abbrev pub RestoresAll : View → View → ℕ → List Node → List HNum → List (Option HNum) → Type 0
RestoresAll old new index nodes hs values = (o : OpenSnap) (m : Managed)
    → DriverStands old index (restoring o []) m → AreCandidates m nodes → Restores old new index (length hs) values o m
