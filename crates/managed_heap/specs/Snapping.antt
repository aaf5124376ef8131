-- What a snapshot does to the rows of a side.
use Rattle.std.specs.Prelude.{◌≡◌, ℕ, false, List, length, Option}
use Rattle.joint_machine.specs.Cycles.{IsSnapshot}
use Rattle.joint_machine.specs.Managed.{with_snapshot}
use Rattle.joint_machine.specs.ManagedReplay.{ManagedReplay}
use Rattle.joint_machine.specs.PinsTold.{with_pins}
use Rattle.bridge_graph.specs.Parts.{Part}
use Rattle.managed_heap.specs.Graphs.{IsDeadGraph}

-- the snapshot that opens the next cycle, with the pins that are given, the state after it, and what the caller is told
pub record TakesSnapshot (s next : ManagedReplay) (pins : List (Option ℕ))
    (freed : List ℕ) (number first count : ℕ) (graph : Part) : Type 0 where
  pub candidates : List ℕ
  pub dead : List ℕ
  pub snapshot : IsSnapshot (with_pins s pins).managed number freed candidates dead
  pub state : next ≡ record s { managed = with_snapshot s.managed freed candidates dead; contracted = false }
  pub before : first ≡ length s.managed.heap.freed
  pub counted : count ≡ length candidates
  pub pictured : IsDeadGraph next.managed dead graph
