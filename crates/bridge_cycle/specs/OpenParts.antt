-- The open cycle's dead part, as the driver has it: a graph that stays the same until the cycle ends.
use Rattle.std.specs.Prelude.{◌≡◌, Some}
use Rattle.joint_machine.specs.declared.names.Cycle.{Cycle}
use Rattle.joint_machine.specs.Control.{OpenSnap}
use Rattle.joint_machine.specs.Managed.{Managed, OpenCycle}
use Rattle.joint_laws.specs.ManagedInvariants.{ManagedInvariant}
use Rattle.known_laws.specs.Facts.{opened_of}
use Rattle.known_laws.specs.Pasts.{HasSameDeadPart, end_of}
use Rattle.bridge_graph.specs.Parts.{IsPart, Part}
use Rattle.managed_heap.specs.Graphs.{IsDeadGraph}
use Rattle.order_table.specs.declared.views.View.{View}
use Rattle.view_laws.specs.Knowing.{IsDrawnView}

-- by what the view knows the driver has that cycle open, and the graph is that of the cycle's dead part: of managed
-- objects that have the same dead part as those after all that the view knows
pub record IsOpenPart (v : View) (k : Cycle) (g : Part) : Type 0 where
  pub known : IsDrawnView v
  pub opened : OpenSnap
  pub driven : opened_of (end_of known.known.past).control.stand ≡ Some opened
  pub number : opened.cycle ≡ k.0
  pub seen : Managed
  pub kept : ManagedInvariant seen
  pub same : HasSameDeadPart seen (end_of known.known.past).managed.managed
  pub cycle : OpenCycle
  pub open_cycle : seen.cycle ≡ Some cycle
  pub graph : IsDeadGraph seen cycle.dead g
  pub part : IsPart g.nodes g.edges
