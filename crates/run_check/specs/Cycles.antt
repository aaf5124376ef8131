-- What is kept of the open cycle, in the state of a linked history: the dead part's graph, which candidate is next, the
-- components that the contraction told, and what the restores have answered.
use Rattle.std.specs.Prelude.{◌≡◌, ℕ, ◌+◌, ◌<◌, ◌≤◌, List, [], length, drop, IsSome, Option, Some, None}
use Rattle.joint_machine.specs.Control as control
use Rattle.joint_machine.specs.Control.{Stand}
use Rattle.joint_machine.specs.Linked.{Linkage}
use Rattle.joint_model.specs.Listed.{answers_of}
use Rattle.joint_machine.specs.Managed.{OpenCycle}
use Rattle.joint_machine.specs.Told.{Answer}
use Rattle.joint_laws.specs.LinkedInvariants.{given_at}
use Rattle.bridge_graph.specs.declared.graph.Node.{Node}
use Rattle.bridge_graph.specs.Handles.{handles_of, handle_at}
use Rattle.bridge_graph.specs.Parts.{IsPart}
use Rattle.xref_list.specs.Listing.{IsListing, Listing}
use Rattle.managed_heap.specs.Graphs.{IsDeadGraph}
use Rattle.caller_turns.specs.Shapes.{next_place}
use Rattle.dead_parts.specs.Graphs.{numbered_comps}
use Rattle.run_check.specs.declared.cycles.OpenCycle.{OpenCycle as Kept}

-- the place is that of the bridge node behind so many others, or the end where there are no more
pub record IsAtHandle (nodes : List Node) (place n : ℕ) : Type 0 where
  pub within : place ≤ length nodes
  pub count : n ≤ length (handles_of nodes)
  pub rest : handles_of (drop place nodes) ≡ drop n (handles_of nodes)
  pub bridge : place < length nodes → IsSome (handle_at nodes place)

-- the components that were told with the contract entry are at hand
pub record HasListing (o : Kept) (comps : List (List ℕ)) (heavy : List ℕ) (xrefs : List (ℕ × ℕ)) : Type 0 where
  pub listing : Listing
  pub there : o.comps ≡ Some listing
  pub listed : IsListing listing.comps listing.heavy listing.pairs
  pub comps_same : comps ≡ numbered_comps o.graph listing.comps
  pub pairs_same : xrefs ≡ listing.pairs
  pub heavy_count : length heavy ≡ listing.heavy

-- the driver's cycle, and the components once they are told
abbrev pub HasCycle : Stand → Kept → Type 0
HasCycle control.idle o = ⊥
HasCycle (control.snapped s) o = o.cycle.0 ≡ s.cycle
HasCycle (control.contracted s comps heavy xrefs) o = (o.cycle.0 ≡ s.cycle) × HasListing o comps heavy xrefs
HasCycle (control.weakening s count weakened swept) o = o.cycle.0 ≡ s.cycle
HasCycle (control.marked s) o = o.cycle.0 ≡ s.cycle
HasCycle (control.restoring s answers) o = o.cycle.0 ≡ s.cycle
HasCycle (control.restored s answers clear) o = o.cycle.0 ≡ s.cycle

-- what is kept is of the open cycle
pub record IsOpenHere (s : Linkage) (o : Kept) : Type 0 where
  pub cycle : OpenCycle
  pub opened : s.managed.managed.cycle ≡ Some cycle
  pub graph : IsDeadGraph s.managed.managed cycle.dead o.graph
  pub part : IsPart o.graph.nodes o.graph.edges
  pub count : o.candidates ≡ length cycle.candidates
  pub stands : HasCycle s.control.stand o
  pub next : IsAtHandle o.graph.nodes o.place (next_place s.control.stand)
  pub given : answers_of o.alive.values ≡ given_at s.control.stand
  pub room : o.alive.room + length o.alive.values ≡ o.candidates

-- so it is where something is kept; and else no cycle is open
abbrev pub CycleFollows : Linkage → Option Kept → Type 0
CycleFollows s None = s.control.stand ≡ control.idle
CycleFollows s (Some o) = IsOpenHere s o
