-- The dead part of an open cycle by its graph: the nodes are read through their managed numbers, the bridge nodes are
-- the candidates, and the contraction of the graph is that of the dead part.
use Rattle.std.specs.Prelude.{◌≡◌, ℕ, List, length, map, slice_get, slice_index, Some}
use Rattle.joint_machine.specs.declared.names.HNum.{HNum}
use Rattle.joint_machine.specs.Components.{IsContraction}
use Rattle.joint_machine.specs.Control.{IsCandidateHandle}
use Rattle.joint_machine.specs.Cycles.{IsDeadContraction}
use Rattle.joint_machine.specs.Managed.{Managed, candidates_of}
use Rattle.joint_laws.specs.ManagedInvariants.{ManagedInvariant}
use Rattle.bridge_graph.specs.declared.graph.Node.{Node}
use Rattle.bridge_graph.specs.Handles.{handles_of}
use Rattle.bridge_graph.specs.Parts.{Part, IsBridgeNode, IsPart, NodeLeads, numbers_of}
use Rattle.managed_heap.specs.Graphs.{IsDeadGraph}

-- the managed number of the node with that index; 0 past the last node
abbrev pub number_at : Part → ℕ → ℕ
number_at g i = slice_index (numbers_of g.nodes) i

-- components of nodes, by the nodes' managed numbers
abbrev pub numbered_comps : Part → List (List ℕ) → List (List ℕ)
numbered_comps g comps = map (map (number_at g)) comps

-- the bridge nodes are the candidates: there are as many, and each has the handle of the candidate in its place
pub record AreCandidates (seen : Managed) (nodes : List Node) : Type 0 where
  pub count : length (handles_of nodes) ≡ length (candidates_of seen)
  pub each : (i : ℕ) (h : HNum) → slice_get (handles_of nodes) i ≡ Some h → IsCandidateHandle seen i h.0

-- the contraction of a dead part's graph is, by the nodes' numbers, the contraction of the dead part
abbrev pub GraphsContractionIsDeadParts : Type 0
GraphsContractionIsDeadParts = (s : Managed) (dead : List ℕ) (g : Part) (comps : List (List ℕ))
    (heavy : List ℕ) (pairs : List (ℕ × ℕ)) → ManagedInvariant s → IsPart g.nodes g.edges → IsDeadGraph s dead g
    → IsContraction (IsBridgeNode g.nodes) (NodeLeads g.edges) comps heavy pairs
    → IsDeadContraction s dead (numbered_comps g comps) (map (number_at g) heavy) pairs
