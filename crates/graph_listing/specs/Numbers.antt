-- Components of nodes, by the managed numbers of the nodes.
use Rattle.std.specs.Prelude.{ℕ, ◌<◌, List, All, length, map, slice_index}
use Rattle.bridge_graph.specs.declared.graph.Node.{Node}
use Rattle.bridge_graph.specs.Parts.{Part, numbers_of}
use Rattle.xref_list.specs.Listing.{Listing}
use Rattle.graph_listing.specs.Listing.{Listed}

-- the managed number of the node with that index; 0 past the last node
abbrev pub number_in : List Node → ℕ → ℕ
number_in nodes i = slice_index (numbers_of nodes) i

-- components of nodes by the nodes' managed numbers
abbrev pub numbered : List Node → List (List ℕ) → List (List ℕ)
numbered nodes comps = map (map (number_in nodes)) comps

-- what is listed of a graph's components as those of a cycle
abbrev pub listed_of : ℕ → Part → Listing → Listed
listed_of k g l = record { cycle = k; comps = numbered g.nodes l.comps; heavy = l.heavy; pairs = l.pairs }

-- the members of each component are nodes
abbrev pub AreOfNodes : List Node → List (List ℕ) → Type 0
AreOfNodes nodes comps = All (All (λ x. x < length nodes)) comps
