-- A report of components and cross-references in a caller's arrays, and what it tells. (SGen's bridge header: these are
-- what a client gets, components without objects among them.)
use Rattle.std.specs.Prelude.{◌≡◌, ℕ, ◌<◌, List, length, All}
use Rattle.bridge_graph.specs.declared.packing.Link.{Link}
use Rattle.bridge_graph.specs.Packing.{packed_rows}
use Rattle.joint_machine.specs.Components.{IsMember}
use Rattle.joint_machine.specs.Walks.{Reaches}
use Rattle.array_graphs.specs.Graphs.{AreEdges, AreInOrder}
use Rattle.std.specs.Prelude.{slice_index_or}

-- the components of the arrays: each has the members from its own start on, up to that of the next one, or to the end
abbrev pub comps_in : List ℕ → List ℕ → List (List ℕ)
comps_in starts members = packed_rows starts members (length starts)

-- the arrays are a report on objects below n: the starts rise from 0 to the end, members are objects, and
-- cross-references join components
pub record IsReport (n : ℕ) (starts members : List ℕ) (xrefs : List Link) : Type 0 where
  pub first : slice_index_or starts 0 (length members) ≡ 0
  pub cut : AreInOrder starts (length members)
  pub objects : All (λ x. x < n) members
  pub ends : AreEdges (length starts) xrefs

-- x is told to reach y: references lead, by none or more steps, from a component with x to one with y
pub record IsTold (comps : List (List ℕ)) (refers : ℕ → ℕ → Type 0) (x y : ℕ) : Type 0 where
  pub from : ℕ
  pub to : ℕ
  pub source : IsMember comps from x
  pub destination : IsMember comps to y
  pub leads : Reaches refers from to
