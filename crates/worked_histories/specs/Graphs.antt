-- Small graphs with their bridge nodes, and what their components, cross-references and mirror edges have to be.
use Rattle.std.specs.Prelude.{◌≡◌, ℕ, List, [], ◌∷◌, ◌++◌, map, flat_map, Contains}
use Rattle.joint_machine.specs.Components.{IsContraction, node, temporary, between_nodes, mirror_edges}

-- a node has an edge to another if the pair is listed
abbrev pub HasEdge : List (ℕ × ℕ) → ℕ → ℕ → Type 0
HasEdge edges x y = Contains edges (x, y)

-- from 0 over the plain nodes 1 and 2 to 3, and from 3 to 4
abbrev pub diamond : List (ℕ × ℕ)
diamond = (0, 1) ∷ (0, 2) ∷ (1, 3) ∷ (2, 3) ∷ (3, 4) ∷ []

-- its bridge nodes
abbrev pub diamond_bridges : List ℕ
diamond_bridges = 0 ∷ 3 ∷ 4 ∷ []

-- its components: each bridge node alone
abbrev pub diamond_components : List (List ℕ)
diamond_components = (0 ∷ []) ∷ (3 ∷ []) ∷ (4 ∷ []) ∷ []

-- its cross-references, by the places of the components
abbrev pub diamond_references : List (ℕ × ℕ)
diamond_references = (0, 1) ∷ (1, 2) ∷ []

-- the diamond has these components, cross-references and mirror edges
pub record DiamondIsContracted : Type 0 where
  pub contraction : IsContraction (Contains diamond_bridges) (HasEdge diamond) diamond_components [] diamond_references
  pub mirror : mirror_edges diamond_components diamond_references ≡ map between_nodes ((0, 3) ∷ (3, 4) ∷ [])

-- with a cross-reference from node 0 to node 4 the list isn't the diamond's
abbrev pub DiamondHasNoDetour : Type 0
DiamondHasNoDetour = IsContraction (Contains diamond_bridges)
    (HasEdge diamond) diamond_components [] ((0, 1) ∷ (0, 2) ∷ (1, 2) ∷ []) → ⊥

-- three bridge nodes in a circle
abbrev pub ring : List (ℕ × ℕ)
ring = (0, 1) ∷ (1, 2) ∷ (2, 0) ∷ []

abbrev pub ring_bridges : List ℕ
ring_bridges = 0 ∷ 1 ∷ 2 ∷ []

abbrev pub ring_components : List (List ℕ)
ring_components = (0 ∷ 1 ∷ 2 ∷ []) ∷ []

-- the circle is one component with these mirror edges
pub record CircleIsContracted : Type 0 where
  pub contraction : IsContraction (Contains ring_bridges) (HasEdge ring) ring_components [] []
  pub mirror : mirror_edges ring_components [] ≡ map between_nodes ((0, 1) ∷ (1, 2) ∷ (2, 0) ∷ [])

-- eight bridge nodes that lead to a plain one, which leads to eight others
abbrev pub meeting : List (ℕ × ℕ)
meeting = map (λ x. (x, 9)) (1 ∷ 2 ∷ 3 ∷ 4 ∷ 5 ∷ 6 ∷ 7 ∷ 8 ∷ []) ++ map
    (λ y. (9, y)) (10 ∷ 11 ∷ 12 ∷ 13 ∷ 14 ∷ 15 ∷ 16 ∷ 17 ∷ [])

abbrev pub meeting_bridges : List ℕ
meeting_bridges = 1 ∷ 2 ∷ 3 ∷ 4 ∷ 5 ∷ 6 ∷ 7 ∷ 8 ∷ 10 ∷ 11 ∷ 12 ∷ 13 ∷ 14 ∷ 15 ∷ 16 ∷ 17 ∷ []

abbrev pub meeting_nodes : List ℕ
meeting_nodes = 1 ∷ 2 ∷ 3 ∷ 4 ∷ 5 ∷ 6 ∷ 7 ∷ 8 ∷ 9 ∷ 10 ∷ 11 ∷ 12 ∷ 13 ∷ 14 ∷ 15 ∷ 16 ∷ 17 ∷ []

-- each bridge node is a component, and the plain node's class, in which they meet, stands behind them
abbrev pub meeting_components : List (List ℕ)
meeting_components = map (λ x. x ∷ []) meeting_bridges

abbrev pub meeting_references : List (ℕ × ℕ)
meeting_references = map (λ i. (i, 16)) (0 ∷ 1 ∷ 2 ∷ 3 ∷ 4 ∷ 5 ∷ 6 ∷ 7 ∷ []) ++ map
    (λ i. (16, i)) (8 ∷ 9 ∷ 10 ∷ 11 ∷ 12 ∷ 13 ∷ 14 ∷ 15 ∷ [])

-- that class is heavy, so each reference begins or ends at it, and its end of a mirror edge is the first temporary; no
-- list without it is the graph's
pub record MeetingIsContracted : Type 0 where
  pub contraction : IsContraction (Contains meeting_bridges)
      (HasEdge meeting) meeting_components (9 ∷ []) meeting_references
  pub mirror : mirror_edges meeting_components meeting_references
      ≡ map (λ x. (node x, temporary 0)) (1 ∷ 2 ∷ 3 ∷ 4 ∷ 5 ∷ 6 ∷ 7 ∷ 8 ∷ []) ++ map
      (λ y. (temporary 0, node y)) (10 ∷ 11 ∷ 12 ∷ 13 ∷ 14 ∷ 15 ∷ 16 ∷ 17 ∷ [])
  pub needed : (xrefs : List (ℕ × ℕ)) → IsContraction
      (Contains meeting_bridges) (HasEdge meeting) meeting_components [] xrefs → ⊥

-- the same with seven that lead to the plain node: its class isn't heavy, so each of the seven has a reference to each
-- of the eight
abbrev pub light_meeting : List (ℕ × ℕ)
light_meeting = map (λ x. (x, 9)) (2 ∷ 3 ∷ 4 ∷ 5 ∷ 6 ∷ 7 ∷ 8 ∷ []) ++ map
    (λ y. (9, y)) (10 ∷ 11 ∷ 12 ∷ 13 ∷ 14 ∷ 15 ∷ 16 ∷ 17 ∷ [])

abbrev pub light_bridges : List ℕ
light_bridges = 2 ∷ 3 ∷ 4 ∷ 5 ∷ 6 ∷ 7 ∷ 8 ∷ 10 ∷ 11 ∷ 12 ∷ 13 ∷ 14 ∷ 15 ∷ 16 ∷ 17 ∷ []

abbrev pub light_nodes : List ℕ
light_nodes = 2 ∷ 3 ∷ 4 ∷ 5 ∷ 6 ∷ 7 ∷ 8 ∷ 9 ∷ 10 ∷ 11 ∷ 12 ∷ 13 ∷ 14 ∷ 15 ∷ 16 ∷ 17 ∷ []

abbrev pub light_components : List (List ℕ)
light_components = map (λ x. x ∷ []) light_bridges

abbrev pub light_references : List (ℕ × ℕ)
light_references = flat_map (λ i. map (λ j. (i, j)) (7 ∷ 8 ∷ 9 ∷ 10 ∷ 11 ∷ 12 ∷ 13 ∷ 14 ∷ []))
    (0 ∷ 1 ∷ 2 ∷ 3 ∷ 4 ∷ 5 ∷ 6 ∷ [])

pub record LightMeetingIsContracted : Type 0 where
  pub contraction : IsContraction (Contains light_bridges) (HasEdge light_meeting) light_components [] light_references
  pub not_heavy : (xrefs : List (ℕ × ℕ))
      → IsContraction (Contains light_bridges) (HasEdge light_meeting) light_components (9 ∷ []) xrefs → ⊥
