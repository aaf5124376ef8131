-- The reported classes that one of them refers to.
use Rattle.std.specs.Prelude.{◌≡◌, ◌↔◌, ℕ, ◌<◌, List, ◌++◌, length, Contains, slice_index}
use Rattle.joint_machine.specs.Walks.{Reaches}
use Rattle.joint_machine.specs.Components.{Rises}
use Rattle.bridge_graph.specs.declared.graph.Node.{Node}
use Rattle.bridge_graph.specs.Parts.{IsBridgeNode, NodeLeads}
use Rattle.compare_pass.specs.Listing.{AreHeavyBelow, AreListed}
use Rattle.compare_pass.specs.Searching.{Opens, Goes, index_at}

-- the search from x comes to a node that it doesn't go on from, of the class with index j
abbrev pub ComesTo : List (List ℕ) → List ℕ → List ℕ → ℕ → ℕ → Type 0
ComesTo edges labels indexes x j =
    (y : ℕ) × Reaches (Goes edges labels indexes (slice_index labels x)) x y
    × (Opens labels indexes (slice_index labels x) y → ⊥) × (index_at labels indexes y ≡ j)

-- exactly those indexes, in order
pub record AreDestinations (edges : List (List ℕ)) (labels indexes : List ℕ) (x : ℕ) (outs : List ℕ) : Type 0 where
  pub rising : Rises outs
  pub exact : (j : ℕ) → Contains outs j ↔ ComesTo edges labels indexes x j

-- the pairs are exactly those from the first n stands
pub record AreReferencesBelow (edges : List (List ℕ))
    (labels indexes stands : List ℕ) (n : ℕ) (pairs : List (ℕ × ℕ)) : Type 0 where
  pub exact : (i j : ℕ) → Contains pairs (i, j) ↔ ((i < n) × ComesTo edges labels indexes (slice_index stands i) j)

-- components, as many heavy classes behind them and pairs are all that there is to list
pub record AreAllListed (nodes : List Node) (edges : List (List ℕ)) (labels : List ℕ)
    (comps : List (List ℕ)) (size : ℕ) (pairs : List (ℕ × ℕ)) : Type 0 where
  pub before : List ℕ
  pub firsts : List ℕ
  pub after : List ℕ
  pub heavy : List ℕ
  pub count : length heavy ≡ size
  pub listed : AreListed nodes labels (length nodes) comps before firsts
  pub below : AreHeavyBelow (IsBridgeNode nodes) (NodeLeads edges)
      (length nodes) labels before firsts (length nodes) after heavy
  pub references : AreReferencesBelow edges labels after (firsts ++ heavy) (length (firsts ++ heavy)) pairs
