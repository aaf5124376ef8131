-- What is reported: components, and behind them heavy classes, each with its index at its label.
use Rattle.std.specs.Prelude.{◌≡◌, ◌≢◌, ◌↔◌, ℕ, ◌+◌, ◌*◌, ◌<◌, ◌≤◌, List, length, All, Contains, slice_index}
use Rattle.joint_machine.specs.Components.{Rises, IsHeavy, IsLeast, IsUnreported, stand_at}
use Rattle.bridge_graph.specs.declared.graph.Node.{Node}
use Rattle.bridge_graph.specs.Parts.{IsBridgeNode, NodeLeads}
use Rattle.component_pass.specs.Grouping.{AreListed, links_of}
use Rattle.component_pass.specs.Sharing.{AreNumbered, AreReferences, IsOpen, index_at, no_index}

-- the heavy classes stand behind the components by their least nodes, and exactly what isn't reported has no index
pub record AreReported (nodes : List Node) (edges : List (List ℕ)) (labels : List ℕ)
    (rows : ℕ) (indexes : List ℕ) (comps : List (List ℕ)) (heavy : List ℕ) : Type 0 where
  pub numbered : AreNumbered (length nodes) labels rows indexes (length comps + length heavy)
  pub stand : (i : ℕ) → i < length comps + length heavy → (stand_at comps heavy i < length nodes)
      × (index_at labels indexes (stand_at comps heavy i) ≡ i)
  pub rise : Rises heavy
  pub heavies : (x : ℕ) → Contains heavy x
      ↔ (IsHeavy (IsBridgeNode nodes) (NodeLeads edges) x × IsLeast (NodeLeads edges) x)
  pub bare : (x : ℕ) → x < length nodes → IsOpen labels indexes x
      ↔ IsUnreported (IsBridgeNode nodes) (NodeLeads edges) x

-- the counts of what leads in and of what is led to make a class heavy
abbrev pub AreMany : ℕ → ℕ → Type 0
AreMany ins outs = (3 ≤ ins) × (3 ≤ outs) × (60 ≤ ins * outs)

-- no class without an index has so many
abbrev pub AreLight : List ℕ → List ℕ → List ℕ → Type 0
AreLight indexes outs ins = (l : ℕ) → l < length indexes
    → slice_index indexes l ≡ no_index → AreMany (slice_index ins l) (slice_index outs l) → ⊥

-- the classes with so many that had no index before and have a node below x are listed by their least nodes, and have
-- the indexes from count on
pub record AreHeavyBelow (labels before outs ins : List ℕ) (count x : ℕ) (indexes heavy : List ℕ) : Type 0 where
  pub size : length indexes ≡ length before
  pub kept : (l : ℕ) → slice_index before l ≢ no_index → slice_index indexes l ≡ slice_index before l
  pub rise : Rises heavy
  pub below : All (λ h. h < x) heavy
  pub each : All (λ h. (slice_index before (slice_index labels h) ≡ no_index)
      × AreMany (slice_index ins (slice_index labels h)) (slice_index outs (slice_index labels h))) heavy
  pub least : (h y : ℕ) → Contains heavy h → slice_index labels y ≡ slice_index labels h → h ≤ y
  pub stand : (k : ℕ) → k < length heavy → slice_index indexes (slice_index labels (slice_index heavy k)) ≡ count + k
  pub found : (l : ℕ) → slice_index before l ≡ no_index → slice_index indexes l ≢ no_index
      → (k : ℕ) × (k < length heavy) × (slice_index labels (slice_index heavy k) ≡ l)
  pub light : (y : ℕ) → y < x → slice_index indexes (slice_index labels y) ≡ no_index
      → AreMany (slice_index ins (slice_index labels y)) (slice_index outs (slice_index labels y)) → ⊥

-- components, as many heavy classes behind them and pairs are all that there is to list
pub record AreAllListed (nodes : List Node) (edges : List (List ℕ)) (labels : List ℕ) (rows : ℕ) (comps : List (List ℕ))
    (size : ℕ) (pairs : List (ℕ × ℕ)) : Type 0 where
  pub indexes : List ℕ
  pub heavy : List ℕ
  pub count : length heavy ≡ size
  pub listed : AreListed nodes labels (links_of nodes labels) (length nodes) comps indexes
  pub reported : AreReported nodes edges labels rows indexes comps heavy
  pub references : AreReferences edges (length nodes) labels indexes (length comps + length heavy) pairs
