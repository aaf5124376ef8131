-- Classes that are reported: each has an index at its label, and one node that stands for it.
use Rattle.std.specs.Prelude.{◌≡◌, ◌≢◌, ◌↔◌, ℕ, ◌<◌, List, ◌++◌, length, map, All, Contains, Some, slice_get}
use Rattle.std.specs.Prelude.{slice_index}
use Rattle.joint_machine.specs.Components.{Rises, IsHeavy, IsLeast, first_of}
use Rattle.bridge_graph.specs.declared.graph.Node.{Node}
use Rattle.bridge_graph.specs.declared.packing.Link.{Link}
use Rattle.bridge_graph.specs.Packing.{packed_row, IsCut}
use Rattle.bridge_graph.specs.Parts.{IsBridgeNode}
use Rattle.compare_pass.specs.Searching.{index_at, no_index}

-- the bridge nodes of the class with that label, in order
pub record IsGroup (nodes : List Node) (labels : List ℕ) (label : ℕ) (members : List ℕ) : Type 0 where
  pub rises : Rises members
  pub exact : (y : ℕ) → Contains members y ↔ (IsBridgeNode nodes y × (slice_index labels y ≡ label))

-- the rows are the bridge nodes of each label
pub record AreGroups (nodes : List Node) (labels starts targets : List ℕ) : Type 0 where
  pub count : length starts ≡ length nodes
  pub cut : IsCut starts targets
  pub row : (l : ℕ) → l < length starts → IsGroup nodes labels l (packed_row starts targets l)

-- the links lead from the label of each bridge node below n to the node, in rising order
pub record AreLinked (nodes : List Node) (labels : List ℕ) (n : ℕ) (links : List Link) : Type 0 where
  pub made : All (λ l. (l.to < n) × (l.from ≡ slice_index labels l.to) × IsBridgeNode nodes l.to) links
  pub rising : Rises (map (λ l. l.to) links)
  pub every : (x : ℕ) → x < n → IsBridgeNode nodes x → Contains (map (λ l. l.to) links) x

-- the index at a node's label is the place of the node that stands for its class
pub record AreNumbered (count : ℕ) (labels indexes stands : List ℕ) : Type 0 where
  pub size : length indexes ≡ count
  pub stand : (i : ℕ) → i < length stands → (slice_index stands i < count)
      × (index_at labels indexes (slice_index stands i) ≡ i)
  pub index : (x : ℕ) → x < count → index_at labels indexes x ≢ no_index
      → (index_at labels indexes x < length stands)
      × (slice_index labels (slice_index stands (index_at labels indexes x)) ≡ slice_index labels x)

-- x is a bridge node whose class has no index
abbrev pub Begins : List Node → List ℕ → List ℕ → ℕ → Type 0
Begins nodes labels indexes x = IsBridgeNode nodes x × (index_at labels indexes x ≡ no_index)

-- the components whose first members are below x are listed; their first members stand for them
pub record AreListed (nodes : List Node) (labels : List ℕ) (x : ℕ)
    (comps : List (List ℕ)) (indexes stands : List ℕ) : Type 0 where
  pub numbered : AreNumbered (length nodes) labels indexes stands
  pub firsts : map first_of comps ≡ stands
  pub each : (i : ℕ) → i < length stands → (members : List ℕ) × (slice_get comps i ≡ Some members)
      × IsGroup nodes labels (slice_index labels (slice_index stands i)) members
  pub bridges : All (IsBridgeNode nodes) stands
  pub rise : Rises stands
  pub below : All (λ s. s < x) stands
  pub every : (y : ℕ) → y < x → IsBridgeNode nodes y → index_at labels indexes y ≢ no_index

-- behind the first members stand the least nodes of the heavy classes that have one below x
pub record AreHeavyBelow (bridge : ℕ → Type 0) (edge : ℕ → ℕ → Type 0)
    (count : ℕ) (labels before firsts : List ℕ) (x : ℕ)
    (indexes heavy : List ℕ) : Type 0 where
  pub numbered : AreNumbered count labels indexes (firsts ++ heavy)
  pub still : (y : ℕ) → index_at labels indexes y ≡ no_index → index_at labels before y ≡ no_index
  pub rise : Rises heavy
  pub below : All (λ h. h < x) heavy
  pub each : All (λ h. IsHeavy bridge edge h × IsLeast edge h) heavy
  pub every : (y : ℕ) → y < x → IsHeavy bridge edge y → index_at labels indexes y ≢ no_index
