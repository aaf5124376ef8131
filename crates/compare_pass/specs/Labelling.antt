-- What the search along the reversed edges keeps.
use Rattle.std.specs.Prelude.{◌≡◌, ◌↔◌, ◌⊎◌, ℕ, ◌+◌, ◌<◌, ◌≤◌, ◌==◌, cond, List, [], ◌∷◌, length, Contains, slice_index}
use Rattle.joint_machine.specs.Walks.{Reaches, Mutual}
use Rattle.bridge_graph.specs.Parts.{NodeLeads}
use Rattle.joint_machine.specs.Numbers.{u32_max}

-- stands at a node without a label
abbrev pub no_label : ℕ
no_label = u32_max

-- the node has no label
abbrev pub IsBare : List ℕ → ℕ → Type 0
IsBare labels x = slice_index labels x ≡ no_label

-- how many nodes have no label
abbrev pub bare : List ℕ → ℕ
bare [] = 0
bare (l ∷ labels) = cond (l == no_label) 1 0 + bare labels

-- the nodes that were finished from place k on are labelled, and classes are labelled whole, each by a label of its own
pub record AreLabelled (edges : List (List ℕ)) (count : ℕ) (order : List ℕ) (k : ℕ) (labels : List ℕ) : Type 0 where
  pub size : length labels ≡ count
  pub later : (j : ℕ) → k ≤ j → j < length order → ¬ IsBare labels (slice_index order j)
  pub small : (x : ℕ) → x < count → ¬ IsBare labels x → slice_index labels x < count
  pub named : (x : ℕ) → x < count → ¬ IsBare labels x → slice_index labels (slice_index labels x) ≡ slice_index labels x
  pub whole : (x y : ℕ) → ¬ IsBare labels x → Mutual (NodeLeads edges) x y → ¬ IsBare labels y
  pub exact : (x y : ℕ) → x < count → y < count → ¬ IsBare labels x → ¬ IsBare labels y
      → (slice_index labels x ≡ slice_index labels y) ↔ Mutual (NodeLeads edges) x y

-- the search labelled only what reaches the root, through nodes that had no label; what it labelled waits, or all that
-- leads to it is labelled
pub record IsSpreading (edges : List (List ℕ)) (root : ℕ) (before labels waiting : List ℕ) : Type 0 where
  pub size : length labels ≡ length before
  pub here : slice_index labels root ≡ root
  pub kept : (x : ℕ) → ¬ IsBare before x → slice_index labels x ≡ slice_index before x
  pub sound : (x : ℕ) → IsBare before x → ¬ IsBare labels x
      → (slice_index labels x ≡ root) × Reaches (NodeLeads edges) x root
  pub closed : (x y : ℕ) → IsBare before y → ¬ IsBare labels y
      → NodeLeads edges x y → ¬ IsBare labels x ⊎ Contains waiting y
  pub found : (x : ℕ) → Contains waiting x → IsBare before x × ¬ IsBare labels x

-- the bare nodes of a row got the label and wait
pub record Labels (row : List ℕ) (label : ℕ) (before waiting labels more : List ℕ) : Type 0 where
  pub size : length labels ≡ length before
  pub kept : (x : ℕ) → ¬ IsBare before x → slice_index labels x ≡ slice_index before x
  pub fresh : (x : ℕ) → IsBare before x → ¬ IsBare labels x
      → (slice_index labels x ≡ label) × Contains row x × Contains more x
  pub waits : (x : ℕ) → Contains waiting x → Contains more x
  pub from : (x : ℕ) → Contains more x → Contains waiting x ⊎ (IsBare before x × ¬ IsBare labels x)
  pub whole : (x : ℕ) → Contains row x → ¬ IsBare labels x
  pub count : length more + bare labels ≡ length waiting + bare before
