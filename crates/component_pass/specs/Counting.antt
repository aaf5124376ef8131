-- How many components are led to and lead in, and how what leads in is handed on.
use Rattle.std.specs.Prelude.{◌≡◌, ◌≢◌, ◌⊎◌, ℕ, ◌+◌, ◌<◌, ◌≤◌, List, [], ◌∷◌, length, All, Contains, slice_index}
use Rattle.joint_machine.specs.Walks.{Reaches}
use Rattle.joint_machine.specs.Components.{Rises}
use Rattle.bridge_graph.specs.Parts.{NodeLeads, row_at}
use Rattle.component_pass.specs.Gathering.{AreSets, set_at}
use Rattle.component_pass.specs.Sharing.{index_at, IsOpen, Leaves, Passes}

-- n is the number of those of which P holds, but where it is `many` it says only that there are at least that many
pub record IsCount (P : ℕ → Type 0) (many n : ℕ) : Type 0 where
  pub named : List ℕ
  pub rise : Rises named
  pub hold : All P named
  pub least : n ≤ length named
  pub most : n < many → length named ≤ n
  pub whole : n < many → (b : ℕ) → P b → Contains named b

-- from how many on components aren't counted: below it a count is exact, and a class with so many on one side has at
-- least three on the other if it is heavy, which make the product sixty
abbrev pub cap : ℕ
cap = 20

-- what has the index j leads by an edge to a node from which one comes to x through classes without an index
abbrev pub ComesIn : List (List ℕ) → List ℕ → List ℕ → ℕ → ℕ → Type 0
ComesIn edges labels indexes x j =
    (u : ℕ) × (v : ℕ) × (IsOpen labels indexes u → ⊥) × (index_at labels indexes u ≡ j)
    × NodeLeads edges u v × Reaches (Passes edges labels indexes) v x

-- the class of a node has no index and leads to at least three components
abbrev pub IsWide : List ℕ → List ℕ → List ℕ → ℕ → Type 0
IsWide labels indexes counts x = IsOpen labels indexes x × (3 ≤ slice_index counts (slice_index labels x))

-- for each class the count of what leaves it, up to the cap
abbrev pub CountsOut : List (List ℕ) → ℕ → List ℕ → List ℕ → ℕ → List ℕ → Type 0
CountsOut edges nodes labels indexes rows outs = (l : ℕ) → l < rows
    → IsCount (Leaves edges nodes labels indexes l) cap (slice_index outs l)

-- for each class without an index that leads to at least three components the count of what comes in, up to the cap
abbrev pub CountsIn : List (List ℕ) → ℕ → List ℕ → List ℕ → List ℕ → List ℕ → Type 0
CountsIn edges nodes labels indexes outs ins =
    (x : ℕ) → x < nodes → IsWide labels indexes outs x
    → IsCount (ComesIn edges labels indexes x) cap (slice_index ins (slice_index labels x))

-- the second list has all that the first has, or so many that no more are counted
abbrev pub Covers : ℕ → List ℕ → List ℕ → Type 0
Covers many xs ys = (many ≤ length ys) ⊎ ((j : ℕ) → Contains xs j → Contains ys j)

-- a list covers two others and has nothing beside what they have
pub record Joins (many : ℕ) (one other both : List ℕ) : Type 0 where
  pub first : Covers many one both
  pub second : Covers many other both
  pub sound : (j : ℕ) → Contains both j → Contains one j ⊎ Contains other j

-- the set with a number was handed on from a class to the classes of the wide nodes among some others: each of these
-- covers it, all cover what they had, and nothing else was added
pub record Pushes (labels indexes counts : List ℕ) (many count own number : ℕ) (T : ℕ → Type 0)
    (before : List ℕ) (lists : List (List ℕ)) (after : List ℕ) (more : List (List ℕ)) : Type 0 where
  pub valid : AreSets after more count (count + length more)
  pub size : length after ≡ length before
  pub kept : (k : ℕ) → k < length lists → row_at more k ≡ row_at lists k
  pub longer : length lists ≤ length more
  pub grows : (l : ℕ) → l < length before
      → Covers many (set_at count lists (slice_index before l)) (set_at count more (slice_index after l))
  pub gives : (v : ℕ) → T v → slice_index labels v < length before
      → slice_index labels v ≢ own → IsWide labels indexes counts v
      → Covers many (set_at count lists number) (set_at count more (slice_index after (slice_index labels v)))
  pub others : (l : ℕ) → (l ≡ own) ⊎ ((v : ℕ) → T v → slice_index labels v ≡ l → ⊥)
      → slice_index after l ≡ slice_index before l
  pub sound : (l j : ℕ) → l < length before → Contains (set_at count more (slice_index after l)) j
      → Contains (set_at count lists (slice_index before l)) j
      ⊎ ((v : ℕ) × T v × (slice_index labels v ≡ l) × (l ≢ own) × Contains (set_at count lists number) j)

-- the classes with a label of at least c have handed on what leads into them: each set has only what comes in, and
-- covers what was handed on to it
pub record AreLed (edges : List (List ℕ)) (nodes : ℕ) (labels indexes counts : List ℕ)
    (many count c : ℕ) (ins : List ℕ) (lists : List (List ℕ)) : Type 0 where
  pub valid : AreSets ins lists count (count + length lists)
  pub size : length ins ≡ length indexes
  pub sound : (x j : ℕ) → x < nodes → IsOpen labels indexes x
      → Contains (set_at count lists (slice_index ins (slice_index labels x))) j
      → ComesIn edges labels indexes x j
  pub from_own : (u v : ℕ) → u < nodes → NodeLeads edges u v → c ≤ slice_index labels u
      → (IsOpen labels indexes u → ⊥) → IsWide labels indexes counts v
      → Covers many (index_at labels indexes u ∷ []) (set_at count lists (slice_index ins (slice_index labels v)))
  pub from_bare : (u v : ℕ) → u < nodes → NodeLeads edges u v → c ≤ slice_index labels u → IsOpen labels indexes u
      → slice_index labels u ≢ slice_index labels v → IsWide labels indexes counts v
      → Covers many (set_at count lists (slice_index ins (slice_index labels u)))
      (set_at count lists (slice_index ins (slice_index labels v)))
