-- What stands in the arrays behind a call: components with their cross-references.
use Rattle.std.specs.Prelude.{◌≡◌, ℕ, ◌<◌, ◌⊎◌, List, [], ◌∷◌, ◌++◌, length, map, take, replicate, Some, slice_get}
use Rattle.joint_machine.specs.Components.{IsContraction}
use Rattle.bridge_graph.specs.declared.packing.Link.{Link}
use Rattle.array_graphs.specs.Graphs.{pair_of}
use Rattle.pass_c.specs.declared.arrays.PassCounts.{PassCounts}

-- lists one behind another
abbrev pub flat : List (List ℕ) → List ℕ
flat [] = []
flat (xs ∷ xss) = xs ++ flat xss

-- the components by their indexes: behind those with members stand the heavy classes, without members
abbrev pub all_of : List (List ℕ) → ℕ → List (List ℕ)
all_of comps heavy = comps ++ replicate heavy []

-- the numbers of what was found
pub record AreCounted (comps : List (List ℕ)) (heavy : ℕ) (pairs : List (ℕ × ℕ)) (counts : PassCounts) : Type 0 where
  pub comps_count : counts.comps ≡ length (all_of comps heavy)
  pub heavy_count : counts.heavy ≡ heavy
  pub members_count : counts.members ≡ length (flat (all_of comps heavy))
  pub xrefs_count : counts.xrefs ≡ length pairs

-- components and cross-references stand in the arrays: each component starts where those before it end, and their
-- members stand one behind another
pub record AreWritten (comps : List (List ℕ)) (pairs : List (ℕ × ℕ))
    (starts members : List ℕ) (xrefs : List Link) : Type 0 where
  pub starts_at : (c : ℕ) → c < length comps → slice_get starts c ≡ Some (length (flat (take c comps)))
  pub members_at : take (length (flat comps)) members ≡ flat comps
  pub xrefs_at : map pair_of (take (length pairs) xrefs) ≡ pairs

-- an array has fewer places than are needed
abbrev pub AreShort : List ℕ → List ℕ → List Link → PassCounts → Type 0
AreShort starts members xrefs counts = (length starts < counts.comps)
    ⊎ (length members < counts.members) ⊎ (length xrefs < counts.xrefs)

-- what was found is the contraction of the graph, and stands in the arrays with its numbers
pub record Found (bridge : ℕ → Type 0) (edge : ℕ → ℕ → Type 0)
    (starts members : List ℕ) (xrefs : List Link) (counts : PassCounts) : Type 0 where
  pub comps : List (List ℕ)
  pub heavy : List ℕ
  pub pairs : List (ℕ × ℕ)
  pub exact : IsContraction bridge edge comps heavy pairs
  pub counted : AreCounted comps (length heavy) pairs counts
  pub written : AreWritten (all_of comps (length heavy)) pairs starts members xrefs

-- an array has too few places for the contraction of the graph, of which the numbers are told
pub record Lacks (bridge : ℕ → Type 0) (edge : ℕ → ℕ → Type 0)
    (starts members : List ℕ) (xrefs : List Link) (counts : PassCounts) : Type 0 where
  pub comps : List (List ℕ)
  pub heavy : List ℕ
  pub pairs : List (ℕ × ℕ)
  pub exact : IsContraction bridge edge comps heavy pairs
  pub counted : AreCounted comps (length heavy) pairs counts
  pub short : AreShort starts members xrefs counts
