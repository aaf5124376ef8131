-- What an answer says.
use Rattle.std.specs.Prelude.{◌≡◌, ◌≢◌, ℕ, List}
use Rattle.bridge_graph.specs.declared.packing.Link.{Link}
use Rattle.pass_c.specs.declared.arrays.PassCounts.{PassCounts}
use Rattle.pass_c.specs.Found.{AreCounted, AreShort, AreWritten, all_of}

-- what an answer says of components and pairs: they stand in the arrays, or these are too short, and their numbers are
-- told
pub record Gives (comps : List (List ℕ)) (heavy : ℕ) (pairs : List (ℕ × ℕ)) (status : ℕ)
    (starts members : List ℕ) (xrefs : List Link) (counts : PassCounts) : Type 0 where
  pub counted : status ≢ 4 → AreCounted comps heavy pairs counts
  pub written : status ≡ 0 → AreWritten (all_of comps heavy) pairs starts members xrefs
  pub short : status ≡ 3 → AreShort starts members xrefs counts
