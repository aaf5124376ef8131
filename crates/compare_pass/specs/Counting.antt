-- How many components a search comes to a node from.
use Rattle.std.specs.Prelude.{◌≡◌, ◌↔◌, ℕ, ◌+◌, ◌*◌, ◌<◌, ◌≤◌, Bool, false, cond, List, length, All, Contains}
use Rattle.std.specs.Prelude.{slice_index, slice_index_or, take}
use Rattle.joint_machine.specs.Walks.{Reaches}
use Rattle.joint_machine.specs.Components.{Rises}
use Rattle.compare_pass.specs.Searching.{Goes}

-- n is the number of those of which P holds
pub record IsCount (P : ℕ → Type 0) (n : ℕ) : Type 0 where
  pub names : List ℕ
  pub rise : Rises names
  pub exact : (b : ℕ) → Contains names b ↔ P b
  pub count : length names ≡ n

-- the search from b comes to x
abbrev pub Comes : List (List ℕ) → List ℕ → List ℕ → ℕ → ℕ → Type 0
Comes edges labels indexes b x = Reaches (Goes edges labels indexes (slice_index labels b)) b x

-- for each node from how many of the first k stands the search comes to it
pub record AreCounts (edges : List (List ℕ)) (count : ℕ)
    (labels indexes stands : List ℕ) (k : ℕ) (counts : List ℕ) : Type 0 where
  pub size : length counts ≡ count
  pub few : All (λ c. c ≤ k) counts
  pub exact : (x : ℕ) → x < count → IsCount
      (λ b. Contains (take k stands) b × Comes edges labels indexes b x) (slice_index counts x)

-- a mark as a number
abbrev pub bit : Bool → ℕ
bit b = cond b 1 0

-- one more where there is a mark, and no mark is left
pub record Tallies (marks : List Bool) (before after : List ℕ) : Type 0 where
  pub size : length after ≡ length before
  pub exact : (y : ℕ) → y < length before
      → slice_index after y ≡ slice_index before y + bit (slice_index_or marks y false)

-- at least three on either side, and many in all
pub record AreMany (ins outs : ℕ) : Type 0 where
  pub some_in : 3 ≤ ins
  pub some_out : 3 ≤ outs
  pub many : 60 ≤ ins * outs
