-- What a list of pairs with a set beside it keeps.
use Rattle.std.specs.Prelude.{◌≢◌, ℕ, ◌≤◌, List, length, take, AllPairs, IsPermutation}

-- each pair stands once, and the set has exactly the first so many
pub record ArePairsKnown (pairs keys : List (ℕ × ℕ)) : Type 0 where
  pub apart : AllPairs (λ p q. p ≢ q) pairs
  pub count : length keys ≤ length pairs
  pub known : IsPermutation (take (length keys) pairs) keys
