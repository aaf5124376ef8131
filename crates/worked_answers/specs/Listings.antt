-- The listing of a cycle that has nothing to contract.
use Rattle.std.specs.Prelude.{ℕ, List, [], ◌∷◌, Some}
use Rattle.joint_machine.specs.Managed.{Managed, opening_managed}
use Rattle.graph_listing.specs.Listing.{Listed}
use Rattle.listing_laws.specs.Listings.{AreListed, IsListedOf, ListsDeadPart}

-- cycle 1 is open without candidates, and nothing was made
abbrev pub nothing_dead : Managed
nothing_dead = record opening_managed { cycle = Some record { number = 1; candidates = []; dead = [] } }

-- what is listed of cycle k: these components, so many heavy classes, and these cross-references
abbrev pub listed : ℕ → List (List ℕ) → ℕ → List (ℕ × ℕ) → Listed
listed k comps heavy pairs = record { cycle = k; comps = comps; heavy = heavy; pairs = pairs }

-- its number is listed, and nothing else: no component, no heavy class, no reference; and the cycle once
pub record ListingsAreTold : Type 0 where
  pub empty : ListsDeadPart nothing_dead [] (listed 1 [] 0 [])
  pub heavy : ListsDeadPart nothing_dead [] (listed 1 [] 1 []) → ⊥
  pub component : ListsDeadPart nothing_dead [] (listed 1 ((1 ∷ []) ∷ []) 0 []) → ⊥
  pub reference : ListsDeadPart nothing_dead [] (listed 1 [] 0 ((0, 0) ∷ [])) → ⊥
  pub cycle : IsListedOf nothing_dead (listed 1 [] 0 [])
  pub number : IsListedOf nothing_dead (listed 2 [] 0 []) → ⊥
  pub closed : IsListedOf opening_managed (listed 1 [] 0 []) → ⊥
  pub once : AreListed (nothing_dead ∷ []) (listed 1 [] 0 [] ∷ listed 1 [] 0 [] ∷ []) → ⊥
  pub missing : AreListed (nothing_dead ∷ []) [] → ⊥
