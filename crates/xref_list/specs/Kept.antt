-- What the flat lists of components keep, while they are being built and afterwards.
use Rattle.std.specs.Prelude.{◌≡◌, ◌-◌, ℕ, ◌+◌, ◌≤◌, Bool, true, List, length, All, flat_map}
use Rattle.joint_machine.specs.Components.{circle, PairsRise}
use Rattle.bridge_graph.specs.Packing.{packed_rows, IsCut}
use Rattle.xref_list.specs.Listing.{AreComponents, IsBetween, IsListing}
use Rattle.joint_machine.specs.Numbers.{u32_max}

-- the starts cut the members into the components, whose circles stand in a row
pub record AreFlat (members starts : List ℕ) (circles : List (ℕ × ℕ)) : Type 0 where
  pub cut : IsCut starts members
  pub circle : circles ≡ flat_map circle (packed_rows starts members (length starts))
  pub few : length starts ≤ u32_max - 1
  pub most : length members ≤ u32_max
  pub edges : length circles ≤ length members

-- flat lists of components with pairs between them, which rise where that is known
pub record IsListingBegun (members starts : List ℕ) (circles : List (ℕ × ℕ))
    (heavy : ℕ) (pairs : List (ℕ × ℕ)) (sorted : Bool) : Type 0 where
  pub flat : AreFlat members starts circles
  pub components : AreComponents (packed_rows starts members (length starts))
  pub ends : All (IsBetween (length starts + heavy)) pairs
  pub room : length starts + heavy ≤ u32_max - 1
  pub rising : sorted ≡ true → PairsRise pairs
  pub count : length members + length pairs ≤ u32_max

-- flat lists of a whole listing
pub record IsWholeListing (members starts : List ℕ)
    (circles : List (ℕ × ℕ)) (heavy : ℕ) (pairs : List (ℕ × ℕ)) : Type 0 where
  pub flat : AreFlat members starts circles
  pub listing : IsListing (packed_rows starts members (length starts)) heavy pairs
  pub count : length members + length pairs ≤ u32_max
