-- How what lies within a few arrows is found: from the ends that came last one goes over one arrow more.
use Rattle.std.specs.Prelude.{◌≡◌, ◌⊎◌, ◌↔◌, ℕ, true, List, [], Contains, Option, Some, None}
use Rattle.std.specs.BTreeMap.{BTreeMap, get}
use Rattle.std.specs.BTreeSet.{BTreeSet}
use Rattle.std.specs.Global.{Vec}
use Rattle.heap_pictures.specs.declared.pictures.Arrow.{Arrow}
use Rattle.heap_pictures.specs.declared.pictures.Spot.{Spot}
use Rattle.picture_sheets.specs.Around.{AreJoined, IsWithin, Joins}
use Rattle.picture_sheets.specs.Keys.{SpotKey, has_spot, spot_cmp, spot_key}

-- the list of an end of arrows: what is joined to it
abbrev pub Lists : Type 0
Lists = BTreeMap SpotKey (Vec Spot)

abbrev pub items_of : Option (Vec Spot) → List Spot
items_of None = []
items_of (Some list) = list.items

abbrev pub joined_to : Lists → Spot → List Spot
joined_to lists x = items_of (get spot_cmp lists (spot_key x))

-- the list of x has y too
abbrev pub Adds : Spot → Spot → Lists → Lists → Type 0
Adds x y old new = (z w : Spot) → Contains (joined_to new z) w ↔ (Contains (joined_to old z) w ⊎ ((z ≡ x) × (w ≡ y)))

-- an arrow more is in the lists of both its ends
abbrev pub AddsArrow : Arrow → Lists → Lists → Type 0
AddsArrow a old new = (z w : Spot) → Contains (joined_to new z) w ↔ (Contains (joined_to old z) w ⊎ Joins a z w)

-- each list has what the arrows join to its end
abbrev pub AreLists : List Arrow → Lists → Type 0
AreLists arrows lists = (z w : Spot) → Contains (joined_to lists z) w ↔ AreJoined arrows z w

-- these were put into the set, and those of them that are new there at the end of a list
pub record Grows (puts : List Spot) (old new : BTreeSet SpotKey) (fresh fresh' : List Spot) : Type 0 where
  pub exact : (x : Spot) → (has_spot new x ≡ true) ↔ ((has_spot old x ≡ true) ⊎ Contains puts x)
  pub kept : (x : Spot) → Contains fresh x → Contains fresh' x
  pub listed : (x : Spot) → has_spot new x ≡ true → (has_spot old x ≡ true) ⊎ Contains fresh' x
  pub within : (x : Spot) → Contains fresh' x → Contains fresh x ⊎ (has_spot new x ≡ true)

-- the set has just what lies within k arrows, and all that is joined to one of these but the newest
pub record IsNear (arrows : List Arrow) (s : Spot) (k : ℕ) (near : BTreeSet SpotKey) (newest : List Spot) : Type 0 where
  pub exact : (x : Spot) → (has_spot near x ≡ true) ↔ IsWithin arrows s k x
  pub new : (x : Spot) → Contains newest x → has_spot near x ≡ true
  pub closed : (x y : Spot) → has_spot near x ≡ true → AreJoined arrows x y
      → (has_spot near y ≡ true) ⊎ Contains newest x

-- just what lies within k arrows
abbrev pub AreWithin : List Arrow → Spot → ℕ → BTreeSet SpotKey → Type 0
AreWithin arrows s k near = (x : Spot) → (has_spot near x ≡ true) ↔ IsWithin arrows s k x
