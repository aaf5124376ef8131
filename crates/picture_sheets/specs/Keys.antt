-- Keys of ends of arrows and of arrows: two have one key just where they are the same. A set of keys is searched by
-- their order.
use Rattle.std.specs.Prelude.{◌≡◌, ℕ, Bool, true, false, ◌||◌, not}
use Rattle.std.specs.declared.cmp.Ordering.{Ordering}
use Rattle.std.specs.Ordering.{nat_cmp, ordering_then}
use Rattle.std.specs.BTreeSet.{BTreeSet, contains}
use Rattle.heap_pictures.specs.declared.pictures.Arrow.{Arrow}
use Rattle.heap_pictures.specs.declared.pictures.Arrow.TheVariants as arrow
use Rattle.heap_pictures.specs.declared.pictures.Spot.{Spot}
use Rattle.heap_pictures.specs.declared.pictures.Spot.TheVariants as spot
use Rattle.picture_sheets.specs.Same.{same_spot, slots_number, style_number}

-- the key of an end of arrows
abbrev pub SpotKey : Type 0
SpotKey = ℕ × ℕ × ℕ

abbrev pub spot_key : Spot → SpotKey
spot_key (spot.Object m) = (0, 0, m)
spot_key (spot.Peer p) = (1, 0, p)
spot_key (spot.Handle h) = (2, 0, h)
spot_key (spot.Slot s i) = (3, slots_number s, i)
spot_key (spot.Temporary i) = (4, 0, i)

-- the key of an arrow
abbrev pub ArrowKey : Type 0
ArrowKey = ℕ × SpotKey × ℕ × SpotKey

abbrev pub arrow_key : Arrow → ArrowKey
arrow_key (arrow.Field x i y) = (0, spot_key x, i, spot_key y)
arrow_key (arrow.Held m h p style) = (1, (0, 0, m), h, (0, p, style_number style))
arrow_key (arrow.Faded m h style) = (2, (0, 0, m), h, (0, 0, style_number style))
arrow_key (arrow.Names x y) = (3, spot_key x, 0, spot_key y)
arrow_key (arrow.Grips h p style) = (4, (0, 0, 0), h, (0, p, style_number style))
arrow_key (arrow.Stub h) = (5, (0, 0, 0), 0, (0, 0, h))
arrow_key (arrow.Refers x y) = (6, spot_key x, 0, spot_key y)

-- their orders
abbrev pub spot_cmp : SpotKey → SpotKey → Ordering
spot_cmp x y = ordering_then (ordering_then (nat_cmp x.0 y.0) (nat_cmp x.1 y.1)) (nat_cmp x.2 y.2)

abbrev pub arrow_cmp : ArrowKey → ArrowKey → Ordering
arrow_cmp a b = ordering_then (ordering_then (ordering_then (nat_cmp a.0 b.0) (spot_cmp a.1 b.1)) (nat_cmp a.2 b.2))
    (spot_cmp a.3 b.3)

-- whether a set has the key of an end of arrows, or of an arrow
abbrev pub has_spot : BTreeSet SpotKey → Spot → Bool
has_spot spots x = contains spot_cmp spots (spot_key x)

abbrev pub has_key : BTreeSet ArrowKey → Arrow → Bool
has_key arrows a = contains arrow_cmp arrows (arrow_key a)

-- one end more stands in the set
abbrev pub Puts : Spot → BTreeSet SpotKey → BTreeSet SpotKey → Type 0
Puts x old new = (y : Spot) → has_spot new y ≡ (same_spot y x || has_spot old y)

-- what is found, or what isn't
abbrev pub is_wanted : Bool → Bool → Bool
is_wanted true found = found
is_wanted false found = not found
