-- When two ends of arrows, and two arrows, are the same: all that they have is.
use Rattle.std.specs.Prelude.{ℕ, Bool, false, ◌&&◌, nat_eq}
use Rattle.heap_pictures.specs.declared.pictures.Arrow.{Arrow}
use Rattle.heap_pictures.specs.declared.pictures.Arrow.TheVariants as arrow
use Rattle.heap_pictures.specs.declared.pictures.Slots.{Slots}
use Rattle.heap_pictures.specs.declared.pictures.Slots.TheVariants as slots
use Rattle.heap_pictures.specs.declared.pictures.Spot.{Spot}
use Rattle.heap_pictures.specs.declared.pictures.Spot.TheVariants as spot
use Rattle.heap_pictures.specs.declared.pictures.Style.{Style}
use Rattle.heap_pictures.specs.declared.pictures.Style.TheVariants as style

-- a number for each list of slots, and for each style
abbrev pub slots_number : Slots → ℕ
slots_number slots.ManagedVars = 0
slots_number slots.ManagedStatics = 1
slots_number slots.Pins = 2
slots_number slots.PeerVars = 3
slots_number slots.PeerStatics = 4
slots_number slots.Names = 5

abbrev pub style_number : Style → ℕ
style_number style.Full = 0
style_number style.Weak = 1
style_number style.Cleared = 2
style_number style.Gone = 3

abbrev pub same_slots : Slots → Slots → Bool
same_slots a b = nat_eq (slots_number a) (slots_number b)

abbrev pub same_style : Style → Style → Bool
same_style a b = nat_eq (style_number a) (style_number b)

abbrev pub same_spot : Spot → Spot → Bool
same_spot (spot.Object m) (spot.Object n) = nat_eq m n
same_spot (spot.Peer p) (spot.Peer q) = nat_eq p q
same_spot (spot.Handle h) (spot.Handle g) = nat_eq h g
same_spot (spot.Slot s i) (spot.Slot t j) = same_slots s t && nat_eq i j
same_spot (spot.Temporary i) (spot.Temporary j) = nat_eq i j
same_spot _ _ = false

abbrev pub same_arrow : Arrow → Arrow → Bool
same_arrow (arrow.Field x i y) (arrow.Field u j v) = same_spot x u && (nat_eq i j && same_spot y v)
same_arrow (arrow.Held m h p s) (arrow.Held n g q t) = nat_eq m n && (nat_eq h g && (nat_eq p q && same_style s t))
same_arrow (arrow.Faded m h s) (arrow.Faded n g t) = nat_eq m n && (nat_eq h g && same_style s t)
same_arrow (arrow.Names x y) (arrow.Names u v) = same_spot x u && same_spot y v
same_arrow (arrow.Grips h p s) (arrow.Grips g q t) = nat_eq h g && (nat_eq p q && same_style s t)
same_arrow (arrow.Stub h) (arrow.Stub g) = nat_eq h g
same_arrow (arrow.Refers x y) (arrow.Refers u v) = same_spot x u && same_spot y v
same_arrow _ _ = false
