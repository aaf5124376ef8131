-- Paths in a picture: over which arrows one goes, and where one begins.
use Rattle.std.specs.Prelude.{◌≡◌, ◌⊎◌, Contains, map}
use Rattle.joint_machine.specs.Joint.{Row, object, peer}
use Rattle.joint_machine.specs.Walks.{Reached}
use Rattle.heap_pictures.specs.declared.pictures.Arrow.{Arrow}
use Rattle.heap_pictures.specs.declared.pictures.Arrow.TheVariants as arrow
use Rattle.heap_pictures.specs.declared.pictures.Spot.{Spot}
use Rattle.heap_pictures.specs.declared.pictures.Spot.TheVariants.{Object, Peer, Handle}
use Rattle.heap_pictures.specs.declared.pictures.Style.TheVariants.{Full}
use Rattle.heap_pictures.specs.Pictures.{Drawing}

-- an arrow leads from one spot to another: a field's, a slot's, and that of a box whose handle is strong one way, that
-- of the handle of a managed object both ways. A weak global reference and a reference that a cycle added lead nowhere,
-- nor does a cleared handle.
abbrev pub Leads : Arrow → Spot → Spot → Type 0
Leads (arrow.Field from i to) x y = (x ≡ from) × (y ≡ to)
Leads (arrow.Held m h p style) x y = ((x ≡ Object m) × (y ≡ Peer p)) ⊎ ((x ≡ Peer p) × (y ≡ Object m))
Leads (arrow.Names from to) x y = (x ≡ from) × (y ≡ to)
Leads (arrow.Grips h p Full) x y = (x ≡ Handle h) × (y ≡ Peer p)
Leads _ x y = ⊥

-- an arrow begins at a box: a slot, or a handle that no managed object holds
abbrev pub BeginsAt : Arrow → Spot → Type 0
BeginsAt (arrow.Names from to) x = x ≡ from
BeginsAt (arrow.Grips h p style) x = x ≡ Handle h
BeginsAt _ x = ⊥

-- an arrow of the picture leads there, and a box of the picture stands there
abbrev pub IsWay : Drawing → Spot → Spot → Type 0
IsWay d x y = (a : Arrow) × Contains d.arrows a × Leads a x y

abbrev pub IsBox : Drawing → Spot → Type 0
IsBox d x = (a : Arrow) × Contains d.arrows a × BeginsAt a x

-- a path leads there from a box
abbrev pub IsPathTo : Drawing → Spot → Type 0
IsPathTo d x = Reached (IsBox d) (IsWay d) x

-- a row's spot, and whether it has a node
abbrev pub spot_of_row : Row → Spot
spot_of_row (object m) = Object m
spot_of_row (peer p) = Peer p

abbrev pub HasNode : Drawing → Row → Type 0
HasNode d (object m) = Contains (map (λ n. n.m) d.objects) m
HasNode d (peer p) = Contains (map (λ n. n.p) d.peers) p
