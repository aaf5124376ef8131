-- What lies around a node: all that one comes to from it over at most so many of the arrows drawn, either way, and the
-- arrows between.
use Rattle.std.specs.Prelude.{◌≡◌, ◌⊎◌, ◌↔◌, ℕ, zero, suc, Bool, true, ◌&&◌, List, ◌++◌, Contains, filter}
use Rattle.heap_pictures.specs.declared.pictures.Arrow.{Arrow}
use Rattle.heap_pictures.specs.declared.pictures.Arrow.TheVariants as arrow
use Rattle.heap_pictures.specs.declared.pictures.Side.{Side}
use Rattle.heap_pictures.specs.declared.pictures.Side.TheVariants.{Managed, Peers}
use Rattle.heap_pictures.specs.declared.pictures.Spot.{Spot}
use Rattle.heap_pictures.specs.declared.pictures.Spot.TheVariants.{Object, Peer, Handle}
use Rattle.heap_pictures.specs.Pictures.{Drawing}
use Rattle.picture_sheets.specs.Sheets.{Sheet, objects_in, peers_in}

-- where an arrow begins and ends; that of a handle that leads to no peer any more at the handle, and a handle with no
-- arrow stands for both
abbrev pub ends : Arrow → Spot × Spot
ends (arrow.Field from i to) = (from, to)
ends (arrow.Held m h p style) = (Object m, Peer p)
ends (arrow.Faded m h style) = (Object m, Handle h)
ends (arrow.Names from to) = (from, to)
ends (arrow.Grips h p style) = (Handle h, Peer p)
ends (arrow.Stub h) = (Handle h, Handle h)
ends (arrow.Refers from to) = (from, to)

-- one of the arrows lies between the two, either way
abbrev pub Joins : Arrow → Spot → Spot → Type 0
Joins a x y = ((x ≡ (ends a).0) × (y ≡ (ends a).1)) ⊎ ((x ≡ (ends a).1) × (y ≡ (ends a).0))

abbrev pub AreJoined : List Arrow → Spot → Spot → Type 0
AreJoined arrows x y = (a : Arrow) × Contains arrows a × Joins a x y

-- one comes from the first to the other over at most k arrows
abbrev pub IsWithin : List Arrow → Spot → ℕ → Spot → Type 0
IsWithin arrows s zero x = s ≡ x
IsWithin arrows s (suc k) x = IsWithin arrows s k x ⊎ ((y : Spot) × IsWithin arrows s k y × AreJoined arrows y x)

-- all arrows of a sheet
abbrev pub arrows_on : Sheet → List Arrow
arrows_on s = s.stay.arrows ++ (s.came.arrows ++ s.went.arrows)

-- the part of a picture, and of a sheet, whose nodes and ends of arrows pass a test
abbrev pub is_between : (Spot → Bool) → Arrow → Bool
is_between test a = test (ends a).0 && test (ends a).1

abbrev pub part_of : (Spot → Bool) → Drawing → Drawing
part_of test d = record {
  objects = filter (λ n. test (Object n.m)) d.objects;
  peers = filter (λ n. test (Peer n.p)) d.peers;
  dead = filter (λ m. test (Object m)) d.dead;
  candidates = filter (λ m. test (Object m)) d.candidates;
  arrows = filter (is_between test) d.arrows;
}

abbrev pub sheet_part : (Spot → Bool) → Sheet → Sheet
sheet_part test s = record { stay = part_of test s.stay; came = part_of test s.came; went = part_of test s.went }

-- the part of a sheet around that spot: of what lies within k arrows of it
pub record IsAround (whole : Sheet) (s : Spot) (k : ℕ) (part : Sheet) : Type 0 where
  pub near : Spot → Bool
  pub exact : (x : Spot) → (near x ≡ true) ↔ IsWithin (arrows_on whole) s k x
  pub is : part ≡ sheet_part near whole

-- the sheet has a node of that name
abbrev pub nodes_of : Side → Drawing → List ℕ
nodes_of Managed d = objects_in d
nodes_of Peers d = peers_in d

abbrev pub HasNamed : Sheet → Side → ℕ → Type 0
HasNamed s side x = Contains (nodes_of side s.stay) x
    ⊎ (Contains (nodes_of side s.came) x ⊎ Contains (nodes_of side s.went) x)
