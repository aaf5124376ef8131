-- What a picture has, to be looked up by keys.
use Rattle.std.specs.Prelude.{◌≡◌, ℕ}
use Rattle.heap_pictures.specs.declared.pictures.Arrow.{Arrow}
use Rattle.heap_pictures.specs.declared.pictures.Spot.TheVariants.{Object, Peer}
use Rattle.heap_pictures.specs.Flags.{is_in}
use Rattle.heap_pictures.specs.Pictures.{Drawing}
use Rattle.picture_sheets.specs.declared.comparing.Stock.{Stock}
use Rattle.picture_sheets.specs.Keys.{has_key, has_spot}
use Rattle.picture_sheets.specs.Sheets.{has_arrow, objects_in, peers_in}

-- the sets have the picture's objects, its peers and its arrows
pub record IsStockOf (d : Drawing) (s : Stock) : Type 0 where
  pub objects : (m : ℕ) → has_spot s.objects (Object m) ≡ is_in (objects_in d) m
  pub peers : (p : ℕ) → has_spot s.peers (Peer p) ≡ is_in (peers_in d) p
  pub arrows : (a : Arrow) → has_key s.arrows a ≡ has_arrow d a
