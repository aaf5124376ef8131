-- A picture as a plain value.
use Rattle.std.specs.Prelude.{ℕ, List}
use Rattle.heap_pictures.specs.declared.pictures.Arrow.{Arrow}
use Rattle.heap_pictures.specs.declared.pictures.ObjectNode.{ObjectNode}
use Rattle.heap_pictures.specs.declared.pictures.PeerNode.{PeerNode}

-- the nodes of both heaps, which of the managed ones are dead and which are candidates, and the arrows, with their
-- boxes
pub record Drawing : Type 0 where
  pub objects : List ObjectNode
  pub peers : List PeerNode
  pub dead : List ℕ
  pub candidates : List ℕ
  pub arrows : List Arrow
