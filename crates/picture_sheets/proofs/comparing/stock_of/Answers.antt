use Rattle.std.proofs.Common.{◌≡◌, ℕ, map, subst}
use Rattle.std.specs.List.{list_any}
use Rattle.heap_pictures.specs.Flags.{is_in}
use Rattle.heap_pictures.specs.declared.pictures.Arrow.{Arrow}
use Rattle.heap_pictures.specs.declared.pictures.ObjectNode.{ObjectNode}
use Rattle.heap_pictures.specs.declared.pictures.PeerNode.{PeerNode}
use Rattle.heap_pictures.specs.declared.pictures.Spot.TheVariants.{Object, Peer}
use Rattle.picture_sheets.specs.Keys.{has_key, has_spot}
use Rattle.picture_sheets.specs.Same.{same_arrow}
use Rattle.picture_sheets.proofs.comparing.stock_of.Goals as goal

pub returns : goal.returns
returns c = record {
  objects = subst (λ ns. (m : ℕ) → has_spot c.in_ok-object_set.field-0 (Object m) ≡ is_in (map (λ (n : ObjectNode). n.m) ns) m) c.objects.ensures c.in_ok-object_set.ensures;
  peers = subst (λ ns. (p : ℕ) → has_spot c.in_ok-peer_set.field-0 (Peer p) ≡ is_in (map (λ (n : PeerNode). n.p) ns) p) c.peers.ensures c.in_ok-peer_set.ensures;
  arrows = subst (λ xs. (a : Arrow) → has_key c.in_ok-arrow_set.field-0 a ≡ list_any (same_arrow a) xs) c.arrows.ensures c.in_ok-arrow_set.ensures;
}
