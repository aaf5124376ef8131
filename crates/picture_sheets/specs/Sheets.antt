-- A sheet: what stays, what came and what went between two pictures.
use Rattle.std.specs.Prelude.{ℕ, Bool, not, List, [], filter, map}
use Rattle.std.specs.List.{list_any}
use Rattle.heap_pictures.specs.declared.pictures.Arrow.{Arrow}
use Rattle.heap_pictures.specs.declared.pictures.ObjectNode.{ObjectNode}
use Rattle.heap_pictures.specs.declared.pictures.PeerNode.{PeerNode}
use Rattle.heap_pictures.specs.Flags.{is_in}
use Rattle.heap_pictures.specs.Pictures.{Drawing}
use Rattle.picture_sheets.specs.Same.{same_arrow}

-- three pictures; the dead part and the candidates stand with what stays
pub record Sheet : Type 0 where
  pub stay : Drawing
  pub came : Drawing
  pub went : Drawing

-- nothing is drawn
abbrev pub blank : Drawing
blank = record { objects = []; peers = []; dead = []; candidates = []; arrows = [] }

-- one picture, all of which stays
abbrev pub alone : Drawing → Sheet
alone d = record { stay = d; came = blank; went = blank }

-- whether a picture has a node of that name, or that arrow
abbrev pub objects_in : Drawing → List ℕ
objects_in d = map (λ n. n.m) d.objects

abbrev pub peers_in : Drawing → List ℕ
peers_in d = map (λ n. n.p) d.peers

abbrev pub has_object : Drawing → ObjectNode → Bool
has_object d n = is_in (objects_in d) n.m

abbrev pub has_peer : Drawing → PeerNode → Bool
has_peer d n = is_in (peers_in d) n.p

abbrev pub has_arrow : Drawing → Arrow → Bool
has_arrow d a = list_any (same_arrow a) d.arrows

-- of one picture what the other one has too, with all of its dead part and its candidates
abbrev pub shared : Drawing → Drawing → Drawing
shared d other = record {
  objects = filter (has_object other) d.objects;
  peers = filter (has_peer other) d.peers;
  dead = d.dead;
  candidates = d.candidates;
  arrows = filter (has_arrow other) d.arrows;
}

-- of one picture what the other one hasn't
abbrev pub lone : Drawing → Drawing → Drawing
lone d other = record {
  objects = filter (λ n. not (has_object other n)) d.objects;
  peers = filter (λ n. not (has_peer other n)) d.peers;
  dead = [];
  candidates = [];
  arrows = filter (λ a. not (has_arrow other a)) d.arrows;
}

-- two pictures, an earlier and a later one: what both have, what the later one alone has, and what the earlier one
-- alone has
abbrev pub compared : Drawing → Drawing → Sheet
compared old new = record { stay = shared new old; came = lone new old; went = lone old new }
