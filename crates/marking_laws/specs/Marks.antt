-- What the marks of the peer rows keep against the definition of the peer list, while a marking is open. (Textbook: a
-- snapshot-at-the-beginning marking; the rest is this project's own.)
use Rattle.std.specs.Prelude.{◌≡◌, ℕ, ◌⊎◌, ◌↔◌, Bool, true, List, Contains, Some}
use Rattle.joint_machine.specs.Heaps.{IsLive, HasField, InSlot}
use Rattle.joint_machine.specs.PeerReplay.{PeerReplay, Marking, IsMarked, MarkingEdge, HasReference, strong_peers}
use Rattle.joint_laws.specs.PeerInvariants.{PeerInvariant}
use Rattle.reachability.specs.Marks.{HasMark}

-- a slot or a strong handle names the peer now
abbrev pub IsRootNow : PeerReplay → ℕ → Type 0
IsRootNow s p = InSlot s.peers.heap p ⊎ Contains (strong_peers s.peers.issued s.table) p

-- the edges that the marking follows now: the fields, and the mirrored references if it follows them
abbrev pub EdgeNow : PeerReplay → Bool → ℕ → ℕ → Type 0
EdgeNow s follows p q = HasField s.peers.heap p q ⊎ ((follows ≡ true) × HasReference s.peers.heap s.refs p q)

-- the peers without a mark, of those that are unfreed
abbrev pub IsWithoutMark : PeerReplay → List Bool → ℕ → Type 0
IsWithoutMark s marks p = IsLive s.peers.heap p × (HasMark marks p → ⊥)

-- the marks are exact: what was freed stays freed; a peer made since the begin has a mark; another one has a mark
-- exactly where the definition has it as marked; and an edge of the begin leads to a peer with a mark, or begins at one
-- without a mark and still stands
pub record AreMarksExact (s : PeerReplay) (mk : Marking) (follows : Bool) (marks : List Bool) : Type 0 where
  pub older : (p : ℕ) → Contains mk.heap.freed p → Contains s.peers.heap.freed p
  pub fresh : (p : ℕ) → IsLive s.peers.heap p → (IsLive mk.heap p → ⊥) → HasMark marks p
  pub exact : (p : ℕ) → IsLive mk.heap p → (HasMark marks p ↔ IsMarked mk p)
  pub unmarked : (p q : ℕ) → MarkingEdge mk p q → HasMark marks q ⊎ ((HasMark marks p → ⊥) × EdgeNow s follows p q)

-- a marking is open, in a state as lawful pasts lead to, and its marks are exact
pub record IsMarkedSide (s : PeerReplay) (mk : Marking) (follows : Bool) (marks : List Bool) : Type 0 where
  pub kept : PeerInvariant s
  pub opened : s.marking ≡ Some mk
  pub right : AreMarksExact s mk follows marks
