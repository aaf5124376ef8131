-- What a marking and a sweep do to the handles: strong ones are roots, and those on a freed peer are cleared. (The
-- Xamarin.Android documentation: a strong global reference keeps its peer alive, and a weak one is cleared when its
-- peer is collected.)
use Rattle.std.specs.Prelude.{ℕ, ◌⊎◌, ◌↔◌, Bool, List, [], ◌∷◌, ◌++◌, Contains, Option, if◌then◌else◌, nat_eq}
use Rattle.std.specs.List.{list_any}
use Rattle.joint_machine.specs.Heaps.{Heap, InSlot}
use Rattle.joint_machine.specs.PeerReplay.{PeerReplay, Marking, strong_peers}
use Rattle.reachability.specs.Marks.{IsClosed, HasMark}
use Rattle.global_handles.specs.declared.HandleRow.{HandleRow}
use Rattle.global_handles.specs.declared.Strength.{Strength}
use Rattle.global_handles.specs.declared.Strength.TheVariants.{Strong, Weak}
use Rattle.global_handles.specs.Rows.{cleared_row}
use Rattle.row_heap.specs.Marks.{EdgeOf}
use Rattle.row_marking.specs.Traces.{Chained}
use Rattle.peer_heap.specs.Rows.{Rows, peers_in}

-- the peer, where its handle is strong
abbrev pub strong_on : Strength → ℕ → List ℕ
strong_on Strong p = p ∷ []
strong_on Weak p = []

-- the peers of the strong rows
abbrev pub strong_in : List HandleRow → List ℕ
strong_in [] = []
strong_in (r ∷ rows) = strong_on r.strength r.peer.0 ++ strong_in rows

-- the roots of a marking that begins now: what slots name, and what strong handles name
abbrev pub IsRoot : Heap → List ℕ → ℕ → Type 0
IsRoot h strong_ones p = InSlot h p ⊎ Contains strong_ones p

-- just the roots have marks, and all of them are grey, in the list that begins there
pub record AreRootsGrey (root : ℕ → Type 0) (marks : List Bool) (links : List ℕ) (head : ℕ) : Type 0 where
  pub greys : List ℕ
  pub chained : Chained marks links head greys
  pub marked : (p : ℕ) → HasMark marks p ↔ root p
  pub grey : (p : ℕ) → Contains greys p ↔ HasMark marks p

-- a marking at its end: each root has a mark, and what a peer with a mark leads to has one
pub record IsWholeMarking (v : Rows) : Type 0 where
  pub slots : (p : ℕ) → InSlot v.rows.heap p → HasMark v.rows.marks p
  pub strong_ones : (p : ℕ) → Contains (strong_peers v.issued v.table) p → HasMark v.rows.marks p
  pub shut : IsClosed (EdgeOf v.rows) v.rows.marks

-- the rows, with each on one of these peers cleared
abbrev pub cleared_on : List ℕ → HandleRow → HandleRow
cleared_on freed r = if list_any (nat_eq r.peer.0) freed then cleared_row r else r

-- a state of the replay with these peers and handles, with the references of the rows, and with this marking
abbrev pub with_marking : PeerReplay → Rows → Option Marking → ℕ → PeerReplay
with_marking s v marking markings = record s
    { peers = peers_in v; table = v.table; refs = v.rows.refs; marking = marking; markings = markings }
