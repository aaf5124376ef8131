-- What the one graph of both heaps reaches from its roots, and the peers that nothing reaches, by computing.
use Rattle.std.specs.Prelude.{ℕ, ◌↔◌, Bool, false, not, ◌&&◌, nat_eq, IsTrue, List, [], ◌∷◌, ◌++◌, length, map, filter}
use Rattle.std.specs.Prelude.{flat_map, Option, Some, None}
use Rattle.std.specs.List.{list_any}
use Rattle.joint_machine.specs.Heaps.{Heap, numbered_at}
use Rattle.joint_machine.specs.Joint.{Graph, Row, object, peer, IsReachedIn}
use Rattle.joint_machine.specs.Replaying.{AreUnreached}
use Rattle.joint_machine.specs.Managed.{Managed}
use Rattle.joint_machine.specs.Peers.{Issued, peer_of, is_held, is_strong}
use Rattle.computed_histories.specs.Lists.{mem, has, reach, count_from, rises_exactly, where_true}
use Rattle.computed_histories.specs.Rows.{is_live, all_rows, heap_next, slot_rows, managed_roots}

-- whether two rows are the same
abbrev pub row_eq : Row → Row → Bool
row_eq (object x) (object y) = nat_eq x y
row_eq (object x) (peer y) = false
row_eq (peer x) (object y) = false
row_eq (peer x) (peer y) = nat_eq x y

-- rows of both heaps
abbrev pub rows_of : List ℕ → List ℕ → List Row
rows_of objects peers = map object objects ++ map peer peers

-- the live peer that a handle leads to, and the live peer of a place's handle
abbrev pub live_peer : Heap → Option ℕ → List ℕ
live_peer h None = []
live_peer h (Some p) = where_true (is_live h p) (p ∷ [])

abbrev pub held_peer : Graph → Option (Option ℕ) → List ℕ
held_peer g None = []
held_peer g (Some None) = []
held_peer g (Some (Some h)) = live_peer g.peers.heap (peer_of g.peers.issued h)

-- the peer of a managed row, and the managed rows of a peer
abbrev pub joined_peers : Graph → ℕ → List ℕ
joined_peers g m = where_true (is_live g.managed.heap m) (held_peer g (numbered_at g.managed.held m))

abbrev pub joined_objects : Graph → ℕ → List ℕ
joined_objects g p = filter (λ m. has (joined_peers g m) p) (all_rows g.managed.heap)

-- where the joint edges of a row lead
abbrev pub joint_next : Graph → Row → List Row
joint_next g (object x) = rows_of (heap_next g.managed.heap x) (joined_peers g x)
joint_next g (peer p) = rows_of (joined_objects g p) (heap_next g.peers.heap p)

-- whether a managed row holds the handle, and whether none does
abbrev pub is_handle_here : Option (Option ℕ) → ℕ → Bool
is_handle_here None h = false
is_handle_here (Some None) h = false
is_handle_here (Some (Some g)) h = nat_eq g h

abbrev pub is_loose : Managed → ℕ → Bool
is_loose s h = not (list_any (λ m. is_live s.heap m && is_handle_here (numbered_at s.held m) h) (all_rows s.heap))

-- whether a handle is a raw strong one, or a held one that no managed row holds
abbrev pub is_raw_root : ℕ → Issued → Bool
is_raw_root h i = not (is_held i.hold) && is_strong i.strength

abbrev pub is_loose_root : Graph → ℕ → Issued → Bool
is_loose_root g h i = is_held i.hold && is_loose g.managed h

-- the peer of a handle that was issued and isn't removed, where a test of it holds
abbrev pub is_kept : Option Bool → Bool
is_kept None = false
is_kept (Some gone) = not gone

abbrev pub issued_peer : Option Issued → (Issued → Bool) → List ℕ
issued_peer None test = []
issued_peer (Some i) test = where_true (test i) (i.peer ∷ [])

abbrev pub handle_peers : Graph → (ℕ → Issued → Bool) → ℕ → List ℕ
handle_peers g test h = where_true (is_kept (numbered_at g.removed h))
    (issued_peer (numbered_at g.peers.issued h) (test h))

-- the peers of all handles that pass the test
abbrev pub rooted_peers : Graph → (ℕ → Issued → Bool) → List ℕ
rooted_peers g test = flat_map (handle_peers g test) (count_from 1 (length g.peers.issued))

-- the joint roots
abbrev pub peer_roots : Graph → List ℕ
peer_roots g = slot_rows g.peers.heap ++ (rooted_peers g is_raw_root ++ rooted_peers g (is_loose_root g))

abbrev pub joint_roots : Graph → List Row
joint_roots g = rows_of (managed_roots g.managed) (peer_roots g)

-- all rows of both heaps, and what the roots reach
abbrev pub graph_rows : Graph → List Row
graph_rows g = rows_of (all_rows g.managed.heap) (all_rows g.peers.heap)

abbrev pub joint_reach : Graph → List Row
joint_reach g = reach row_eq (joint_next g) (length (graph_rows g)) (joint_roots g)

-- whether the row is reached
abbrev pub is_reached : Graph → Row → Bool
is_reached g x = mem row_eq (joint_reach g) x

-- whether the list has exactly the unfreed peers that aren't reached
abbrev pub are_unreached_of : Graph → List Row → List ℕ → Bool
are_unreached_of g reached peers = rises_exactly (all_rows g.peers.heap)
    (λ p. is_live g.peers.heap p && not (mem row_eq reached (peer p))) peers

abbrev pub are_unreached : Graph → List ℕ → Bool
are_unreached g peers = are_unreached_of g (joint_reach g) peers

-- the tests tell exactly what the definitions say
abbrev pub ReachedIsTested : Type 0
ReachedIsTested = (g : Graph) (x : Row) → IsTrue (is_reached g x) ↔ IsReachedIn g x

abbrev pub UnreachedAreTested : Type 0
UnreachedAreTested = (g : Graph) (peers : List ℕ) → IsTrue (are_unreached g peers) ↔ AreUnreached g peers
