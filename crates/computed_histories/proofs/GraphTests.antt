-- The tests of what the one graph of both heaps reaches tell what the definitions say: each edge and each root is
-- listed, and edges lead to rows that were made.
use Rattle.std.proofs.Common.{◌≡◌, ℕ, ◌≤◌, ◌⊎◌, inl, inr, ⊎_elim, Bool, true, false, not, ◌&&◌, List, [], ◌∷◌, ◌++◌, map, length, refl, sym, ap, subst, arith, nat_eq, Some, None, Option}
use Rattle.std.specs.List.{Contains}
use Rattle.joint_machine.proofs.Members.{Contains-map, Contains-map_cases}
use Rattle.joint_machine.proofs.Numbered.{numbered-within}
use Rattle.joint_machine.specs.Heaps.{Heap, IsLive, HasField, InSlot, numbered_at}
use Rattle.joint_machine.specs.Joint.{Graph, Row, object, peer, IsJoined, JointEdge, IsHandle, IsRawRoot, IsLooseRoot, IsJointRoot, IsReachedIn}
use Rattle.joint_machine.specs.Replaying.{AreUnreached}
use Rattle.joint_machine.specs.Managed.{Managed, Holds, IsManagedRoot}
use Rattle.joint_machine.specs.Peers.{Issued, Hold, held, raw, strong, peer_of, is_held}
use Rattle.computed_histories.specs.Lists.{mem, has, count_from}
use Rattle.computed_histories.specs.Rows.{is_live, all_rows, heap_next, slot_rows, managed_roots}
use Rattle.computed_histories.specs.Graphs.{row_eq, rows_of, live_peer, held_peer, joined_peers, joined_objects, joint_next, is_handle_here, is_loose, is_raw_root, is_loose_root, is_kept, issued_peer}
use Rattle.computed_histories.specs.Graphs.{handle_peers, rooted_peers, peer_roots, joint_roots, graph_rows, is_reached, are_unreached, ReachedIsTested, UnreachedAreTested}
use Rattle.computed_histories.proofs.Telling.{Tells, always, never, like, isn't, and2, or2, same}
use Rattle.computed_histories.proofs.Reaching.{any_in, member, member_append, member_filter, member_flat_map, where_it_holds, reached, counted, rising_exactly}
use Rattle.computed_histories.proofs.RowTests.{live, live_row, field, slot_row, managed_root}
use Rattle.computed_histories.proofs.SideTests.{holds_held, is_strong_now}

-- rows
object_same : (a b : ℕ) → object a ≡ object b → a ≡ b
object_same a b e = cc

peer_same : (a b : ℕ) → peer a ≡ peer b → a ≡ b
peer_same a b e = cc

not_both : (a b : ℕ) → object a ≡ peer b → ⊥
not_both a b e = cc

pub rows : (a b : Row) → Tells (row_eq a b) (a ≡ b)
rows (object x) (object y) = like (λ e. ap object e) (object_same x y) (same x y)
rows (object x) (peer y) = never (not_both x y)
rows (peer x) (object y) = never (λ e. not_both y x (sym e))
rows (peer x) (peer y) = like (λ e. ap peer e) (peer_same x y) (same x y)

pub an_object : (objects peers : List ℕ) (x : ℕ) (P : Type 0) → Tells (mem nat_eq objects x) P → Tells (mem row_eq (rows_of objects peers) (object x)) P
an_object objects peers x P t = like {P = P ⊎ ⊥} (λ s. ⊎_elim (λ p. p) (λ z. absurd z) s) (λ p. inl p)
    (member_append row_eq rows (map object objects) (map peer peers) (object x) P ⊥
    (like (λ c. let r = Contains-map_cases object objects (object x) c in t.holds ((member nat_eq same objects x).passes (subst (Contains objects) (object_same r.0 x r.2) r.1)))
    (λ p. Contains-map object objects x ((member nat_eq same objects x).holds (t.passes p))) (member row_eq rows (map object objects) (object x)))
    (like (λ c. let r = Contains-map_cases peer peers (object x) c in not_both x r.0 (sym r.2)) (λ z. absurd z) (member row_eq rows (map peer peers) (object x))))

pub a_peer : (objects peers : List ℕ) (x : ℕ) (P : Type 0) → Tells (mem nat_eq peers x) P → Tells (mem row_eq (rows_of objects peers) (peer x)) P
a_peer objects peers x P t = like {P = ⊥ ⊎ P} (λ s. ⊎_elim (λ z. absurd z) (λ p. p) s) (λ p. inr p)
    (member_append row_eq rows (map object objects) (map peer peers) (peer x) ⊥ P
    (like (λ c. let r = Contains-map_cases object objects (peer x) c in not_both r.0 x r.2) (λ z. absurd z) (member row_eq rows (map object objects) (peer x)))
    (like (λ c. let r = Contains-map_cases peer peers (peer x) c in t.holds ((member nat_eq same peers x).passes (subst (Contains peers) (peer_same r.0 x r.2) r.1)))
    (λ p. Contains-map peer peers x ((member nat_eq same peers x).holds (t.passes p))) (member row_eq rows (map peer peers) (peer x))))

-- the peer of a managed row
pub inside_handle : (a b : ℕ) → Some (Some a) ≡ Some (Some b) → b ≡ a
inside_handle a b e = cc

inside : (a b : ℕ) → Some a ≡ Some b → a ≡ b
inside a b e = cc

only : (x y : ℕ) → Tells (mem nat_eq (x ∷ []) y) (x ≡ y)
only x y = like {P = (y ≡ x) ⊎ ⊥} (λ s. ⊎_elim (λ e. sym e) (λ z. absurd z) s) (λ e. inl (sym e)) (or2 (same y x) (never {P = ⊥} (λ z. z)))

live_there : (h : Heap) (o : Option ℕ) (p : ℕ) → Tells (mem nat_eq (live_peer h o) p) ((o ≡ Some p) × IsLive h p)
live_there h None p = never (λ q. let e = q.0 in cc)
live_there h (Some x) p = like {P = IsLive h x × (x ≡ p)} (λ q. (ap (λ z. Some z) q.1, subst (IsLive h) q.1 q.0)) (λ q. (subst (IsLive h) (sym (inside x p q.0)) q.1, inside x p q.0))
    (where_it_holds nat_eq same (is_live h x) (x ∷ []) p (IsLive h x) (x ≡ p) (live h x) (only x p))

held_there : (g : Graph) (o : Option (Option ℕ)) (p : ℕ) → Tells (mem nat_eq (held_peer g o) p) ((h : ℕ) × (o ≡ Some (Some h)) × (peer_of g.peers.issued h ≡ Some p) × IsLive g.peers.heap p)
held_there g None p = never (λ q. let e = q.1 in cc)
held_there g (Some None) p = never (λ q. let e = q.1 in cc)
held_there g (Some (Some h)) p = like (λ r. (h, refl, r.0, r.1))
    (λ q. (subst (λ k. peer_of g.peers.issued k ≡ Some p) (inside_handle h q.0 q.1) q.2, q.3)) (live_there g.peers.heap (peer_of g.peers.issued h) p)

joined_peer : (g : Graph) (m p : ℕ) → Tells (mem nat_eq (joined_peers g m) p) (IsJoined g m p)
joined_peer g m p = like {P = IsLive g.managed.heap m × ((h : ℕ) × (numbered_at g.managed.held m ≡ Some (Some h)) × (peer_of g.peers.issued h ≡ Some p) × IsLive g.peers.heap p)}
    (λ q. record { handle = q.1.0; holds = record { live = q.0; held = q.1.1 }; leads = q.1.2; live = q.1.3 })
    (λ r. (r.holds.live, (r.handle, r.holds.held, r.leads, r.live)))
    (where_it_holds nat_eq same (is_live g.managed.heap m) (held_peer g (numbered_at g.managed.held m)) p (IsLive g.managed.heap m)
    ((h : ℕ) × (numbered_at g.managed.held m ≡ Some (Some h)) × (peer_of g.peers.issued h ≡ Some p) × IsLive g.peers.heap p)
    (live g.managed.heap m) (held_there g (numbered_at g.managed.held m) p))

joined_object : (g : Graph) (m p : ℕ) → Tells (mem nat_eq (joined_objects g p) m) (IsJoined g m p)
joined_object g m p = like (λ q. (joined_peer g m p).holds q.1) (λ r. (live_row g.managed.heap m r.holds.live, (joined_peer g m p).passes r))
    (member_filter nat_eq same (λ m. has (joined_peers g m) p) (all_rows g.managed.heap) m)

-- edges
pub joint_edge : (g : Graph) (x y : Row) → Tells (mem row_eq (joint_next g x) y) (JointEdge g x y)
joint_edge g (object x) (object y) = an_object (heap_next g.managed.heap x) (joined_peers g x) y (HasField g.managed.heap x y) (field g.managed.heap x y)
joint_edge g (object x) (peer p) = a_peer (heap_next g.managed.heap x) (joined_peers g x) p (IsJoined g x p) (joined_peer g x p)
joint_edge g (peer p) (object x) = an_object (joined_objects g p) (heap_next g.peers.heap p) x (IsJoined g x p) (joined_object g x p)
joint_edge g (peer p) (peer q) = a_peer (joined_objects g p) (heap_next g.peers.heap p) q (HasField g.peers.heap p q) (field g.peers.heap p q)

made_object : (g : Graph) (x : ℕ) → IsLive g.managed.heap x → mem row_eq (graph_rows g) (object x) ≡ true
made_object g x l = (an_object (all_rows g.managed.heap) (all_rows g.peers.heap) x (mem nat_eq (all_rows g.managed.heap) x ≡ true) (record { holds = λ e. e; passes = λ e. e })).passes
    (live_row g.managed.heap x l)

made_peer : (g : Graph) (p : ℕ) → IsLive g.peers.heap p → mem row_eq (graph_rows g) (peer p) ≡ true
made_peer g p l = (a_peer (all_rows g.managed.heap) (all_rows g.peers.heap) p (mem nat_eq (all_rows g.peers.heap) p ≡ true) (record { holds = λ e. e; passes = λ e. e })).passes
    (live_row g.peers.heap p l)

edge_made : (g : Graph) (x y : Row) → JointEdge g x y → mem row_eq (graph_rows g) y ≡ true
edge_made g (object x) (object y) e = made_object g y e.there
edge_made g (object x) (peer p) e = made_peer g p e.live
edge_made g (peer p) (object x) e = made_object g x e.holds.live
edge_made g (peer p) (peer q) e = made_peer g q e.there

edge_inside : (g : Graph) (x y : Row) → mem row_eq (joint_next g x) y ≡ true → Contains (graph_rows g) y
edge_inside g x y m = (member row_eq rows (graph_rows g) y).holds (edge_made g x y ((joint_edge g x y).holds m))

-- handles
kept_flag : (o : Option Bool) → Tells (is_kept o) (o ≡ Some false)
kept_flag None = never (λ e. cc)
kept_flag (Some true) = never (λ e. cc)
kept_flag (Some false) = always refl

holds_raw : (x : Hold) → Tells (not (is_held x)) (x ≡ raw)
holds_raw held = never (λ e. cc)
holds_raw raw = always refl

pub handle_here : (o : Option (Option ℕ)) (h : ℕ) → Tells (is_handle_here o h) (o ≡ Some (Some h))
handle_here None h = never (λ e. cc)
handle_here (Some None) h = never (λ e. cc)
handle_here (Some (Some g)) h = like (λ e. ap (λ z. Some (Some z)) e) (λ e. sym (inside_handle g h e)) (same g h)

loose : (s : Managed) (h : ℕ) → Tells (is_loose s h) ((m : ℕ) → Holds s m h → ⊥)
loose s h = like (λ f m r. f (m, r)) (λ f p. f p.0 p.1) (isn't (like {Q = (m : ℕ) × Holds s m h} (λ p. (p.0, record { live = p.2.0; held = p.2.1 }))
    (λ p. (p.0, (member nat_eq same (all_rows s.heap) p.0).holds (live_row s.heap p.0 p.1.live), (p.1.live, p.1.held)))
    (any_in (all_rows s.heap) (λ m. is_live s.heap m && is_handle_here (numbered_at s.held m) h) (λ m. IsLive s.heap m × (numbered_at s.held m ≡ Some (Some h)))
    (λ m. and2 (live s.heap m) (handle_here (numbered_at s.held m) h)))))

inside_issued : (a b : Issued) → Some a ≡ Some b → b ≡ a
inside_issued a b e = cc

issued_there : (o : Option Issued) (test : Issued → Bool) (P : Issued → Type 0) → ((i : Issued) → Tells (test i) (P i))
    → (p : ℕ) → Tells (mem nat_eq (issued_peer o test) p) ((i : Issued) × (o ≡ Some i) × P i × (i.peer ≡ p))
issued_there None test P t p = never (λ q. let e = q.1 in cc)
issued_there (Some i) test P t p = like (λ r. (i, refl, r.0, r.1)) (λ q. (subst P (inside_issued i q.0 q.1) q.2, subst (λ (k : Issued). k.peer ≡ p) (inside_issued i q.0 q.1) q.3))
    (where_it_holds nat_eq same (test i) (i.peer ∷ []) p (P i) (i.peer ≡ p) (t i) (only i.peer p))

rooted : (g : Graph) (test : ℕ → Issued → Bool) (P : ℕ → Issued → Type 0) → ((h : ℕ) (i : Issued) → Tells (test h i) (P h i)) → (p : ℕ)
    → Tells (mem nat_eq (rooted_peers g test) p) ((h : ℕ) × (i : Issued) × IsHandle g h i × P h i × (i.peer ≡ p))
rooted g test P t p = like
    (λ r. let q = (one r.0).holds r.2 in (r.0, q.1.0, record { issued = q.1.1; kept = q.0 }, q.1.2, q.1.3))
    (λ q. (q.0, in_range q.0 (numbered-within g.peers.issued q.0 q.1 q.2.issued), (one q.0).passes (q.2.kept, (q.1, q.2.issued, q.3, q.4))))
    (member_flat_map nat_eq same (handle_peers g test) (count_from 1 (length g.peers.issued)) p)
  where
    one : (h : ℕ) → Tells (mem nat_eq (handle_peers g test h) p) ((numbered_at g.removed h ≡ Some false) × ((i : Issued) × (numbered_at g.peers.issued h ≡ Some i) × P h i × (i.peer ≡ p)))
    one h = where_it_holds nat_eq same (is_kept (numbered_at g.removed h)) (issued_peer (numbered_at g.peers.issued h) (test h)) p (numbered_at g.removed h ≡ Some false)
        ((i : Issued) × (numbered_at g.peers.issued h ≡ Some i) × P h i × (i.peer ≡ p)) (kept_flag (numbered_at g.removed h)) (issued_there (numbered_at g.peers.issued h) (test h) (P h) (t h) p)

    in_range : (h : ℕ) → (1 ≤ h) × (h ≤ length g.peers.issued) → Contains (count_from 1 (length g.peers.issued)) h
    in_range h l = let a = l.0 in let b = l.1 in (member nat_eq same (count_from 1 (length g.peers.issued)) h).holds ((counted 1 (length g.peers.issued) h).passes (omega arith, omega arith))

-- roots
peer_root : (g : Graph) (p : ℕ) → Tells (mem nat_eq (peer_roots g) p) (IsJointRoot g (peer p))
peer_root g p = like {P = InSlot g.peers.heap p ⊎ (IsRawRoot g p ⊎ IsLooseRoot g p)} (λ s. s) (λ s. s)
    (member_append nat_eq same (slot_rows g.peers.heap) (rooted_peers g is_raw_root ++ rooted_peers g (is_loose_root g)) p
    (InSlot g.peers.heap p) (IsRawRoot g p ⊎ IsLooseRoot g p) (slot_row g.peers.heap p)
    (member_append nat_eq same (rooted_peers g is_raw_root) (rooted_peers g (is_loose_root g)) p (IsRawRoot g p) (IsLooseRoot g p)
    (like (λ q. record { handle = q.0; row = q.1; is_handle = q.2; raw_hold = q.3.0; strong_made = q.3.1; leads = q.4 }) (λ r. (r.handle, r.row, r.is_handle, (r.raw_hold, r.strong_made), r.leads))
    (rooted g is_raw_root (λ h i. (i.hold ≡ raw) × (i.strength ≡ strong)) (λ h i. and2 (holds_raw i.hold) (is_strong_now i.strength)) p))
    (like (λ q. record { handle = q.0; row = q.1; is_handle = q.2; held_hold = q.3.0; loose = q.3.1; leads = q.4 }) (λ r. (r.handle, r.row, r.is_handle, (r.held_hold, r.loose), r.leads))
    (rooted g (is_loose_root g) (λ h i. (i.hold ≡ held) × ((m : ℕ) → Holds g.managed m h → ⊥)) (λ h i. and2 (holds_held i.hold) (loose g.managed h)) p))))

joint_root : (g : Graph) (x : Row) → Tells (mem row_eq (joint_roots g) x) (IsJointRoot g x)
joint_root g (object x) = an_object (managed_roots g.managed) (peer_roots g) x (IsManagedRoot g.managed x) (managed_root g.managed x)
joint_root g (peer p) = a_peer (managed_roots g.managed) (peer_roots g) p (IsJointRoot g (peer p)) (peer_root g p)

-- what is reached
pub joint_reached : (g : Graph) (x : Row) → Tells (is_reached g x) (IsReachedIn g x)
joint_reached g x = reached row_eq rows (joint_next g) (graph_rows g) (edge_inside g) (IsJointRoot g) (JointEdge g) (joint_roots g) (joint_root g) (joint_edge g) x

pub unreached : (g : Graph) (peers : List ℕ) → Tells (are_unreached g peers) (AreUnreached g peers)
unreached g peers = like (λ p. record { rise = p.0; exact = p.1 }) (λ r. (r.rise, r.exact))
    (rising_exactly (all_rows g.peers.heap) (λ p. is_live g.peers.heap p && not (is_reached g (peer p))) (λ p. IsLive g.peers.heap p × (IsReachedIn g (peer p) → ⊥)) peers
    (λ p. and2 (live g.peers.heap p) (isn't (joint_reached g (peer p)))) (λ p q. live_row g.peers.heap p q.0))

-- as the contracts state it
pub reached_tested : ReachedIsTested
reached_tested g x = ((joint_reached g x).holds, (joint_reached g x).passes)

pub unreached_tested : UnreachedAreTested
unreached_tested g peers = ((unreached g peers).holds, (unreached g peers).passes)
