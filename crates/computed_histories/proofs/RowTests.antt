-- The tests of a heap's rows, of what fields reach, and of what a snapshot and a resolution free tell what the
-- definitions say.
use Rattle.std.proofs.Common.{◌≡◌, ℕ, zero, suc, ◌+◌, ◌<◌, ◌≤◌, ◌↔◌, inl, inr, ⊎_elim, true, not, ◌&&◌, List, [], ◌∷◌, length, refl, sym, ap, arith, nat_eq, Some, None, Option, slice_get}
use Rattle.std.specs.List.{Contains, filter}
use Rattle.joint_machine.specs.Components.{Rises}
use Rattle.joint_machine.specs.Cycles.{IsSnapshot, IsResolution, IsAnsweredAlive}
use Rattle.joint_machine.specs.Heaps.{Heap, IsLive, HasField, InSlot, fields_of, numbered_at}
use Rattle.joint_machine.specs.Managed.{Managed, IsBridge, IsManagedRoot, ManagedEdge, IsManagedReached, IsBridgeReached}
use Rattle.joint_machine.specs.Told.{Answer, said_alive, said_cleared}
use Rattle.joint_machine.specs.Walks.{Reaches, Reached}
use Rattle.computed_histories.specs.Lists.{mem, has, somes}
use Rattle.computed_histories.specs.Rows.{is_live, all_rows, heap_next, slot_rows, field_reach, managed_roots, has_handle, is_bridge, bridge_rows, slot_reach, bridge_reach, is_surveyed, is_snapshot}
use Rattle.computed_histories.specs.Rows.{is_resolution, answered_alive}
use Rattle.computed_histories.proofs.Telling.{Tells, always, never, like, isn't, and2, and3, or2, same, upto, empty}
use Rattle.computed_histories.proofs.Reaching.{member, member_append, member_filter, filtered, where_it_holds, reached, counted, in_somes, rising_exactly}

pub live : (h : Heap) (x : ℕ) → Tells (is_live h x) (IsLive h x)
live h x = like {P = (1 ≤ x) × (x ≤ length h.fields) × (Contains h.freed x → ⊥)} (λ p. record { made = (p.0, p.1); kept = p.2 }) (λ l. (l.made.0, l.made.1, l.kept))
    (and3 (upto 1 x) (upto x (length h.fields)) (isn't (member nat_eq same h.freed x)))

pub live_row : (h : Heap) (x : ℕ) → IsLive h x → mem nat_eq (all_rows h) x ≡ true
live_row h x l = (counted 1 (length h.fields) x).passes (l.made.0, below l.made.1)
  where
    below : x ≤ length h.fields → x < 1 + length h.fields
    below u = omega arith

pub field : (h : Heap) (x y : ℕ) → Tells (mem nat_eq (heap_next h x) y) (HasField h x y)
field h x y = like {P = IsLive h x × (Contains (fields_of h x) (Some y) × IsLive h y)} (λ p. record { live = p.0; field = p.1.0; there = p.1.1 }) (λ f. (f.live, (f.field, f.there)))
    (where_it_holds nat_eq same (is_live h x) (filter (is_live h) (somes (fields_of h x))) y (IsLive h x) (Contains (fields_of h x) (Some y) × IsLive h y) (live h x)
    (filtered nat_eq same (is_live h) (somes (fields_of h x)) y (Contains (fields_of h x) (Some y)) (IsLive h y) (in_somes (fields_of h x) y) (live h y)))

-- fields lead to rows that were made
pub field_inside : (h : Heap) (x y : ℕ) → mem nat_eq (heap_next h x) y ≡ true → Contains (all_rows h) y
field_inside h x y m = (member nat_eq same (all_rows h) y).holds (live_row h y ((field h x y).holds m).there)

pub slot_row : (h : Heap) (x : ℕ) → Tells (mem nat_eq (slot_rows h) x) (InSlot h x)
slot_row h x = member_append nat_eq same (somes h.vars) (somes h.statics) x (Contains h.vars (Some x)) (Contains h.statics (Some x)) (in_somes h.vars x) (in_somes h.statics x)

pub managed_root : (s : Managed) (m : ℕ) → Tells (mem nat_eq (managed_roots s) m) (IsManagedRoot s m)
managed_root s m = member_append nat_eq same (slot_rows s.heap) (somes s.pins) m (InSlot s.heap m) (Contains s.pins (Some m)) (slot_row s.heap m) (in_somes s.pins m)

pub handle_there : (o : Option (Option ℕ)) → Tells (has_handle o) ((h : ℕ) × (o ≡ Some (Some h)))
handle_there None = never (λ p. let e = p.1 in cc)
handle_there (Some None) = never (λ p. let e = p.1 in cc)
handle_there (Some (Some h)) = always (h, refl)

pub bridge : (s : Managed) (m : ℕ) → Tells (is_bridge s m) (IsBridge s m)
bridge s m = like {P = IsLive s.heap m × ((h : ℕ) × (numbered_at s.held m ≡ Some (Some h)))} (λ p. (p.1.0, record { live = p.0; held = p.1.1 })) (λ b. (b.1.live, (b.0, b.1.held)))
    (and2 (live s.heap m) (handle_there (numbered_at s.held m)))

pub bridge_row : (s : Managed) (m : ℕ) → Tells (mem nat_eq (bridge_rows s) m) (IsBridge s m)
bridge_row s m = like (λ p. (bridge s m).holds p.1) (λ b. (live_row s.heap m b.1.live, (bridge s m).passes b)) (member_filter nat_eq same (is_bridge s) (all_rows s.heap) m)

pub field_reached : (s : Managed) (start : ℕ → Type 0) (roots : List ℕ) → ((m : ℕ) → Tells (mem nat_eq roots m) (start m))
    → (m : ℕ) → Tells (has (field_reach s.heap roots) m) (Reached start (ManagedEdge s) m)
field_reached s start roots from m = reached nat_eq same (heap_next s.heap) (all_rows s.heap) (field_inside s.heap) start (ManagedEdge s) roots from (field s.heap) m

pub slot_reached : (s : Managed) (m : ℕ) → Tells (has (slot_reach s) m) (IsManagedReached s m)
slot_reached s m = field_reached s (IsManagedRoot s) (managed_roots s) (managed_root s) m

pub bridge_reached : (s : Managed) (m : ℕ) → Tells (has (bridge_reach s) m) (IsBridgeReached s m)
bridge_reached s m = field_reached s (IsBridge s) (bridge_rows s) (bridge_row s) m

-- a snapshot
pub surveyed : (s : Managed) (slots bridges freed candidates dead : List ℕ) → ((m : ℕ) → Tells (has slots m) (IsManagedReached s m)) → ((m : ℕ) → Tells (has bridges m) (IsBridgeReached s m))
    → Tells (is_surveyed s slots bridges freed candidates dead)
    ((Rises freed × ((m : ℕ) → Contains freed m ↔ (IsLive s.heap m × (IsManagedReached s m → ⊥) × (IsBridgeReached s m → ⊥))))
    × (Rises candidates × ((m : ℕ) → Contains candidates m ↔ (IsBridge s m × (IsManagedReached s m → ⊥))))
    × (Rises dead × ((m : ℕ) → Contains dead m ↔ (IsLive s.heap m × (IsManagedReached s m → ⊥) × (Contains freed m → ⊥)))))
surveyed s slots bridges freed candidates dead t u = and3
    (rising_exactly (all_rows s.heap) (λ m. is_live s.heap m && not (has slots m) && not (has bridges m)) (λ m. IsLive s.heap m × (IsManagedReached s m → ⊥) × (IsBridgeReached s m → ⊥)) freed
    (λ m. and3 (live s.heap m) (isn't (t m)) (isn't (u m))) (λ m p. live_row s.heap m p.0))
    (rising_exactly (all_rows s.heap) (λ m. is_bridge s m && not (has slots m)) (λ m. IsBridge s m × (IsManagedReached s m → ⊥)) candidates
    (λ m. and2 (bridge s m) (isn't (t m))) (λ m p. live_row s.heap m p.0.1.live))
    (rising_exactly (all_rows s.heap) (λ m. is_live s.heap m && not (has slots m) && not (has freed m)) (λ m. IsLive s.heap m × (IsManagedReached s m → ⊥) × (Contains freed m → ⊥)) dead
    (λ m. and3 (live s.heap m) (isn't (t m)) (isn't (member nat_eq same freed m))) (λ m p. live_row s.heap m p.0))

pub snapshot : (s : Managed) (k : ℕ) (freed candidates dead : List ℕ) → Tells (is_snapshot s k freed candidates dead) (IsSnapshot s k freed candidates dead)
snapshot s k freed candidates dead = like
    (λ p. record { closed = p.0; next = p.1; freed_rise = p.2.0.0; frees = p.2.0.1; candidates_rise = p.2.1.0; picks = p.2.1.1; dead_rise = p.2.2.0; leaves = p.2.2.1 })
    (λ r. (r.closed, r.next, ((r.freed_rise, r.frees), (r.candidates_rise, r.picks), (r.dead_rise, r.leaves))))
    (and3 (empty s.cycle) (same k (s.cycles + 1)) (surveyed s (slot_reach s) (bridge_reach s) freed candidates dead (slot_reached s) (bridge_reached s)))

-- a resolution
pub resolution : (s : Managed) (dead : List ℕ) (kept : ℕ → Type 0) (rows freed : List ℕ)
    → ((m : ℕ) → Tells (mem nat_eq rows m) (kept m)) → Tells (is_resolution s dead rows freed) (IsResolution s dead kept freed)
resolution s dead kept rows freed from = like
    (λ p. record { rise = p.0; frees = p.1 })
    (λ r. (r.rise, r.frees))
    (rising_exactly dead (λ m. has dead m && not (has (field_reach s.heap rows) m)) (λ m. Contains dead m × (((x : ℕ) × kept x × Reaches (ManagedEdge s) x m) → ⊥)) freed
    (λ m. and2 (member nat_eq same dead m) (isn't (like (λ r. (r.root, r.starts, r.reaches)) (λ p. record { root = p.0; starts = p.1; reaches = p.2 }) (field_reached s kept rows from m))))
    (λ m p. (member nat_eq same dead m).passes p.0))

-- the candidates that were answered alive
answered_there : (cs : List ℕ) (answers : List Answer) (m i h : ℕ) → slice_get cs i ≡ Some m → slice_get answers i ≡ Some (said_alive h) → mem nat_eq (answered_alive cs answers) m ≡ true
answered_there [] answers m i h p q = cc
answered_there (c ∷ cs) [] m i h p q = cc
answered_there (c ∷ cs) (said_alive g ∷ answers) m zero h p q = let e : m ≡ c = cc in (or2 (same m c) (member nat_eq same (answered_alive cs answers) m)).passes (inl e)
answered_there (c ∷ cs) (said_cleared ∷ answers) m zero h p q = cc
answered_there (c ∷ cs) (said_alive g ∷ answers) m (suc i) h p q = (or2 (same m c) (member nat_eq same (answered_alive cs answers) m)).passes
    (inr ((member nat_eq same (answered_alive cs answers) m).holds (answered_there cs answers m i h p q)))
answered_there (c ∷ cs) (said_cleared ∷ answers) m (suc i) h p q = answered_there cs answers m i h p q

answered_from : (cs : List ℕ) (answers : List Answer) (m : ℕ) → mem nat_eq (answered_alive cs answers) m ≡ true → IsAnsweredAlive cs answers m
answered_from [] answers m h = absurd ((never {P = ⊥} (λ e. e)).holds h)
answered_from (c ∷ cs) [] m h = absurd ((never {P = ⊥} (λ e. e)).holds h)
answered_from (c ∷ cs) (said_alive g ∷ answers) m h = ⊎_elim
    (λ e. (0, ap (λ z. Some z) (sym e), (g, refl)))
    (λ d. let r = answered_from cs answers m ((member nat_eq same (answered_alive cs answers) m).passes d) in (suc r.0, r.1, r.2))
    ((or2 (same m c) (member nat_eq same (answered_alive cs answers) m)).holds h)
answered_from (c ∷ cs) (said_cleared ∷ answers) m h = let r = answered_from cs answers m h in (suc r.0, r.1, r.2)

pub answered : (cs : List ℕ) (answers : List Answer) (m : ℕ) → Tells (mem nat_eq (answered_alive cs answers) m) (IsAnsweredAlive cs answers m)
answered cs answers m = record { holds = answered_from cs answers m; passes = λ a. answered_there cs answers m a.0 a.2.0 a.1 a.2.1 }
