-- From marks to a snapshot. What a marking from the slots marks is what the program reaches; a row that it leaves out
-- is dead, and goes unless a row with a handle reaches it. What goes is held by nothing that stays: a holder that
-- stayed would be reached, and then what it holds would be too. A second marking from the slots, once these are freed,
-- leaves out exactly the dead part.
use Rattle.std.proofs.Common.{◌≡◌, ℕ, ◌+◌, ◌≤◌, ◌↔◌, ◌⊎◌, inl, inr, Bool, true, false, not, List, [], length, Option, Some, None, refl, sym, subst, ◌∙◌}
use Rattle.std.specs.Prelude.{Contains, is_some}
use Rattle.joint_machine.specs.declared.names.MNum.{MNum}
use Rattle.joint_machine.specs.declared.names.PNum.{PNum}
use Rattle.joint_machine.specs.Components.{Rises}
use Rattle.joint_machine.specs.Cycles.{IsSnapshot}
use Rattle.joint_machine.specs.Heaps.{Heap, IsLive, HasField, InSlot, fields_of, numbered_at, with_freed}
use Rattle.joint_machine.specs.Managed.{Managed, OpenCycle, IsBridge, IsManagedRoot, ManagedEdge, IsManagedReached, IsBridgeReached, with_snapshot}
use Rattle.joint_machine.specs.Walks.{Reached}
use Rattle.joint_machine.proofs.HeapLemmas.{IsLive-before, IsLive-spared, IsLive-left}
use Rattle.joint_machine.proofs.Members.{Contains-filter_from, Contains-filter_to, Contains-nil, All-members, Rises-filter}
use Rattle.joint_machine.proofs.WalkLemmas.{Reached-mono, Reached-start, Reached-then, Reached-further, Reached-keeps}
use Rattle.finaliser_queue.specs.Queue.{Queue}
use Rattle.heap_rules.specs.Tidy.{CanFree}
use Rattle.reachability.specs.Marks.{HasMark, marked}
use Rattle.row_heap.specs.Marks.{EdgeOf}
use Rattle.row_heap.specs.Rows.{HeapRows}
use Rattle.managed_heap.specs.declared.rows.Header.{Header}
use Rattle.managed_heap.specs.Dues.{HasDue}
use Rattle.managed_heap.specs.Resolving.{has_handle}
use Rattle.managed_heap.specs.Rows.{rows_of}
use Rattle.managed_heap.specs.Snapshots.{PartsUnmarked}
use Rattle.managed_heap.proofs.Resolutions.{edge-field}
use Rattle.reachability.proofs.Marking.{marked-or, IsMarked-test, test-IsMarked, unmarked_of-exact}
use Rattle.joint_machine.proofs.Deciding.{handle-there}

-- the marks are those of what slots and pins reach, over the fields of that state
pub record AreSlotMarks (v : HeapRows) (s : Managed) : Type 0 where
  pub heap : v.heap ≡ s.heap
  pub plain : v.follows ≡ false
  pub marks : (x : ℕ) → HasMark v.marks x ↔ IsManagedReached s x

-- a bridge row by the list of held handles
pub bridge-test : (s : Managed) (m : ℕ) → IsLive s.heap m → (has_handle s.held m ≡ true) ↔ IsBridge s m
bridge-test s m l = (
  λ e. (let h = handle-there (numbered_at s.held m) e in (h.0, record { live = l; held = h.1 })),
  λ b. subst (λ (z : Option (Option ℕ)). is_some (elim z [ None ↦ None | Some x ↦ x ]) ≡ true) (sym b.1.held) refl,
)

field-edge : (v : HeapRows) (s : Managed) (x y : ℕ) → v.heap ≡ s.heap → HasField s.heap x y → EdgeOf v x y
field-edge v s x y e f = inl (subst (λ h. HasField h x y) (sym e) f)

edge-fields : (v : HeapRows) (s : Managed) (x y : ℕ) → v.heap ≡ s.heap → v.follows ≡ false → EdgeOf v x y → HasField s.heap x y
edge-fields v s x y e p f = subst (λ h. HasField h x y) e (edge-field v x y p f)

white-is : (v w : HeapRows) (s : Managed) (freed candidates dead : List ℕ) → AreSlotMarks v s
    → (f : PartsUnmarked v w s.held freed candidates dead) → (m : ℕ) → Contains f.white m ↔ (IsLive s.heap m × (IsManagedReached s m → ⊥))
white-is v w s freed candidates dead a f m = (
  λ c. (let u = (f.are_white.exact m).0 c in (subst (λ h. IsLive h m) a.heap u.0, λ r. u.1 ((a.marks m).1 r))),
  λ u. (f.are_white.exact m).1 (subst (λ h. IsLive h m) (sym a.heap) u.0, λ k. u.1 ((a.marks m).0 k)),
)

picked-is : (v w : HeapRows) (s : Managed) (freed candidates dead : List ℕ) → AreSlotMarks v s
    → PartsUnmarked v w s.held freed candidates dead → (m : ℕ) → Contains candidates m ↔ (IsBridge s m × (IsManagedReached s m → ⊥))
picked-is v w s freed candidates dead a f m = (
  λ c. (
      let r = Contains-filter_from (has_handle s.held) f.white m (subst (λ xs. Contains xs m) f.picked c) in
      let u = (white-is v w s freed candidates dead a f m).0 r.0 in
      ((bridge-test s m u.0).0 r.1, u.1)),
  λ u. subst (λ xs. Contains xs m) (sym f.picked) (Contains-filter_to (has_handle s.held) f.white m
      ((white-is v w s freed candidates dead a f m).1 (u.0.1.live, u.1)) ((bridge-test s m u.0.1.live).1 u.0)),
)

-- what is marked then is what slots or bridge rows reach
reached-marked : (v w : HeapRows) (s : Managed) (freed candidates dead : List ℕ) → AreSlotMarks v s
    → PartsUnmarked v w s.held freed candidates dead → (m : ℕ) → HasMark w.marks m → IsManagedReached s m ⊎ IsBridgeReached s m
reached-marked v w s freed candidates dead a f m k = elim ((f.marks m).0 k) [
  | inl o ↦ inl ((a.marks m).0 o)
  | inr r ↦ inr (Reached-mono (Contains candidates) (IsBridge s) (EdgeOf v) (ManagedEdge s)
      (λ x c. ((picked-is v w s freed candidates dead a f x).0 c).0) (λ x y e. edge-fields v s x y a.heap a.plain e) m r)
]

marked-bridge : (v w : HeapRows) (s : Managed) (freed candidates dead : List ℕ) → AreSlotMarks v s → PartsUnmarked v w s.held freed candidates dead → (m : ℕ) → IsBridgeReached s m → HasMark w.marks m
marked-bridge v w s freed candidates dead a f m r = elim (marked-or v.marks r.root) [
  | inl k ↦ (f.marks m).1 (inl ((a.marks m).1 (Reached-further (IsManagedRoot s) (ManagedEdge s) r.root m ((a.marks r.root).0 k) r.reaches)))
  | inr n ↦ (f.marks m).1 (inr (Reached-mono (λ z. z ≡ r.root) (Contains candidates) (ManagedEdge s) (EdgeOf v)
      (λ x e. subst (λ z. Contains candidates z) (sym e) ((picked-is v w s freed candidates dead a f r.root).1 (r.starts, λ q. n ((a.marks r.root).1 q))))
      (λ x y e. field-edge v s x y a.heap e) m (record { root = r.root; starts = refl; reaches = r.reaches })))
]

freed-is : (v w : HeapRows) (held : List (Option ℕ)) (freed candidates dead : List ℕ)
    → (f : PartsUnmarked v w held freed candidates dead) → (m : ℕ) → Contains freed m ↔ (Contains f.white m × (HasMark w.marks m → ⊥))
freed-is v w held freed candidates dead f m = subst (λ xs. Contains xs m ↔ (Contains f.white m × (HasMark w.marks m → ⊥))) (sym f.goes) (unmarked_of-exact w.marks f.white m)

dead-is : (v w : HeapRows) (held : List (Option ℕ)) (freed candidates dead : List ℕ)
    → (f : PartsUnmarked v w held freed candidates dead) → (m : ℕ) → Contains dead m ↔ (Contains f.white m × HasMark w.marks m)
dead-is v w held freed candidates dead f m = (
  λ c. (let r = Contains-filter_from (marked w.marks) f.white m (subst (λ xs. Contains xs m) f.left c) in (r.0, IsMarked-test w.marks m r.1)),
  λ u. subst (λ xs. Contains xs m) (sym f.left) (Contains-filter_to (marked w.marks) f.white m u.0 (test-IsMarked w.marks m u.1)),
)

pub dead-rises : (v w : HeapRows) (held : List (Option ℕ)) (freed candidates dead : List ℕ) → PartsUnmarked v w held freed candidates dead → Rises dead
dead-rises v w held freed candidates dead f = subst Rises (sym f.left) (Rises-filter (marked w.marks) f.white f.are_white.rises)

pub freed-rises : (v w : HeapRows) (held : List (Option ℕ)) (freed candidates dead : List ℕ) → PartsUnmarked v w held freed candidates dead → Rises freed
freed-rises v w held freed candidates dead f = subst Rises (sym f.goes) (Rises-filter (λ m. not (marked w.marks m)) f.white f.are_white.rises)

pub candidates-rise : (v w : HeapRows) (held : List (Option ℕ)) (freed candidates dead : List ℕ) → PartsUnmarked v w held freed candidates dead → Rises candidates
candidates-rise v w held freed candidates dead f = subst Rises (sym f.picked) (Rises-filter (has_handle held) f.white f.are_white.rises)

-- the found rows are live
pub dead-live : (v w : HeapRows) (held : List (Option ℕ)) (freed candidates dead : List ℕ) → PartsUnmarked v w held freed candidates dead → (m : ℕ) → Contains dead m → IsLive v.heap m
dead-live v w held freed candidates dead f m c = ((f.are_white.exact m).0 ((dead-is v w held freed candidates dead f m).0 c).0).0

pub freed-live : (v w : HeapRows) (held : List (Option ℕ)) (freed candidates dead : List ℕ) → PartsUnmarked v w held freed candidates dead → (m : ℕ) → Contains freed m → IsLive v.heap m
freed-live v w held freed candidates dead f m c = ((f.are_white.exact m).0 ((freed-is v w held freed candidates dead f m).0 c).0).0

pub candidates-live : (v w : HeapRows) (held : List (Option ℕ)) (freed candidates dead : List ℕ) → PartsUnmarked v w held freed candidates dead → (m : ℕ) → Contains candidates m → IsLive v.heap m
candidates-live v w held freed candidates dead f m c = ((f.are_white.exact m).0 (Contains-filter_from (has_handle held) f.white m (subst (λ xs. Contains xs m) f.picked c)).0).0

pub IsSnapshot-found : (v w : HeapRows) (s : Managed) (freed candidates dead : List ℕ) → s.cycle ≡ None
    → AreSlotMarks v s → PartsUnmarked v w s.held freed candidates dead → IsSnapshot s (s.cycles + 1) freed candidates dead
IsSnapshot-found v w s freed candidates dead o a f = record {
  closed = o;
  next = refl;
  freed_rise = freed-rises v w s.held freed candidates dead f;
  frees = λ m. (
    λ c. (
        let r = (freed-is v w s.held freed candidates dead f m).0 c in
        let u = (white-is v w s freed candidates dead a f m).0 r.0 in
        (u.0, u.1, λ b. r.1 (marked-bridge v w s freed candidates dead a f m b))),
    λ u. (freed-is v w s.held freed candidates dead f m).1 (
      (white-is v w s freed candidates dead a f m).1 (u.0, u.1),
      λ k. elim (reached-marked v w s freed candidates dead a f m k) [ inl r ↦ u.1 r | inr r ↦ u.2 r ],
    ),
  );
  candidates_rise = candidates-rise v w s.held freed candidates dead f;
  picks = picked-is v w s freed candidates dead a f;
  dead_rise = dead-rises v w s.held freed candidates dead f;
  leaves = λ m. (
    λ c. (
        let r = (dead-is v w s.held freed candidates dead f m).0 c in
        let u = (white-is v w s freed candidates dead a f m).0 r.0 in
        (u.0, u.1, λ g. ((freed-is v w s.held freed candidates dead f m).0 g).1 r.1)),
    λ u. (
        let white : Contains f.white m = (white-is v w s freed candidates dead a f m).1 (u.0, u.1) in
        elim (marked-or w.marks m) [
          | inl k ↦ (dead-is v w s.held freed candidates dead f m).1 (white, k)
          | inr n ↦ absurd (u.2 ((freed-is v w s.held freed candidates dead f m).1 (white, n)))
        ]),
  );
}

pub CanFree-found : (v w : HeapRows) (s : Managed) (freed candidates dead : List ℕ) → w.heap ≡ v.heap → AreSlotMarks v s → PartsUnmarked v w s.held freed candidates dead → CanFree w.heap freed
CanFree-found v w s freed candidates dead ew a f =
    let e : w.heap ≡ s.heap = ew ∙ a.heap in
    record {
      live = All-members (IsLive w.heap) freed (λ x c. subst (λ h. IsLive h x) (sym ew) (freed-live v w s.held freed candidates dead f x c));
      rises = freed-rises v w s.held freed candidates dead f;
      unnamed = λ x c p. ((white-is v w s freed candidates dead a f x).0 ((freed-is v w s.held freed candidates dead f x).0 c).0).1
          (Reached-start (IsManagedRoot s) (ManagedEdge s) x (inl (subst (λ h. InSlot h x) e p)));
      unheld = λ x y l n c g. (
          let lx : IsLive s.heap x = subst (λ h. IsLive h x) e l in
          let ry = (freed-is v w s.held freed candidates dead f y).0 c in
          let uy = (white-is v w s freed candidates dead a f y).0 ry.0 in
          let edge : HasField s.heap x y = record { live = lx; field = subst (λ h. Contains (fields_of h x) (Some y)) e g; there = uy.0 } in
          let out : IsManagedReached s x → ⊥ = λ r. uy.1 (Reached-then (IsManagedRoot s) (ManagedEdge s) x y r edge) in
          elim (marked-or w.marks x) [
            | inl k ↦ ry.1 (f.shut x y (field-edge v s x y a.heap edge) k)
            | inr k ↦ n ((freed-is v w s.held freed candidates dead f x).1 ((white-is v w s freed candidates dead a f x).1 (lx, out), k))
          ]);
    }

-- once these rows are freed, what slots and pins reach is what they reached before
reached-still : (h : Heap) (P : ℕ → Type 0) (freed : List ℕ) → ((m : ℕ) → Contains freed m → Reached P (HasField h) m → ⊥)
    → (m : ℕ) → Reached P (HasField h) m ↔ Reached P (HasField (with_freed h freed)) m
reached-still h P freed out m = (
  λ r. (Reached-keeps P (HasField h) (λ z. Reached P (HasField h) z × Reached P (HasField (with_freed h freed)) z)
      (λ x s. (Reached-start P (HasField h) x s, Reached-start P (HasField (with_freed h freed)) x s))
      (λ x y e q. (
      let ry : Reached P (HasField h) y = Reached-then P (HasField h) x y q.0 e in (
        ry,
        Reached-then P (HasField (with_freed h freed)) x y q.1
            (record { live = IsLive-left h freed x e.live (λ c. out x c q.0); field = e.field; there = IsLive-left h freed y e.there (λ c. out y c ry) }),
      ))) m r).1,
  λ r. Reached-mono P P (HasField (with_freed h freed)) (HasField h) (λ x s. s)
      (λ x y e. record { live = IsLive-before h freed x e.live; field = e.field; there = IsLive-before h freed y e.there }) m r,
)

-- where there is no candidate, what has a mark once these rows are freed is what slots and pins reach
pub marks-still : (v w u : HeapRows) (s : Managed) (freed candidates dead : List ℕ) → AreSlotMarks v s → PartsUnmarked v w s.held freed candidates dead → candidates ≡ []
    → ((x : ℕ) → HasMark u.marks x ↔ (HasMark w.marks x × (Contains freed x → ⊥))) → (x : ℕ) → HasMark u.marks x ↔ Reached (IsManagedRoot s) (HasField (with_freed s.heap freed)) x
marks-still v w u s freed candidates dead a f none marks x =
    let out : (m : ℕ) → Contains freed m → IsManagedReached s m → ⊥ = λ m c. ((white-is v w s freed candidates dead a f m).0 ((freed-is v w s.held freed candidates dead f m).0 c).0).1 in
    let still = reached-still s.heap (IsManagedRoot s) freed out x in
    let only : HasMark w.marks x → HasMark v.marks x = λ k. elim ((f.marks x).0 k) [
      | inl o ↦ o
      | inr r ↦ absurd (Contains-nil r.root (subst (λ xs. Contains xs r.root) none r.starts))
    ] in (
      λ k. still.0 ((a.marks x).0 (only ((marks x).0 k).0)),
      λ r. ((marks x).1 ((f.marks x).1 (inl ((a.marks x).1 (still.1 r))), λ c. out x c (still.1 r))),
    )

-- what the cycle owes is ready
pub HasDue-found : (v w u : HeapRows) (s : Managed) (freed candidates dead : List ℕ) (spare n : ℕ)
    → AreSlotMarks v s → PartsUnmarked v w s.held freed candidates dead → u.heap ≡ with_freed s.heap freed
    → ((x : ℕ) → HasMark u.marks x ↔ Reached (λ z. InSlot (with_freed s.heap freed) z ⊎ Contains s.pins (Some z)) (HasField (with_freed s.heap freed)) x)
    → length candidates ≤ spare → HasDue u spare (record { number = n; candidates = candidates; dead = dead })
HasDue-found v w u s freed candidates dead spare n a f eu marks l =
    let out : (m : ℕ) → Contains freed m → IsManagedReached s m → ⊥ = λ m c. ((white-is v w s freed candidates dead a f m).0 ((freed-is v w s.held freed candidates dead f m).0 c).0).1 in
    let still : (m : ℕ) → IsManagedReached s m ↔ Reached (IsManagedRoot s) (HasField (with_freed s.heap freed)) m = λ m. reached-still s.heap (IsManagedRoot s) freed out m in
    record {
      rise = dead-rises v w s.held freed candidates dead f;
      white = λ m. (
        λ c. (
            let r = (dead-is v w s.held freed candidates dead f m).0 c in
            let x = (white-is v w s freed candidates dead a f m).0 r.0 in
            let stays : Contains freed m → ⊥ = λ g. ((freed-is v w s.held freed candidates dead f m).0 g).1 r.1 in
            (subst (λ h. IsLive h m) (sym eu) (IsLive-left s.heap freed m x.0 stays), λ k. x.1 ((still m).1 ((marks m).0 k)))),
        λ y. (
            let lm : IsLive (with_freed s.heap freed) m = subst (λ h. IsLive h m) eu y.0 in
            let white : Contains f.white m = (white-is v w s freed candidates dead a f m).1 (IsLive-before s.heap freed m lm, λ r. y.1 ((marks m).1 ((still m).0 r))) in
            elim (marked-or w.marks m) [
              | inl k ↦ (dead-is v w s.held freed candidates dead f m).1 (white, k)
              | inr k ↦ absurd (IsLive-spared s.heap freed m lm ((freed-is v w s.held freed candidates dead f m).1 (white, k)))
            ]),
      );
      notices = l;
    }

-- the state after a snapshot, from its parts
pub snapped-is : (h k : Heap) (headers : List Header) (ps : List (PNum × MNum)) (cells pins : List (Option ℕ))
    (q p : Queue) (cycle after : Option OpenCycle) (n : ℕ) (b : Bool) (freed candidates dead : List ℕ)
    → k ≡ with_freed h freed → p.queued ≡ q.queued → p.taken ≡ q.taken → after ≡ Some record { number = n + 1; candidates = candidates; dead = dead }
    → rows_of k headers ps cells pins p after (n + 1) false ≡ record (rows_of h headers ps cells pins q cycle n b)
    { managed = with_snapshot (rows_of h headers ps cells pins q cycle n b).managed freed candidates dead; contracted = false }
snapped-is h k headers ps cells pins q p cycle after n b freed candidates dead e queued taken o = rw (e, queued, taken, o) refl
