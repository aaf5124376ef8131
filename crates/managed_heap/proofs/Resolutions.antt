-- From the marks of an open cycle to its resolution. While a cycle is open the live rows without a mark are its dead
-- part, and nothing outside leads into it, so the marks are closed under the edges; a marking that goes on from the
-- kept candidates marks what these reach, and what it leaves out of the dead part is named and held by nothing that
-- stays.
use Rattle.std.proofs.Common.{◌≡◌, ℕ, suc, ◌+◌, ◌<◌, ◌≤◌, ◌↔◌, ◌⊎◌, inl, inr, Bool, true, false, not, List, [], ◌∷◌, ◌++◌, length, map, cond, nat_eq, Option, Some, None, refl, sym, ap, subst, ◌∙◌}
use Rattle.std.proofs.Common.{arith}
use Rattle.std.specs.Prelude.{Contains, All, filter, is_some}
use Rattle.std.specs.List.{list_any}
use Rattle.std.proofs.lemmas.Bool.{eqb-true}
use Rattle.std.proofs.lemmas.Cmp.{nat_eq_equiv}
use Rattle.std.proofs.lemmas.List.Elements.{All-nil, All-cons, All-head, All-tail, All-weaker}
use Rattle.std.proofs.lemmas.Map.Views.{list_any-from_Contains, Contains-from_any}
use Rattle.joint_machine.specs.declared.names.HNum.{HNum}
use Rattle.joint_machine.specs.declared.names.MNum.{MNum}
use Rattle.joint_machine.specs.declared.names.PNum.{PNum}
use Rattle.joint_machine.specs.Components.{Rises}
use Rattle.joint_machine.specs.Cycles.{IsResolution, IsAnsweredAlive}
use Rattle.joint_machine.specs.Heaps.{Heap, IsLive, HasField, InSlot, fields_of, numbered_at, with_freed}
use Rattle.joint_machine.specs.Histories.{managed_numbers}
use Rattle.joint_model.specs.Listed.{answers_of}
use Rattle.joint_machine.specs.Managed.{Managed, OpenCycle, ManagedEdge, candidates_of, handle_of, holds_handle, renewed, resolved}
use Rattle.joint_machine.specs.ManagedReplay.{without_twins}
use Rattle.joint_machine.specs.Told.{Answer}
use Rattle.joint_machine.specs.Walks.{Reached}
use Rattle.joint_machine.proofs.Deciding.{true_false, handle-there}
use Rattle.joint_machine.proofs.HeapLemmas.{is_freed-live}
use Rattle.joint_machine.proofs.Members.{Contains-here, Contains-there, Contains-decided, Contains-filter_from, Contains-filter_to, All-members, Rises-one, Rises-filter}
use Rattle.joint_machine.proofs.WalkLemmas.{Reaches-mono}
use Rattle.joint_laws.specs.ManagedInvariants.{IsCutOff}
use Rattle.finaliser_queue.specs.Queue.{Queue}
use Rattle.heap_rules.specs.Tidy.{CanFree}
use Rattle.reachability.specs.Marks.{HasMark, IsClosed, marked, unmarked_of}
use Rattle.row_heap.specs.Marks.{EdgeOf}
use Rattle.row_heap.specs.Rows.{HeapRows}
use Rattle.managed_heap.specs.declared.rows.Header.{Header}
use Rattle.managed_heap.specs.Dues.{HasDue}
use Rattle.managed_heap.specs.Resolving.{has_handle}
use Rattle.managed_heap.specs.Rows.{rows_of, pairs_of}
use Rattle.managed_heap.proofs.Lists.{filter-agree}
use Rattle.reachability.proofs.Marking.{marked-or, unmarked_of-exact}

-- without references the edges are the fields
pub edge-field : (v : HeapRows) (x y : ℕ) → v.follows ≡ false → EdgeOf v x y → HasField v.heap x y
edge-field v x y e (inl f) = f
edge-field v x y e (inr r) = absurd (true_false (sym r.0 ∙ e))

-- the marks of an open cycle are closed under the edges
pub shut-open : (v : HeapRows) (spare : ℕ) (s : Managed) (c : OpenCycle) → v.heap ≡ s.heap → v.follows ≡ false → HasDue v spare c → IsCutOff s c → IsClosed (EdgeOf v) v.marks
shut-open v spare s c eh ef d cut x y e m =
    let f = edge-field v x y ef e in
    elim (marked-or v.marks y) [
      | inl h ↦ h
      | inr n ↦ absurd (cut.unheld x y (subst (λ h. IsLive h x) eh f.live) (λ k. ((d.white x).0 k).1 m) (subst (λ h. Contains (fields_of h x) (Some y)) eh f.field) ((d.white y).1 (f.there, n)))
    ]

-- what the marking leaves out of the dead part may be freed
pub can-free : (v w : HeapRows) (s : Managed) (c : OpenCycle) (freed : List ℕ) → v.heap ≡ s.heap → w.heap ≡ v.heap
    → Rises c.dead → IsCutOff s c → IsClosed (EdgeOf v) w.marks → freed ≡ unmarked_of w.marks c.dead → CanFree w.heap freed
can-free v w s c freed eh ew rise cut shut is =
    let exact : (m : ℕ) → Contains freed m ↔ (Contains c.dead m × (HasMark w.marks m → ⊥)) = λ m. subst
    (λ xs. Contains xs m ↔ (Contains c.dead m × (HasMark w.marks m → ⊥))) (sym is) (unmarked_of-exact w.marks c.dead m) in
    let e : w.heap ≡ s.heap = ew ∙ eh in
    record {
      live = All-members (IsLive w.heap) freed (λ x k. subst (λ h. IsLive h x) (sym e) (cut.live x ((exact x).0 k).0));
      rises = subst Rises (sym is) (Rises-filter (λ m. not (marked w.marks m)) c.dead rise);
      unnamed = λ x k p. cut.unnamed x (inl (subst (λ h. InSlot h x) e p)) ((exact x).0 k).0;
      unheld = λ x y l n k f. (
          let u = (exact y).0 k in
          let lx : IsLive s.heap x = subst (λ h. IsLive h x) e l in
          let fx : Contains (fields_of s.heap x) (Some y) = subst (λ h. Contains (fields_of h x) (Some y)) e f in
          elim (Contains-decided c.dead x) [
            | inl d ↦ elim (marked-or w.marks x) [
              | inl m ↦ u.1 (shut x y (inl (record {
                live = subst (λ h. IsLive h x) (sym eh) lx;
                field = subst (λ h. Contains (fields_of h x) (Some y)) (sym eh) fx;
                there = subst (λ h. IsLive h y) (sym eh) (cut.live y u.0);
              })) m)
              | inr m ↦ n ((exact x).1 (d, m))
            ]
            | inr d ↦ cut.unheld x y lx d fx u.0
          ]);
    }

-- and it is the resolution
pub resolution-is : (v w : HeapRows) (spare : ℕ) (s : Managed) (c : OpenCycle) (alive : List (Option HNum)) (freed : List ℕ) → v.heap ≡ s.heap → v.follows ≡ false → HasDue v spare c
    → ((k : ℕ) → HasMark w.marks k ↔ (HasMark v.marks k ⊎ Reached (IsAnsweredAlive c.candidates (answers_of alive)) (EdgeOf v) k)) → freed ≡ unmarked_of w.marks c.dead
    → IsResolution s c.dead (IsAnsweredAlive c.candidates (answers_of alive)) freed
resolution-is v w spare s c alive freed eh ef d marks is =
    let exact : (m : ℕ) → Contains freed m ↔ (Contains c.dead m × (HasMark w.marks m → ⊥)) = λ m. subst
    (λ xs. Contains xs m ↔ (Contains c.dead m × (HasMark w.marks m → ⊥))) (sym is) (unmarked_of-exact w.marks c.dead m) in
    record {
      rise = subst Rises (sym is) (Rises-filter (λ m. not (marked w.marks m)) c.dead d.rise);
      frees = λ m. (
        λ k. (let u = (exact m).0 k in (
          u.0,
          λ q. u.1 ((marks m).1
              (inr (record { root = q.0; starts = q.1; reaches = Reaches-mono (ManagedEdge s) (EdgeOf v) (λ x y f. inl (subst (λ h. HasField h x y) (sym eh) f)) q.0 m q.2 }))),
        )),
        λ u. (exact m).1 (
          u.0,
          λ h. elim ((marks m).0 h) [
            | inl o ↦ ((d.white m).0 u.0).1 o
            | inr r ↦ u.1 (r.root, r.starts, Reaches-mono (EdgeOf v) (ManagedEdge s) (λ x y f. subst (λ h. HasField h x y) eh (edge-field v x y ef f)) r.root m r.reaches)
          ],
        ),
      );
    }

-- a rising list of members of another one has no more of them
shorter : {X : Type 0} (p : X → Bool) (xs : List X) → length (filter p xs) ≤ length xs
shorter p [] = omega arith
shorter {X} p (x ∷ xs) = by (p x) (shorter p xs)
  where
    by : (b : Bool) → length (filter p xs) ≤ length xs → length (cond b (x ∷ filter p xs) (filter p xs)) ≤ suc (length xs)
    by true l = omega (arith, l)
    by false l = omega (arith, l)

pub Rises-within : (xs ys : List ℕ) → Rises xs → Rises ys → ((m : ℕ) → Contains xs m → Contains ys m) → length xs ≤ length ys
Rises-within xs ys rx ry h =
    let p : ℕ → Bool = λ m. list_any (nat_eq m) xs in
    let is : filter p ys ≡ xs = Rises-one (filter p ys) xs (Rises-filter p ys ry) rx
    (λ m k. Contains-from_any eqb-true m xs (Contains-filter_from p ys m k).1)
    (λ m k. Contains-filter_to p ys m (h m k) (list_any-from_Contains nat_eq_equiv m xs k)) in
    subst (λ zs. length zs ≤ length ys) is (shorter p ys)

-- each row of the dead part that holds a handle is a candidate, and has room for its notice
pub notices-fit : (s : Managed) (c : OpenCycle) (freed : List ℕ) (spare : ℕ) → IsCutOff s c → length c.candidates ≤ spare
    → Rises freed → ((m : ℕ) → Contains freed m → Contains c.dead m) → length (filter (has_handle s.held) freed) ≤ spare
notices-fit s c freed spare cut l rise within =
    let fits = Rises-within (filter (has_handle s.held) freed) c.candidates (Rises-filter (has_handle s.held) freed rise) cut.rise (λ m k. (
    let r = Contains-filter_from (has_handle s.held) freed m k in
    let h = handle-there (numbered_at s.held m) r.1 in
    (cut.candidates m).1 (within m r.0, (h.0, record { live = cut.live m (within m r.0); held = h.1 })))) in
    omega (arith, fits, l)

-- what holds of each number of a list holds of all its members
pub All-numbers : (P : ℕ → Type 0) (ms : List MNum) → ((m : ℕ) → Contains (managed_numbers ms) m → P m) → All (λ (m : MNum). P m.0) ms
All-numbers P [] h = All-nil (λ (m : MNum). P m.0)
All-numbers P (m ∷ ms) h = All-cons (λ (m : MNum). P m.0) m ms (h m.0 (Contains-here m.0 (managed_numbers ms))) (All-numbers P ms (λ y c. h y (Contains-there y m.0 (managed_numbers ms) c)))

test-some : (o : Option ℕ) → elim o [ None ↦ false | Some h ↦ true ] ≡ is_some o
test-some None = refl
test-some (Some h) = refl

pub holds_handle-live : (s : Managed) (m : ℕ) → IsLive s.heap m → holds_handle s m ≡ has_handle s.held m
holds_handle-live s m l = test-some (handle_of s m) ∙ ap (λ b. is_some (cond b None (elim (numbered_at s.held m) [ None ↦ None | Some h ↦ h ]))) (is_freed-live s.heap m l)

pub filter-live : (s : Managed) (xs : List ℕ) → ((x : ℕ) → Contains xs x → IsLive s.heap x) → filter (has_handle s.held) xs ≡ filter (holds_handle s) xs
filter-live s xs l = filter-agree (has_handle s.held) (holds_handle s) xs (λ x c. sym (holds_handle-live s x (l x c)))

-- the state after a resolution, from its parts
pub resolved-is : (h k : Heap) (headers others : List Header) (ps qs : List (PNum × MNum)) (cells pins : List (Option ℕ))
    (q p : Queue) (cycle : Option OpenCycle) (n : ℕ) (b : Bool) (answers : List Answer) (freed : List ℕ)
    → k ≡ with_freed h freed → map (λ (i : Header). i.kind) others ≡ map (λ (i : Header). i.kind) headers
    → map (λ (i : Header). i.handle) others ≡ renewed (map (λ (i : Header). i.handle) headers) (candidates_of (rows_of h headers ps cells pins q cycle n b).managed) answers
    → pairs_of qs ≡ without_twins (pairs_of ps) freed
    → managed_numbers p.queued ≡ managed_numbers q.queued ++ filter (holds_handle (rows_of h headers ps cells pins q cycle n b).managed) freed → p.taken ≡ q.taken
    → rows_of k others qs cells pins p None n b ≡ record (rows_of h headers ps cells pins q cycle n b)
    { managed = resolved (rows_of h headers ps cells pins q cycle n b).managed answers freed; registry = without_twins (pairs_of ps) freed }
resolved-is h k headers others ps qs cells pins q p cycle n b answers freed e kinds held pairs queued taken = rw (e, kinds, held, pairs, queued, taken) refl

-- a rising list of numbers from `low` on and below n has few
pub rises-few_from : (xs : List ℕ) (low n : ℕ) → Rises xs → All (λ y. low ≤ y) xs → All (λ y. y < n) xs → low ≤ n → low + length xs ≤ n
rises-few_from [] low n r a b l = omega arith
rises-few_from (x ∷ xs) low n r a b l =
    let x-high : low ≤ x = All-head (λ y. low ≤ y) x xs a in
    let x-low : x < n = All-head (λ y. y < n) x xs b in
    let rest : suc x + length xs ≤ n = rises-few_from xs (suc x) n r.1 (All-weaker (λ y. x < y) (λ y. suc x ≤ y) (λ y h. omega arith) xs r.0) (All-tail (λ y. y < n) x xs b) (omega arith) in
    omega arith

-- rising live rows are at most as many as were made
pub rows-few : (h : Heap) (xs : List ℕ) → Rises xs → ((x : ℕ) → Contains xs x → IsLive h x) → length xs ≤ length h.fields
rows-few h xs r l =
    let few = rises-few_from xs 1 (length h.fields + 1) r (All-members (λ y. 1 ≤ y) xs (λ x c. (l x c).made.0))
    (All-members (λ y. y < length h.fields + 1) xs (λ x c. omega (arith, (l x c).made.1))) (omega arith) in
    omega (arith, few)
