-- The nodes of the graph over all numbers: they rise, none is opaque, and the bridge nodes are the bridge rows of the
-- dead part.
use Rattle.std.specs.List.Sorted.{IsBinarySearchResult}
use Rattle.std.proofs.Common.{◌≡◌, ◌↔◌, ℕ, zero, suc, ◌+◌, ◌<◌, ◌≤◌, Bool, true, false, if◌then◌else◌, List, [], ◌∷◌, ◌++◌, length, map, get_or}
use Rattle.std.proofs.Common.{inl, inr, Option, Some, None, Result, Ok, Err, refl, sym, ap, ◌∙◌, subst, arith}
use Rattle.std.specs.Prelude.{All, Contains, IsSome, slice_get, slice_index_or}
use Rattle.std.specs.List.{range_with_len}
use Rattle.std.specs.Option.{option_map}
use Rattle.std.specs.Bool.{OnTrue}
use Rattle.std.specs.Ordering.{nat_cmp}
use Rattle.std.specs.Result.{is_ok}
use Rattle.std.proofs.lemmas.Bool.{cases_lt, eqb-true}
use Rattle.std.proofs.lemmas.Cmp.{nat_eq_equiv}
use Rattle.std.proofs.lemmas.List.Elements.{All-nil, All-cons, All-head, All-tail, All-contains}
use Rattle.std.proofs.lemmas.List.FromFn.{get_or-map-range_with_len, length-map-range_with_len}
use Rattle.std.proofs.lemmas.List.Sorted.{searched}
use Rattle.std.proofs.lemmas.Map.Views.{list_any-from_Contains, Contains-from_any}
use Rattle.std.proofs.lemmas.Option.{get_or_from_slice_get, same_Some, slice_get-get_or, slice_get_within}
use Rattle.joint_machine.specs.declared.names.HNum.{HNum}
use Rattle.joint_machine.specs.Components.{Rises}
use Rattle.joint_machine.specs.Heaps.{IsMade}
use Rattle.joint_machine.specs.Managed.{Managed, IsBridge, handle_of}
use Rattle.joint_machine.proofs.Deciding.{false-from, none_some}
use Rattle.joint_machine.proofs.HeapLemmas.{Holds-handle_of}
use Rattle.joint_machine.proofs.Members.{Contains-at, at-Contains}
use Rattle.joint_laws.proofs.DriverPeerSteps.{holds-handle_of}
use Rattle.joint_replay.specs.Plain.{dead_of}
use Rattle.bridge_graph.specs.declared.graph.Node.{Node}
use Rattle.bridge_graph.specs.Parts.{IsBridgeNode, opaque_at}
use Rattle.heap_views.specs.Mirrored.{is_dead, number_node, number_nodes}

-- what rises doesn't fall
pub rises-le : (xs : List ℕ) → Rises xs → (i j : ℕ) → i ≤ j → j < length xs → get_or xs i 0 ≤ get_or xs j 0
rises-le [] r i j l w = absurd (omega (arith, w))
rises-le (x ∷ xs) r zero zero l w = omega arith
rises-le (x ∷ xs) r zero (suc j) l w =
    let k : j < length xs = omega (arith, w) in
    let m = All-contains (λ y. x < y) xs (get_or xs j 0) r.0 (Contains-at xs j (get_or xs j 0) (slice_get-get_or xs j 0 k)) in
    omega (arith, m)
rises-le (x ∷ xs) r (suc i) zero l w = absurd (omega (arith, l))
rises-le (x ∷ xs) r (suc i) (suc j) l w = rises-le xs r.1 i j (omega (arith, l)) (omega (arith, w))

-- a number that is among the rows of the dead part
pub dead-true : (s : Managed) (m : ℕ) → Contains (dead_of s) m → is_dead s m ≡ true
dead-true s m c = list_any-from_Contains nat_eq_equiv m (dead_of s) c

pub true-dead : (s : Managed) (m : ℕ) → is_dead s m ≡ true → Contains (dead_of s) m
true-dead s m e = Contains-from_any eqb-true m (dead_of s) e

found-there : (dead : List ℕ) (m i : ℕ) → i < length dead → get_or dead i 0 ≡ m → Contains dead m
found-there dead m i l e = subst (Contains dead) e (Contains-at dead i (get_or dead i 0) (slice_get-get_or dead i 0 l))

found-none : (dead : List ℕ) (m i : ℕ) → ((k : ℕ) → k < i → get_or dead k 0 < m) → ((k : ℕ) → i ≤ k → k < length dead → m < get_or dead k 0) → Contains dead m → ⊥
found-none dead m i low high c =
    let t = at-Contains dead m c in
    let here : get_or dead t.0 0 ≡ m = get_or_from_slice_get dead t.0 m 0 t.1 in
    elim (cases_lt t.0 i) [
      | inl l ↦ (let w = low t.0 l in omega (arith, w, here))
      | inr l ↦ (let w = high t.0 l (slice_get_within dead t.0 m t.1) in omega (arith, w, here))
    ]

-- what a search for it found
pub searched-dead : (s : Managed) (m : ℕ) (dead : List ℕ) (r : Result ℕ ℕ) → dead ≡ dead_of s → Rises dead → IsBinarySearchResult (λ y. nat_cmp y m) dead r → is_ok r ≡ is_dead s m
searched-dead s m dead (Ok i) e rise b = (let w = searched dead m (Ok i) b (rises-le dead rise) in sym (dead-true s m (subst (λ xs. Contains xs m) e (found-there dead m i w.0 w.1))))
searched-dead s m dead (Err i) e rise b =
    let w = searched dead m (Err i) b (rises-le dead rise) in
    sym (false-from (is_dead s m) (λ t. found-none dead m i w.1 w.2 (subst (λ xs. Contains xs m) (sym e) (true-dead s m t))))

pub dead-made : (s : Managed) (m : ℕ) (dead : List ℕ) (b : Bool) → dead ≡ dead_of s → All (IsMade s.heap) dead → b ≡ is_dead s m → OnTrue b (IsMade s.heap m)
dead-made s m dead true e all t = All-contains (IsMade s.heap) dead m all (subst (λ xs. Contains xs m) (sym e) (true-dead s m (sym t)))
dead-made s m dead false e all t = tt

pub told-true : (P : Type 0) (b : Bool) → OnTrue b P → b ≡ true → P
told-true P true p e = p
told-true P false p e = absurd (cc)

-- the numbers of the nodes so far
pub nodes-below : (s : Managed) (a n m : ℕ) → a + n ≤ m → All (λ (x : Node). x.number.0 < m) (map (number_node s) (range_with_len a n))
nodes-below s a zero m l = All-nil (λ (x : Node). x.number.0 < m)
nodes-below s a (suc n) m l =
    All-cons (λ (x : Node). x.number.0 < m) (number_node s a) (map (number_node s) (range_with_len (a + 1) n))
    (omega (arith, l)) (nodes-below s (a + 1) n m (omega (arith, l)))

-- no node is opaque
plain : (s : Managed) (ms : List ℕ) → All (λ (x : Node). x.opaque ≡ false) (map (number_node s) ms)
plain s [] = All-nil (λ (x : Node). x.opaque ≡ false)
plain s (m ∷ ms) = All-cons (λ (x : Node). x.opaque ≡ false) (number_node s m) (map (number_node s) ms) refl (plain s ms)

plain-at : (nodes : List Node) (i : ℕ) → All (λ n. n.opaque ≡ false) nodes → i < length nodes → slice_index_or (map (λ (n : Node). n.opaque) nodes) i true ≡ false
plain-at [] i a l = absurd (omega (arith, l))
plain-at (n ∷ ns) zero a l = All-head (λ (n : Node). n.opaque ≡ false) n ns a
plain-at (n ∷ ns) (suc i) a l = plain-at ns i (All-tail (λ (n : Node). n.opaque ≡ false) n ns a) (omega (arith, l))

pub count : (s : Managed) → length (number_nodes s) ≡ length s.heap.fields + 1
count s = length-map-range_with_len (number_node s) 0 (length s.heap.fields + 1)

pub number-plain : (s : Managed) (nodes : List Node) (m : ℕ) → nodes ≡ number_nodes s → m ≤ length s.heap.fields → opaque_at nodes m ≡ false
number-plain s nodes m e l = subst (λ (ns : List Node). opaque_at ns m ≡ false) (sym e)
    (plain-at (number_nodes s) m (plain s (range_with_len 0 (length s.heap.fields + 1))) (omega (arith, count s, l)))

pub within : (s : Managed) (nodes : List Node) (m : ℕ) → nodes ≡ number_nodes s → m ≤ length s.heap.fields → m < length nodes
within s nodes m e l = omega (arith, ap length e, count s, l)

-- the node with an index
node-at : (s : Managed) (n x : ℕ) → x < n → slice_get (map (number_node s) (range_with_len 0 n)) x ≡ Some (number_node s x)
node-at s n x l =
    let nodes : List Node = map (number_node s) (range_with_len 0 n) in
    let here : x < length nodes = omega (arith, l, length-map-range_with_len (number_node s) 0 n) in
    slice_get-get_or nodes x (number_node s x) here ∙ ap Some (get_or-map-range_with_len (number_node s) 0 n x x (number_node s x) l (omega arith))

-- whose handle it has
named : (b : Bool) (o : Option ℕ) → IsSome (option_map (λ (h : ℕ). let n : HNum = record { 0 = h } in n) (if b then o else None)) → (b ≡ true) × ((h : ℕ) × (o ≡ Some h))
named true None i = absurd (cc)
named true (Some h) i = (refl, (h, refl))
named false o i = absurd (cc)

held : (b : Bool) (o : Option ℕ) (h : ℕ) → b ≡ true → o ≡ Some h → IsSome (option_map (λ (h : ℕ). let n : HNum = record { 0 = h } in n) (if b then o else None))
held true None h t e = absurd (none_some h e)
held true (Some k) h t e = refl
held false o h t e = absurd (cc)

-- the bridge nodes
pub bridges : (s : Managed) (nodes : List Node) → nodes ≡ number_nodes s → length s.held ≡ length s.heap.fields
    → (x : ℕ) → IsBridgeNode nodes x ↔ (Contains (dead_of s) x × IsBridge s x)
bridges s nodes e places x = (
  λ b.
      let there : slice_get (number_nodes s) x ≡ Some b.node = subst (λ (ns : List Node). slice_get ns x ≡ Some b.node) e b.there in
      let here : x < length s.heap.fields + 1 = (let w = slice_get_within (number_nodes s) x b.node there in omega (arith, w, count s)) in
      let same : b.node ≡ number_node s x = same_Some b.node (number_node s x) (sym there ∙ node-at s (length s.heap.fields + 1) x here) in
      let r = named (is_dead s x) (handle_of s x) (subst (λ (n : Node). IsSome n.handle) same b.held) in
      (true-dead s x r.0, (r.1.0, holds-handle_of s x r.1.0 places r.1.1)),
  λ w.
      let h = w.1.1 in
      let last = h.live.made.1 in
      record {
        node = number_node s x;
        there = subst (λ (ns : List Node). slice_get ns x ≡ Some (number_node s x)) (sym e) (node-at s (length s.heap.fields + 1) x (omega (arith, last)));
        held = held (is_dead s x) (handle_of s x) w.1.0 (dead-true s x w.0) (Holds-handle_of s x w.1.0 h);
      },
)

-- a further row has no edges either
pub row-none : (es : List (List ℕ)) (a : ℕ) → ((b : ℕ) → get_or es b [] ≡ []) → get_or (es ++ [] ∷ []) a [] ≡ []
row-none [] zero none = refl
row-none [] (suc a) none = refl
row-none (e ∷ es) zero none = none 0
row-none (e ∷ es) (suc a) none = row-none es a (λ b. none (suc b))
