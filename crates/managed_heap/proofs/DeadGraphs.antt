-- The graph of a dead part. The places of rising rows are written one after another, and none is written twice; each
-- row has a node, and each field that leads to a row with a place has an edge.
use Rattle.std.proofs.Common.{◌≡◌, ◌≢◌, ℕ, zero, suc, ◌+◌, ◌-◌, ◌<◌, ◌≤◌, ◌↔◌, ◌⊎◌, inl, inr, true, nat_eq, if◌then◌else◌, List, [], ◌∷◌, ◌++◌, length, map, take, set, get_or, option_map, Option}
use Rattle.std.proofs.Common.{Some, None, refl, sym, ap, subst, ◌∙◌, arith}
use Rattle.std.specs.Prelude.{Contains, All, IfSome, slice_get}
use Rattle.std.proofs.lemmas.Bool.{cases_eq, eqb-true}
use Rattle.std.proofs.lemmas.List.{length-map, get_or-map, get_or-set_same, get_or-set_other, nil_from_length}
use Rattle.std.proofs.lemmas.List.Elements.{All-nil, All-cons, All-map, All-contains, Contains-append_left, Contains-push, Contains-push_cases}
use Rattle.std.proofs.lemmas.Option.{slice_get-get_or, slice_get_within, get_or_from_slice_get, slice_get-map}
use Rattle.joint_machine.specs.declared.names.MNum.{MNum}
use Rattle.joint_machine.specs.Components.{Rises}
use Rattle.joint_machine.specs.Heaps.{Heap, IsLive, fields_of, numbered_at}
use Rattle.joint_machine.specs.Histories.{managed_numbers}
use Rattle.joint_machine.specs.Managed.{Managed, handle_of}
use Rattle.joint_machine.proofs.Deciding.{none_some, some-same}
use Rattle.joint_machine.proofs.HeapLemmas.{is_freed-live}
use Rattle.joint_machine.proofs.Members.{Contains-at, Contains-nil, Contains-here, Contains-there, last-or, Rises-once, take-next}
use Rattle.joint_machine.proofs.Numbered.{set-at_same, set-at_other, set-at_here}
use Rattle.heap_rules.specs.Tidy.{IsTidy}
use Rattle.bridge_graph.specs.declared.graph.Node.{Node}
use Rattle.bridge_graph.specs.Parts.{Part, NodeLeads, opaque_at, numbers_of}
use Rattle.managed_heap.specs.Graphs.{ArePlaces, HasDeadField, HasPlaced, IsPlaceOf, IsDeadGraph, handle_number, handle_named, held_at, node_of}
use Rattle.managed_heap.specs.declared.rows.Header.{Header}
use Rattle.managed_heap.proofs.Lists.{beside-at}

-- rising numbers, by their places
pub Rises-order : (xs : List ℕ) (a b x y : ℕ) → Rises xs → slice_get xs a ≡ Some x → slice_get xs b ≡ Some y → a < b → x < y
Rises-order [] a b x y r e f l = absurd (none_some x e)
Rises-order (z ∷ zs) zero zero x y r e f l = absurd (omega (arith, l))
Rises-order (z ∷ zs) zero (suc b) x y r e f l = subst (λ k. k < y) (some-same z x e) (All-contains (λ k. z < k) zs y r.0 (Contains-at zs b y f))
Rises-order (z ∷ zs) (suc a) zero x y r e f l = absurd (omega (arith, l))
Rises-order (z ∷ zs) (suc a) (suc b) x y r e f l = Rises-order zs a b x y r.1 e f (omega (arith, l))

-- one place more
pub ArePlaces-next : (dead places : List ℕ) (i x : ℕ) → Rises dead → slice_get dead i ≡ Some x → x < length places → ArePlaces i dead places → ArePlaces (i + 1) dead (set places x (i + 1))
ArePlaces-next dead places i x r at within p = record {
  sound = λ y k e. elim (cases_eq y x) [
    | inl s ↦ (
        let here : i + 1 ≡ k + 1 = set-at_same places x (i + 1) (k + 1) (subst (λ z. slice_get (set places x (i + 1)) z ≡ Some (k + 1)) s e) in
        let same : i ≡ k = omega (arith, here) in
        subst (λ j. slice_get dead j ≡ Some y) same (at ∙ ap Some (sym s)))
    | inr n ↦ p.sound y k (sym (set-at_other places x y (i + 1) n) ∙ e)
  ];
  full = λ k y l e. elim (last-or k i l) [
    | inl m ↦ (
        let apart : y ≢ x = λ s. (let same = Rises-once dead k i x r (e ∙ ap Some s) at in omega (arith, same, m)) in
        set-at_other places x y (i + 1) apart ∙ p.full k y m e)
    | inr m ↦ (
        let same : x ≡ y = some-same x y (sym at ∙ subst (λ j. slice_get dead j ≡ Some y) m e) in
        subst (λ z. slice_get (set places x (i + 1)) z ≡ Some (k + 1)) same (set-at_here places x (i + 1) within ∙ ap (λ j. Some (j + 1)) (sym m)))
  ];
}

-- what holds of each of the first elements holds of all of them
pub take-all : {X : Type 0} (P : X → Type 0) (xs : List X) (i : ℕ) → ((k : ℕ) (x : X) → k < i → slice_get xs k ≡ Some x → P x) → All P (take i xs)
take-all P [] zero h = All-nil P
take-all P [] (suc i) h = All-nil P
take-all P (x ∷ xs) zero h = All-nil P
take-all P (x ∷ xs) (suc i) h = All-cons P x (take i xs) (h 0 x (omega arith) refl) (take-all P xs i (λ k y l e. h (suc k) y (omega (arith, l)) e))

pub number-at : (ms : List MNum) (k : ℕ) (x : MNum) → slice_get ms k ≡ Some x → slice_get (managed_numbers ms) k ≡ Some x.0
number-at ms k x e = slice_get-map (λ (m : MNum). m.0) ms k ∙ ap (option_map (λ (m : MNum). m.0)) e

-- the numbers of the nodes so far lie below the next one
pub nodes-below : (h : Heap) (held : List (Option ℕ)) (ms : List MNum) (i : ℕ) (d : MNum) → Rises (managed_numbers ms)
    → i < length ms → All (λ (n : Node). n.number.0 < (get_or ms i d).0) (map (node_of h held) (take i ms))
nodes-below h held ms i d r l =
    All-map (λ (n : Node). n.number.0 < (get_or ms i d).0) (node_of h held) (take i ms)
    (take-all (λ (m : MNum). m.0 < (get_or ms i d).0) ms i (λ k x w e. Rises-order (managed_numbers ms) k i x.0
    (get_or ms i d).0 r (number-at ms k x e) (number-at ms i (get_or ms i d) (slice_get-get_or ms i d l)) w))

-- a row of edges gets one more
pub leads-more : (es : List (List ℕ)) (from to a k : ℕ) → from < length es → NodeLeads (set es from (get_or es from [] ++ to ∷ [])) a k ↔ (NodeLeads es a k ⊎ ((a ≡ from) × (k ≡ to)))
leads-more es from to a k l = elim (cases_eq a from) [
  | inl s ↦ (
      let row : get_or (set es from (get_or es from [] ++ to ∷ [])) a [] ≡ get_or es a [] ++ to ∷ [] = ap (λ z. get_or (set es from (get_or es from [] ++ to ∷ [])) z []) s
      ∙ (get_or-set_same es from (get_or es from [] ++ to ∷ []) [] l ∙ ap (λ z. get_or es z [] ++ to ∷ []) (sym s)) in (
        λ c. elim (Contains-push_cases (get_or es a []) to k (subst (λ xs. Contains xs k) row c)) [ inl o ↦ inl o | inr e ↦ inr (s, sym e) ],
        λ c. subst (λ xs. Contains xs k) (sym row) (elim c [
          | inl o ↦ Contains-append_left (get_or es a []) (to ∷ []) k o
          | inr e ↦ subst (λ z. Contains (get_or es a [] ++ to ∷ []) z) (sym e.1) (Contains-push (get_or es a []) to)
        ]),
      ))
  | inr n ↦ (
      let row : get_or (set es from (get_or es from [] ++ to ∷ [])) a [] ≡ get_or es a [] = get_or-set_other es from a (get_or es from [] ++ to ∷ []) [] n in (
        λ c. inl (subst (λ xs. Contains xs k) row c),
        λ c. elim c [ inl o ↦ subst (λ xs. Contains xs k) (sym row) o | inr e ↦ absurd (n e.0) ],
      ))
]

pub placed-more : (places : List ℕ) (es : List (List ℕ)) (i a k y place : ℕ) → i < length es → slice_get places y ≡ Some place → (place ≡ 0 → ⊥)
    → NodeLeads (set es i (get_or es i [] ++ (place - 1) ∷ [])) a k ↔ (NodeLeads es a k ⊎ ((a ≡ i) × IsPlaceOf places (Some y) k))
placed-more places es i a k y place l at n =
    let m = leads-more es i (place - 1) a k l in
    let up : (place - 1) + 1 ≡ place = before place n in (
      λ c. elim (m.0 c) [ inl o ↦ inl o | inr e ↦ inr (e.0, (y, refl, at ∙ ap Some (sym (ap (λ z. z + 1) e.1 ∙ up)))) ],
      λ c. m.1 (elim c [
        | inl o ↦ inl o
        | inr e ↦ inr (
          e.0,
          (
              let there : slice_get places y ≡ Some (k + 1) = subst (λ w. slice_get places w ≡ Some (k + 1)) (sym (some-same y e.1.0 e.1.1)) e.1.2 in
              let same : place ≡ k + 1 = some-same place (k + 1) (sym at ∙ there) in
              omega (arith, same)),
        )
      ]),
    )
  where
    before : (place : ℕ) → (place ≡ 0 → ⊥) → (place - 1) + 1 ≡ place
    before zero n = absurd (n refl)
    before (suc p) n = omega arith

-- what a field of a live row holds has a place
pub field-within : (h : Heap) (x n : ℕ) (fs : List (Option ℕ)) (o : Option ℕ) → IsTidy h → IsLive h x → fs ≡ fields_of h x
    → n ≡ length h.fields + 1 → Contains fs o → IfSome o (λ y. y < n)
field-within h x n fs None t l e len c = tt
field-within h x n fs (Some y) t l e len c = (let live = t.held x y l (subst (λ z. Contains z (Some y)) e c) in omega (arith, live.made.1, len))

-- one field more in each turn
pub fields-more : (places : List ℕ) (fields : List (Option ℕ)) (j i : ℕ) (o : Option ℕ) (old mid new : List (List ℕ)) → slice_get fields j ≡ Some o
    → ((a k : ℕ) → NodeLeads mid a k ↔ (NodeLeads old a k ⊎ ((a ≡ i) × HasPlaced places (take j fields) k)))
    → ((a k : ℕ) → NodeLeads new a k ↔ (NodeLeads mid a k ⊎ ((a ≡ i) × IsPlaceOf places o k)))
    → (a k : ℕ) → NodeLeads new a k ↔ (NodeLeads old a k ⊎ ((a ≡ i) × HasPlaced places (take (j + 1) fields) k))
fields-more places fields j i o old mid new at f g a k =
    let longer : take (j + 1) fields ≡ take j fields ++ o ∷ [] = take-next fields j o at in (
      λ c. elim ((g a k).0 c) [
        | inl m ↦ elim ((f a k).0 m) [
          | inl x ↦ inl x
          | inr p ↦ inr (p.0, (p.1.0, subst (λ xs. Contains xs (Some p.1.0)) (sym longer) (Contains-append_left (take j fields) (o ∷ []) (Some p.1.0) p.1.1), p.1.2))
        ]
        | inr p ↦ inr (p.0, (p.1.0, subst (λ xs. Contains xs (Some p.1.0)) (sym longer) (subst (λ z. Contains (take j fields ++ o ∷ []) z) p.1.1 (Contains-push (take j fields) o)), p.1.2))
      ],
      λ c. elim c [
        | inl x ↦ (g a k).1 (inl ((f a k).1 (inl x)))
        | inr p ↦ elim (Contains-push_cases (take j fields) o (Some p.1.0) (subst (λ xs. Contains xs (Some p.1.0)) longer p.1.1)) [
          | inl m ↦ (g a k).1 (inl ((f a k).1 (inr (p.0, (p.1.0, m, p.1.2)))))
          | inr e ↦ (g a k).1 (inr (p.0, (p.1.0, e, p.1.2)))
        ]
      ],
    )

-- the rows that have places are those of the dead part
pub placed-dead : (h : Heap) (dead places : List ℕ) (i x k : ℕ) → ArePlaces (length dead) dead places → slice_get dead i ≡ Some x → HasPlaced places (fields_of h x) k ↔ HasDeadField h dead i k
placed-dead h dead places i x k p at = (
  λ c. record { from = x; to = c.0; here = at; there = p.sound c.0 k c.2; field = c.1 },
  λ d. (d.to, subst (λ z. Contains (fields_of h z) (Some d.to)) (some-same d.from x (sym d.here ∙ at)) d.field, p.full k d.to (slice_get_within dead k d.to d.there) d.there),
)

-- one row more
pub rows-more : (h : Heap) (dead places : List ℕ) (i x : ℕ) (old mid new : List (List ℕ)) → ArePlaces (length dead) dead places → slice_get dead i ≡ Some x
    → ((a k : ℕ) → NodeLeads mid a k ↔ (NodeLeads old a k ⊎ ((a < i) × HasDeadField h dead a k)))
    → ((a k : ℕ) → NodeLeads new a k ↔ (NodeLeads mid a k ⊎ ((a ≡ i) × HasPlaced places (fields_of h x) k)))
    → (a k : ℕ) → NodeLeads new a k ↔ (NodeLeads old a k ⊎ ((a < i + 1) × HasDeadField h dead a k))
rows-more h dead places i x old mid new p at f g a k = (
  λ c. elim ((g a k).0 c) [
    | inl m ↦ elim ((f a k).0 m) [ inl o ↦ inl o | inr d ↦ inr (omega (arith, d.0), d.1) ]
    | inr d ↦ inr (omega (arith, d.0), subst (λ z. HasDeadField h dead z k) (sym d.0) ((placed-dead h dead places i x k p at).0 d.1))
  ],
  λ c. elim c [
    | inl o ↦ (g a k).1 (inl ((f a k).1 (inl o)))
    | inr d ↦ elim (last-or a i d.0) [
      | inl l ↦ (g a k).1 (inl ((f a k).1 (inr (l, d.1))))
      | inr e ↦ (g a k).1 (inr (e, (placed-dead h dead places i x k p at).1 (subst (λ z. HasDeadField h dead z k) e d.1)))
    ]
  ],
)

pub rows-all : (h : Heap) (dead : List ℕ) (n : ℕ) (old new : List (List ℕ)) → length dead ≤ n
    → ((a k : ℕ) → NodeLeads new a k ↔ (NodeLeads old a k ⊎ ((a < n) × HasDeadField h dead a k))) → (a k : ℕ) → NodeLeads new a k ↔ (NodeLeads old a k ⊎ HasDeadField h dead a k)
rows-all h dead n old new l f a k = (
  λ c. elim ((f a k).0 c) [ inl o ↦ inl o | inr d ↦ inr d.1 ],
  λ c. (f a k).1 (elim c [ inl o ↦ inl o | inr d ↦ inr (omega (arith, l, slice_get_within dead a d.from d.here), d) ]),
)

-- from rows without edges
pub edges-all : (h : Heap) (dead : List ℕ) (old new : List (List ℕ)) → ((a : ℕ) → get_or old a [] ≡ [])
    → ((a k : ℕ) → NodeLeads new a k ↔ (NodeLeads old a k ⊎ HasDeadField h dead a k)) → (a k : ℕ) → NodeLeads new a k ↔ HasDeadField h dead a k
edges-all h dead old new none f a k = (
  λ c. elim ((f a k).0 c) [ inl o ↦ absurd (Contains-nil k (subst (λ xs. Contains xs k) (none a) o)) | inr d ↦ d ],
  λ d. (f a k).1 (inr d),
)

-- a row without fields is opaque, and no other
pub opaque-row : (h : Heap) (held : List (Option ℕ)) (ms : List MNum) (i : ℕ) (x : MNum) (nodes : List Node)
    → nodes ≡ map (node_of h held) ms → slice_get ms i ≡ Some x → opaque_at nodes i ≡ true → fields_of h x.0 ≡ []
opaque-row h held ms i x nodes is at o =
    let within = slice_get_within ms i x at in
    let few : i < length (map (node_of h held) ms) = omega (arith, within, length-map ms (node_of h held)) in
    let node : get_or (map (λ (n : Node). n.opaque) (map (node_of h held) ms)) i true ≡ nat_eq (length (fields_of h (get_or ms i x).0)) 0 =
    get_or-map (λ (n : Node). n.opaque) (map (node_of h held) ms) i (node_of h held x) true few ∙ ap (λ (n : Node). n.opaque) (get_or-map (node_of h held) ms i x (node_of h held x) within) in
    let test : nat_eq (length (fields_of h x.0)) 0 ≡ true = sym (node ∙ ap (λ (m : MNum). nat_eq (length (fields_of h m.0)) 0) (get_or_from_slice_get ms i x x at))
    ∙ subst (λ (ns : List Node). opaque_at ns i ≡ true) is o in
    nil_from_length (fields_of h x.0) (eqb-true (length (fields_of h x.0)) 0 test)

-- the graph as it is promised
numbers-nodes : (h : Heap) (held : List (Option ℕ)) (ms : List MNum) → numbers_of (map (node_of h held) ms) ≡ managed_numbers ms
numbers-nodes h held [] = refl
numbers-nodes h held (m ∷ ms) = ap (λ z. m.0 ∷ z) (numbers-nodes h held ms)

named-back : (o : Option ℕ) → handle_number (handle_named o) ≡ o
named-back None = refl
named-back (Some h) = refl

handles-nodes : (s : Managed) (h : Heap) (ms : List MNum) → ((m : ℕ) → Contains (managed_numbers ms) m → handle_of s m ≡ held_at s.held m)
    → map (λ (n : Node). handle_number n.handle) (map (node_of h s.held) ms) ≡ map (handle_of s) (managed_numbers ms)
handles-nodes s h [] e = refl
handles-nodes s h (m ∷ ms) e =
    let first : handle_number (handle_named (held_at s.held m.0)) ≡ handle_of s m.0 = named-back (held_at s.held m.0) ∙ sym (e m.0 (Contains-here m.0 (managed_numbers ms))) in
    let later = handles-nodes s h ms (λ k c. e k (Contains-there k m.0 (managed_numbers ms) c)) in
    ap (λ z. z ∷ map (λ (n : Node). handle_number n.handle) (map (node_of h s.held) ms)) first ∙ ap (λ zs. handle_of s m.0 ∷ zs) later

handle-live : (s : Managed) (m : ℕ) → IsLive s.heap m → handle_of s m ≡ held_at s.held m
handle-live s m l = ap (λ b. if b then None else held_at s.held m) (is_freed-live s.heap m l)

-- `h` is the heap over which the graph was made; the state has the same fields, and the rows are live in it
pub IsDeadGraph-made : (s : Managed) (h : Heap) (ms : List MNum) (g : Part) → s.heap.fields ≡ h.fields
    → ((m : ℕ) → Contains (managed_numbers ms) m → IsLive s.heap m) → g.nodes ≡ map (node_of h s.held) ms
    → ((a k : ℕ) → NodeLeads g.edges a k ↔ HasDeadField h (managed_numbers ms) a k) → IsDeadGraph s (managed_numbers ms) g
IsDeadGraph-made s h ms g same live nodes edges =
    let row : (x : ℕ) → fields_of s.heap x ≡ fields_of h x = λ x. ap (λ (fs : List (List (Option ℕ))). elim (numbered_at fs x) [ None ↦ [] | Some f ↦ f ]) same in
    record {
      numbers = ap numbers_of nodes ∙ numbers-nodes h s.held ms;
      handles = ap (map (λ (n : Node). handle_number n.handle)) nodes ∙ handles-nodes s h ms (λ m c. handle-live s m (live m c));
      edges = λ i k x y ex ey. (
        λ c. (
            let d = (edges i k).0 c in
            let fx : d.from ≡ x = some-same d.from x (sym d.here ∙ ex) in
            let fy : d.to ≡ y = some-same d.to y (sym d.there ∙ ey) in
            record {
              live = live x (Contains-at (managed_numbers ms) i x ex);
              field = subst (λ fs. Contains fs (Some y)) (sym (row x)) (subst (λ z. Contains (fields_of h z) (Some y)) fx (subst (λ z. Contains (fields_of h d.from) (Some z)) fy d.field));
              there = live y (Contains-at (managed_numbers ms) k y ey);
            }),
        λ f. (edges i k).1 (record { from = x; to = y; here = ex; there = ey; field = subst (λ fs. Contains fs (Some y)) (row x) f.field }),
      );
    }

-- the handle beside a row
pub held_at-at : (headers : List Header) (m : ℕ) (d : Header) → 1 ≤ m → m ≤ length headers → held_at (map (λ (i : Header). i.handle) headers) m ≡ (get_or headers (m - 1) d).handle
held_at-at headers m d one few = ap (λ (o : Option (Option ℕ)). elim o [ None ↦ None | Some h ↦ h ]) (beside-at (λ (i : Header). i.handle) headers m d one few)

-- a place is that of a node
pub place-there : (places : List ℕ) (y place n : ℕ) → slice_get places y ≡ Some place → (place ≡ 0 → ⊥) → ((z k : ℕ) → slice_get places z ≡ Some (k + 1) → k < n) → place - 1 < n
place-there places y zero n at some within = absurd (some refl)
place-there places y (suc p) n at some within =
    let up : suc p ≡ p + 1 = omega arith in
    let low = within y p (at ∙ ap Some up) in
    omega (arith, low)
