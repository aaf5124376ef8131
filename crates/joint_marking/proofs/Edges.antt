-- Rows to which edges are added, over plain lists. One write adds one edge; what two calls add one after the
-- other makes one addition, of both; so a loop over places or over rows has added the edges of those that it
-- has passed.
use Rattle.std.proofs.Common.{◌≡◌, ℕ, zero, suc, ◌+◌, ◌<◌, ◌≤◌, ◌↔◌, ◌⊎◌, inl, inr, List, [], ◌∷◌, ◌++◌, length, map, take, set, get_or, Option, Some, None, refl, sym, ap, subst, ◌∙◌, arith}
use Rattle.std.proofs.Common.{length-append}
use Rattle.std.specs.Prelude.{Contains, slice_get}
use Rattle.std.specs.Option.{option_map}
use Rattle.std.proofs.Math.ListN.{length-set}
use Rattle.std.proofs.lemmas.List.Elements.{Contains-push, Contains-push_cases, Contains-append_left}
use Rattle.std.proofs.lemmas.List.{take_all, map-set, map-append, length-map}
use Rattle.std.proofs.lemmas.Option.{slice_get-map, slice_get_read}
use Rattle.joint_machine.specs.Heaps.{Heap, IsLive, fields_of, slot}
use Rattle.joint_machine.specs.Joint.{Graph, IsJoined}
use Rattle.joint_machine.proofs.Members.{last-or, take-next}
use Rattle.joint_machine.proofs.Deciding.{none_some, some-same}
use Rattle.joint_marking.specs.Nodes.{AddsEdges, LeadToNodes, HasNone, IsPair, IsRound, FieldEdge, ObjectField, ObjectEdge, objects_in, targets_at}
use Rattle.joint_machine.proofs.Numbered.{slot-at}

-- what a row has after a write to a row: the written one has what was written, and each other what it had
set-from : (rows : List (List ℕ)) (a k : ℕ) (r : List ℕ) (j : ℕ) → Contains (targets_at (set rows a r) k) j → ((k ≡ a) × Contains r j) ⊎ Contains (targets_at rows k) j
set-from [] a k r j c = inr c
set-from (x ∷ rows) zero zero r j c = inl (refl, c)
set-from (x ∷ rows) zero (suc k) r j c = inr c
set-from (x ∷ rows) (suc a) zero r j c = inr c
set-from (x ∷ rows) (suc a) (suc k) r j c = elim (set-from rows a k r j c) [ inl h ↦ inl (ap suc h.0, h.1) | inr h ↦ inr h ]

set-keeps : (rows : List (List ℕ)) (a k : ℕ) (r : List ℕ) (j : ℕ) → (Contains (targets_at rows a) j → Contains r j) → Contains (targets_at rows k) j → Contains (targets_at (set rows a r) k) j
set-keeps [] a k r j h c = c
set-keeps (x ∷ rows) zero zero r j h c = h c
set-keeps (x ∷ rows) zero (suc k) r j h c = c
set-keeps (x ∷ rows) (suc a) zero r j h c = c
set-keeps (x ∷ rows) (suc a) (suc k) r j h c = set-keeps rows a k r j h c

set-here : (rows : List (List ℕ)) (a : ℕ) (r : List ℕ) (j : ℕ) → a < length rows → Contains r j → Contains (targets_at (set rows a r) a) j
set-here [] a r j l c = absurd (omega (arith, l))
set-here (x ∷ rows) zero r j l c = c
set-here (x ∷ rows) (suc a) r j l c = set-here rows a r j (omega (arith, l)) c

-- a push to the row of a adds the edge from a
pub AddsEdges-one : (rows : List (List ℕ)) (a b : ℕ) (r : List ℕ) → a < length rows → targets_at rows a ≡ r → AddsEdges (IsPair a b) rows (set rows a (r ++ b ∷ []))
AddsEdges-one rows a b r l e = record {
  len = length-set rows a (r ++ b ∷ []);
  exact = λ k j. (
    λ c. elim (set-from rows a k (r ++ b ∷ []) j c) [
      | inl h ↦ elim (Contains-push_cases r b j h.1) [
        | inl w ↦ inl (subst (λ i. Contains (targets_at rows i) j) (sym h.0) (subst (λ t. Contains t j) (sym e) w))
        | inr w ↦ inr (h.0, sym w)
      ]
      | inr h ↦ inl h
    ],
    λ h. elim h [
      | inl w ↦ set-keeps rows a k (r ++ b ∷ []) j (λ c. Contains-append_left r (b ∷ []) j (subst (λ t. Contains t j) e c)) w
      | inr w ↦ subst (λ i. Contains (targets_at (set rows a (r ++ b ∷ [])) i) j) (sym w.0)
          (set-here rows a (r ++ b ∷ []) j l (subst (λ t. Contains (r ++ b ∷ []) t) (sym w.1) (Contains-push r b)))
    ],
  );
}

-- the row at an index of a list that is seen through a view
pub row-read : {A : Type 0} (f : A → List ℕ) (vs : List A) (k : ℕ) (r : A) → k < length vs → r ≡ get_or vs k r → targets_at (map f vs) k ≡ f r
row-read f vs k r l e =
    let here : slice_get (map f vs) k ≡ Some (f r) = slice_get-map f vs k ∙ ap (option_map f) (slice_get_read vs (length vs) k r refl l e) in
    rw (here, targets_at) refl

-- a write to that row adds an edge, or leaves all as it is
pub write-one : {A : Type 0} (f : A → List ℕ) (vs : List A) (k j : ℕ) (r t : A) → k < length vs → r ≡ get_or vs k r → f t ≡ f r ++ j ∷ [] → AddsEdges (IsPair k j) (map f vs) (map f (set vs k t))
write-one f vs k j r t l e p = rw (map-set f vs k t, p) (AddsEdges-one (map f vs) k j (f r) (omega (arith, l, length-map vs f)) (row-read f vs k r l e))

pub write-same : {A : Type 0} (f : A → List ℕ) (vs : List A) (k : ℕ) (r t : A) → k < length vs → r ≡ get_or vs k r → f t ≡ f r → LeadToNodes (map f vs) → LeadToNodes (map f (set vs k t))
write-same f vs k r t l e p w i j c =
    let same : map f (set vs k t) ≡ set (map f vs) k (f r) = map-set f vs k t ∙ ap (set (map f vs) k) p in
    let len : length (map f (set vs k t)) ≡ length (map f vs) = ap length same ∙ length-set (map f vs) k (f r) in
    elim (set-from (map f vs) k i (f r) j (subst (λ z. Contains (targets_at z i) j) same c)) [
      | inl h ↦ omega (arith, len, w k j (subst (λ z. Contains z j) (sym (row-read f vs k r l e)) h.1))
      | inr h ↦ omega (arith, len, w i j h)
    ]

-- no edge is added
pub AddsEdges-none : (edge : ℕ → ℕ → Type 0) (a : List (List ℕ)) → ((k j : ℕ) → edge k j → ⊥) → AddsEdges edge a a
AddsEdges-none edge a none = record { len = refl; exact = λ k j. (λ c. inl c, λ h. elim h [ inl w ↦ w | inr w ↦ absurd (none k j w) ]) }

-- the edges of two calls, one after the other
pub AddsEdges-then : (p q edge : ℕ → ℕ → Type 0) (a b c : List (List ℕ)) → ((k j : ℕ) → edge k j → p k j ⊎ q k j)
    → ((k j : ℕ) → p k j → edge k j) → ((k j : ℕ) → q k j → edge k j) → AddsEdges p a b → AddsEdges q b c → AddsEdges edge a c
AddsEdges-then p q edge a b c split left right x y = record {
  len = y.len ∙ x.len;
  exact = λ k j. (
    λ h. elim ((y.exact k j).0 h) [
      | inl w ↦ elim ((x.exact k j).0 w) [ inl v ↦ inl v | inr v ↦ inr (left k j v) ]
      | inr w ↦ inr (right k j w)
    ],
    λ h. elim h [
      | inl w ↦ (y.exact k j).1 (inl ((x.exact k j).1 (inl w)))
      | inr w ↦ elim (split k j w) [ inl v ↦ (y.exact k j).1 (inl ((x.exact k j).1 (inr v))) | inr v ↦ (y.exact k j).1 (inr v) ]
    ],
  );
}

-- the same edges under another name
pub AddsEdges-as : (p edge : ℕ → ℕ → Type 0) (a b : List (List ℕ)) → ((k j : ℕ) → edge k j → p k j) → ((k j : ℕ) → p k j → edge k j) → AddsEdges p a b → AddsEdges edge a b
AddsEdges-as p edge a b there back x = AddsEdges-then p (λ k j. ⊥) edge a b b (λ k j e. inl (there k j e)) back (λ k j f. absurd f) x (AddsEdges-none (λ k j. ⊥) b (λ k j f. f))

-- the edges from a to b, and from b to a
pub AddsEdges-round : (x y : ℕ) (a b c : List (List ℕ)) → AddsEdges (IsPair x y) a b → AddsEdges (IsPair y x) b c → AddsEdges (IsRound x y) a c
AddsEdges-round x y a b c = AddsEdges-then (IsPair x y) (IsPair y x) (IsRound x y) a b c (λ k j e. e) (λ k j e. inl e) (λ k j e. inr e)

-- nodes lead to nodes still, once an edge to a node is added
pub AreWithin-one : (x y : ℕ) (a b : List (List ℕ)) → y < length a → LeadToNodes a → AddsEdges (IsPair x y) a b → LeadToNodes b
AreWithin-one x y a b l w d k j c = elim ((d.exact k j).0 c) [ inl h ↦ omega (arith, w k j h, d.len) | inr h ↦ omega (arith, h.1, l, d.len) ]

-- one node more that leads nowhere
at-push : (rows : List (List ℕ)) (k j : ℕ) → Contains (targets_at (rows ++ [] ∷ []) k) j → Contains (targets_at rows k) j
at-push [] zero j c = c
at-push [] (suc k) j c = c
at-push (r ∷ rows) zero j c = c
at-push (r ∷ rows) (suc k) j c = at-push rows k j c

pub HasNone-push : (n : ℕ) (rows : List (List ℕ)) → HasNone n rows → HasNone (n + 1) (rows ++ [] ∷ [])
HasNone-push n rows h = record { len = omega (arith, h.len, length-append rows ([] ∷ [])); none = λ k j c. h.none k j (at-push rows k j c) }

pub HasNone-pushed : {A : Type 0} (f : A → List ℕ) (vs ws : List A) (v : A) (n : ℕ) → HasNone n (map f vs) → ws ≡ vs ++ v ∷ [] → f v ≡ [] → HasNone (n + 1) (map f ws)
HasNone-pushed f vs ws v n h p e = rw (p, map-append f vs (v ∷ []), e) (HasNone-push n (map f vs) h)

pub HasNone-within : (n : ℕ) (rows : List (List ℕ)) → HasNone n rows → LeadToNodes rows
HasNone-within n rows h k j c = absurd (h.none k j c)

-- the edges of the places below i of a list of fields, with live targets
pub record PlacesBelow (live : ℕ → Type 0) (node : ℕ → ℕ) (x : ℕ) (fields : List (Option ℕ)) (i k j : ℕ) : Type 0 where
  pub target : ℕ
  pub held : Contains (take i fields) (Some target)
  pub there : live target
  pub ends : IsPair (node x) (node target) k j

-- one place more, which holds a target
pub Places-push : (live : ℕ → Type 0) (node : ℕ → ℕ) (x : ℕ) (fields : List (Option ℕ)) (i y : ℕ) (a b c : List (List ℕ)) → i < length fields → slot fields i ≡ Some y
    → live y → AddsEdges (PlacesBelow live node x fields i) a b → AddsEdges (IsPair (node x) (node y)) b c → AddsEdges (PlacesBelow live node x fields (i + 1)) a c
Places-push live node x fields i y a b c l s v d f =
    let more = take-next fields i (Some y) (slot-at fields i (Some y) l s) in
    AddsEdges-then (PlacesBelow live node x fields i) (IsPair (node x) (node y)) (PlacesBelow live node x fields (i + 1)) a b c
    (λ k j e. elim (Contains-push_cases (take i fields) (Some y) (Some e.target) (subst (λ t. Contains t (Some e.target)) more e.held)) [
      | inl h ↦ inl (record { target = e.target; held = h; there = e.there; ends = e.ends })
      | inr h ↦ inr (subst (λ t. IsPair (node x) (node t) k j) (sym (some-same y e.target h)) e.ends)
    ])
    (λ k j e. record {
      target = e.target;
      held = subst (λ t. Contains t (Some e.target)) (sym more) (Contains-append_left (take i fields) (Some y ∷ []) (Some e.target) e.held);
      there = e.there;
      ends = e.ends;
    })
    (λ k j e. record { target = y; held = subst (λ t. Contains t (Some y)) (sym more) (Contains-push (take i fields) (Some y)); there = v; ends = e })
    d f

-- one place more, which is empty
pub Places-skip : (live : ℕ → Type 0) (node : ℕ → ℕ) (x : ℕ) (fields : List (Option ℕ)) (i : ℕ) (a b : List (List ℕ)) → i < length fields
    → slot fields i ≡ None → AddsEdges (PlacesBelow live node x fields i) a b → AddsEdges (PlacesBelow live node x fields (i + 1)) a b
Places-skip live node x fields i a b l s d =
    let more = take-next fields i None (slot-at fields i None l s) in
    AddsEdges-as (PlacesBelow live node x fields i) (PlacesBelow live node x fields (i + 1)) a b
    (λ k j e. elim (Contains-push_cases (take i fields) None (Some e.target) (subst (λ t. Contains t (Some e.target)) more e.held)) [
      | inl h ↦ record { target = e.target; held = h; there = e.there; ends = e.ends }
      | inr h ↦ absurd (none_some e.target h)
    ])
    (λ k j e. record {
      target = e.target;
      held = subst (λ t. Contains t (Some e.target)) (sym more) (Contains-append_left (take i fields) (None ∷ []) (Some e.target) e.held);
      there = e.there;
      ends = e.ends;
    })
    d

-- all places of a live object: the edges over its fields
pub Places-all : (h : Heap) (node : ℕ → ℕ) (x i : ℕ) (a b : List (List ℕ)) → IsLive h x → length (fields_of h x) ≤ i
    → AddsEdges (PlacesBelow (IsLive h) node x (fields_of h x) i) a b → AddsEdges (FieldEdge h node x) a b
Places-all h node x i a b v l d =
    let whole = take_all i (fields_of h x) l in
    AddsEdges-as (PlacesBelow (IsLive h) node x (fields_of h x) i) (FieldEdge h node x) a b
    (λ k j e. record { target = e.target; held = subst (λ t. Contains t (Some e.target)) (sym whole) e.field.field; there = e.field.there; ends = e.ends })
    (λ k j e. record { target = e.target; field = record { live = v; field = subst (λ t. Contains t (Some e.target)) whole e.held; there = e.there }; ends = e.ends })
    d

-- a managed object's fields, and then its twin
pub Object-twin : (g : Graph) (x p : ℕ) (a b c : List (List ℕ)) → ((q : ℕ) → (Some p ≡ Some q) ↔ IsJoined g x q)
    → AddsEdges (ObjectField g x) a b → AddsEdges (IsRound x (objects_in g + p)) b c → AddsEdges (ObjectEdge g x) a c
Object-twin g x p a b c t = AddsEdges-then (ObjectField g x) (IsRound x (objects_in g + p)) (ObjectEdge g x) a b c
    (λ k j e. elim e [
      | inl w ↦ inl w
      | inr w ↦ inr (subst (λ q. IsRound x (objects_in g + q) k j) (sym (some-same p w.twin ((t w.twin).1 w.joined))) w.ends)
    ])
    (λ k j e. inl e)
    (λ k j e. inr (record { twin = p; joined = (t p).0 refl; ends = e }))

-- a managed object without a twin
pub Object-alone : (g : Graph) (x : ℕ) (a b : List (List ℕ)) → ((q : ℕ) → (None ≡ Some q) ↔ IsJoined g x q) → AddsEdges (ObjectField g x) a b → AddsEdges (ObjectEdge g x) a b
Object-alone g x a b t = AddsEdges-as (ObjectField g x) (ObjectEdge g x) a b
    (λ k j e. elim e [ inl w ↦ w | inr w ↦ absurd (none_some w.twin ((t w.twin).1 w.joined)) ])
    (λ k j e. inl e)

-- the edges that the rows below i bring
abbrev pub BroughtBelow : (ℕ → ℕ → ℕ → Type 0) → ℕ → ℕ → ℕ → Type 0
BroughtBelow brings i k j = (x : ℕ) × (x < i) × brings x k j

pub Brought-push : (brings : ℕ → ℕ → ℕ → Type 0) (i : ℕ) (a b c : List (List ℕ)) → AddsEdges (BroughtBelow brings i) a b → AddsEdges (brings i) b c → AddsEdges (BroughtBelow brings (i + 1)) a c
Brought-push brings i a b c = AddsEdges-then (BroughtBelow brings i) (brings i) (BroughtBelow brings (i + 1)) a b c
    (λ k j e. elim (last-or e.0 i e.1) [ inl l ↦ inl (e.0, l, e.2) | inr s ↦ inr (subst (λ x. brings x k j) s e.2) ])
    (λ k j e. (e.0, omega (arith, e.1), e.2))
    (λ k j e. (i, omega arith, e))

pub Brought-skip : (brings : ℕ → ℕ → ℕ → Type 0) (i : ℕ) (a b : List (List ℕ)) → ((k j : ℕ) → brings i k j → ⊥) → AddsEdges (BroughtBelow brings i) a b → AddsEdges (BroughtBelow brings (i + 1)) a b
Brought-skip brings i a b none d = Brought-push brings i a b b d (AddsEdges-none (brings i) b none)

pub Brought-all : (brings : ℕ → ℕ → ℕ → Type 0) (i : ℕ) (a b : List (List ℕ)) → ((x k j : ℕ) → brings x k j → x < i)
    → AddsEdges (BroughtBelow brings i) a b → AddsEdges (λ k j. (x : ℕ) × brings x k j) a b
Brought-all brings i a b all = AddsEdges-as (BroughtBelow brings i) (λ k j. (x : ℕ) × brings x k j) a b
    (λ k j e. (e.0, all e.0 k j e.1, e.1))
    (λ k j e. (e.0, e.2))
