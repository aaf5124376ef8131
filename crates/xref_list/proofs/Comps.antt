-- One component more: the flat lists stay cut into components, and the components stay in their order and
-- apart. There are never more than 4,294,967,294, because first members rise and are below that.
use Rattle.std.proofs.Common.{◌≡◌, ◌≢◌, ◌⊎◌, ℕ, suc, ◌+◌, ◌-◌, ◌<◌, ◌≤◌, Bool, List, [], ◌∷◌, ◌++◌, length, map, get_or, Some, Result, Ok, Err, IfOk, OnOk, OnErr, refl, sym, subst, drop, append_assoc}
use Rattle.std.proofs.Common.{drop-cons, add-one, ◌∙◌, ap, arith, inl, inr}
use Rattle.std.proofs.lemmas.Bool.{lt-ltb, le-ltb}
use Rattle.std.proofs.lemmas.List.{append-nil, drop_all, get_or_append_left, get_or-append_right, get_or-map, length_push, length-append, length-map, map_push, flat_map_more}
use Rattle.std.proofs.lemmas.List.FromFn.{length-map-range_with_len}
use Rattle.std.proofs.lemmas.List.Elements.{All-head, All-tail, All-push, All-map, All-weaker}
use Rattle.std.proofs.lemmas.List.Quantifiers.{all_pairs_push}
use Rattle.std.proofs.lemmas.Option.{slice_get-get_or}
use Rattle.std.specs.List.{All}
use Rattle.std.specs.Prelude.{flat_map, slice_get}
use Rattle.joint_machine.specs.Components.{Rises, first_at, first_of, circle, circle_from, between_nodes, end_at, mirror_edges, PairsRise}
use Rattle.joint_machine.specs.Components as exact
use Rattle.joint_machine.proofs.Members.{Rises-push}
use Rattle.bridge_graph.specs.Packing.{packed_row, packed_rows}
use Rattle.bridge_graph.proofs.Packs.{packed_rows-more, cut-more}
use Rattle.xref_list.specs.declared.pairs.Added.{Added}
use Rattle.xref_list.specs.declared.pairs.Added.TheVariants.{New, Old}
use Rattle.xref_list.specs.Adding.{AddsPair}
use Rattle.xref_list.specs.declared.components.End.{End}
use Rattle.xref_list.specs.declared.components.End.TheVariants.{Node, Temp}
use Rattle.xref_list.specs.Ends.{end_of, ends_of}
use Rattle.xref_list.specs.Listing.{AreDisjoint, AreComponents, IsBetween, IsListing}
use Rattle.xref_list.specs.Kept.{AreFlat, IsListingBegun}

pub length-packed : (starts members : List ℕ) (n : ℕ) → length (packed_rows starts members n) ≡ n
length-packed starts members n = length-map-range_with_len (packed_row starts members) 0 n

-- rising numbers from a on, below n, are at most n - a
pub few_rising : (xs : List ℕ) (a n : ℕ) → Rises xs → All (λ x. a ≤ x) xs → All (λ x. x < n) xs → length xs ≤ n - a
few_rising [] a n r h k = omega arith
few_rising (x ∷ xs) a n r h k =
    omega (arith, few_rising xs (suc x) n r.1 r.0 (All-tail (λ y. y < n) x xs k), All-head (λ y. a ≤ y) x xs h, All-head (λ y. y < n) x xs k)

first_below : (xs : List ℕ) (n : ℕ) → 0 < length xs → All (λ x. x < n) xs → first_of xs < n
first_below [] n s h = absurd (omega arith)
first_below (x ∷ xs) n s h = All-head (λ y. y < n) x xs h

firsts_below : (comps : List (List ℕ)) → All (λ m. 0 < length m) comps → All (λ m. All (λ x. x < 4294967294) m) comps → All (λ x. x < 4294967294) (map first_of comps)
firsts_below comps s b = All-map (λ x. x < 4294967294) first_of comps (λ k d lt. first_below (get_or comps k d) 4294967294 (s k d lt) (b k d lt))

pub few_components : (comps : List (List ℕ)) → AreComponents comps → length comps ≤ 4294967294
few_components comps a =
    omega (arith, few_rising (map first_of comps) 0 4294967294 a.order (λ k d lt. omega arith) (firsts_below comps a.some a.below), length-map comps first_of)

pub components_more : (comps : List (List ℕ)) (objs : List ℕ) → AreComponents comps → 0 < length objs → Rises objs → All (λ x. x < 4294967294) objs
    → All (λ members. AreDisjoint members objs) comps → All (λ members. first_of members < first_of objs) comps → AreComponents (comps ++ objs ∷ [])
components_more comps objs a s r b d f = record {
  members = All-push Rises comps objs a.members r;
  some = All-push (λ m. 0 < length m) comps objs a.some s;
  order = rw (map_push first_of comps objs) (Rises-push (map first_of comps) (first_of objs) a.order (All-map (λ x. x < first_of objs) first_of comps f));
  below = All-push (λ m. All (λ x. x < 4294967294) m) comps objs a.below b;
  apart = all_pairs_push AreDisjoint comps objs a.apart d;
}

length-circle_from : (first x : ℕ) (xs : List ℕ) → length (circle_from first x xs) ≡ length xs + 1
length-circle_from first x [] = refl
length-circle_from first x (y ∷ xs) = omega (arith, length-circle_from first y xs)

pub length-circle : (xs : List ℕ) → length (circle xs) ≤ length xs
length-circle [] = omega arith
length-circle (x ∷ []) = omega arith
length-circle (x ∷ y ∷ xs) = omega (arith, length-circle_from x x (y ∷ xs))

pub flat_more : (members starts : List ℕ) (circles : List (ℕ × ℕ)) (objs : List ℕ) → AreFlat members starts circles → length starts < 4294967294
    → length members + length objs ≤ 4294967295 → AreFlat (members ++ objs) (starts ++ length members ∷ []) (circles ++ circle objs)
flat_more members starts circles objs a few most = record {
  cut = cut-more starts members objs a.cut;
  circle = rw (length_push starts (length members), packed_rows-more starts members objs (length starts) refl a.cut)
      (ap (λ cs. cs ++ circle objs) a.circle ∙ flat_map_more circle [] (packed_rows starts members (length starts)) objs);
  few = omega (arith, length_push starts (length members));
  most = omega (arith, length-append members objs);
  edges = omega (arith, a.edges, length-append members objs, length-append circles (circle objs), length-circle objs);
}

pub between_wider : (n m : ℕ) (pairs : List (ℕ × ℕ)) → n ≤ m → All (IsBetween n) pairs → All (IsBetween m) pairs
between_wider n m pairs le h = All-weaker (IsBetween n) (IsBetween m) (λ p b. record { source = omega (arith, b.source); destination = omega (arith, b.destination); apart = b.apart }) pairs h

pub building_more : (members starts : List ℕ) (circles pairs : List (ℕ × ℕ)) (heavy : ℕ) (sorted : Bool) (objs : List ℕ) → heavy ≡ 0 → IsListingBegun members starts circles heavy pairs sorted
    → length members + length objs + length pairs ≤ 4294967295 → 0 < length objs → Rises objs → All (λ x. x < 4294967294) objs
    → All (λ m. AreDisjoint m objs) (packed_rows starts members (length starts)) → All (λ m. first_of m < first_of objs) (packed_rows starts members (length starts))
    → IsListingBegun (members ++ objs) (starts ++ length members ∷ []) (circles ++ circle objs) heavy pairs sorted
building_more members starts circles pairs heavy sorted objs none b most s r l d f =
    let comps = packed_rows starts members (length starts) in
    let more = components_more comps objs b.components s r l d f in
    let few = few_components (comps ++ objs ∷ []) more in
    record {
      flat = flat_more members starts circles objs b.flat (omega (arith, few, length_push comps objs, length-packed starts members (length starts))) (omega (arith, most));
      components = rw (length_push starts (length members), packed_rows-more starts members objs (length starts) refl b.flat.cut) more;
      ends = between_wider (length starts + heavy) (length (starts ++ length members ∷ []) + heavy) pairs (omega (arith, length_push starts (length members))) b.ends;
      room = omega (arith, few, length_push comps objs, length-packed starts members (length starts), length_push starts (length members));
      rising = b.rising;
      count = omega (arith, most, length-append members objs);
    }

pub between_push : (n : ℕ) (pairs : List (ℕ × ℕ)) (p : ℕ × ℕ) → All (IsBetween n) pairs → p.0 < n → p.1 < n → p.0 ≢ p.1 → All (IsBetween n) (pairs ++ p ∷ [])
between_push n pairs p h a b c = All-push (IsBetween n) pairs p h (record { source = a; destination = b; apart = c })

pub listing_of : (comps : List (List ℕ)) (heavy : ℕ) (pairs : List (ℕ × ℕ)) → AreComponents comps → PairsRise pairs → All (IsBetween (length comps + heavy)) pairs
    → length comps + heavy ≤ 4294967294 → IsListing comps heavy pairs
listing_of comps heavy pairs a r e f = record {
  canonical = record { members = a.members; some = a.some; order = a.order; rising = r };
  components = a;
  ends = e;
  few = f;
}

-- what adding one pair left: the pairs as they were, or with the new one
pub one_added : {E : Type 0} (r : Result Added E) (before after : List (ℕ × ℕ)) (p : ℕ × ℕ) → IfOk r (λ a. AddsPair a before after p) → OnErr r (after ≡ before)
    → (after ≡ before) ⊎ (after ≡ before ++ p ∷ [])
one_added (Ok New) before after p a e = inr a.1
one_added (Ok Old) before after p a e = inl a.1
one_added (Err x) before after p a e = inl e

-- what adding many left
pub many_added : {T E : Type 0} (r : Result T E) (before after more : List (ℕ × ℕ)) → OnOk r (after ≡ more) → OnErr r (after ≡ before)
    → (after ≡ before) ⊎ (after ≡ more)
many_added (Ok x) before after more a e = inr a
many_added (Err x) before after more a e = inl e

pub ends_group : (n src : ℕ) (dsts : List ℕ) → src < n → All (λ d. d < n) dsts → All (λ d. src ≢ d) dsts → All (IsBetween n) (map (λ d. (src, d)) dsts)
ends_group n src dsts s h a = All-map (IsBetween n) (λ d. (src, d)) dsts (λ k d lt. record { source = s; destination = h k d lt; apart = a k d lt })

-- the answered edges: those of the circles, and behind them those of the pairs
abbrev answered : List (List ℕ) → List (ℕ × ℕ) → List (End × End)
answered comps pairs = map (ends_of (length comps)) (mirror_edges comps pairs)

abbrev edge_of : List (List ℕ) → ℕ × ℕ → exact.End × exact.End
edge_of comps p = (end_at comps p.0, end_at comps p.1)

pub mirror-count : (comps : List (List ℕ)) (pairs circles : List (ℕ × ℕ)) → circles ≡ flat_map circle comps → length (mirror_edges comps pairs) ≡ length circles + length pairs
mirror-count comps pairs circles is =
    omega (
      arith,
      ap length is,
      length-append (map between_nodes (flat_map circle comps)) (map (edge_of comps) pairs),
      length-map (flat_map circle comps) between_nodes,
      length-map pairs (edge_of comps),
    )

edge-at : (comps : List (List ℕ)) (pairs circles : List (ℕ × ℕ)) (i : ℕ) (e : exact.End × exact.End) → circles ≡ flat_map circle comps → i < length circles + length pairs
    → e ≡ get_or (map between_nodes circles ++ map (edge_of comps) pairs) i e → slice_get (answered comps pairs) i ≡ Some (ends_of (length comps) e)
edge-at comps pairs circles i e is within at =
    let all = mirror_edges comps pairs in
    let count = mirror-count comps pairs circles is in
    let here : e ≡ get_or all i e = at ∙ ap (λ l. get_or (map between_nodes l ++ map (edge_of comps) pairs) i e) is in
    slice_get-get_or (answered comps pairs) i (ends_of (length comps) e) (omega (arith, within, count, length-map all (ends_of (length comps))))
    ∙ ap (λ z. Some z) (get_or-map (ends_of (length comps)) all i e (ends_of (length comps) e) (omega (arith, within, count)) ∙ ap (ends_of (length comps)) (sym here))

-- a mirror edge: of a circle, or between the ends of a pair's components
pub mirror-circle : (comps : List (List ℕ)) (pairs circles : List (ℕ × ℕ)) (i : ℕ) (e : ℕ × ℕ) → circles ≡ flat_map circle comps → i < length circles → e ≡ get_or circles i e
    → slice_get (answered comps pairs) i ≡ Some (Node e.0, Node e.1)
mirror-circle comps pairs circles i e is within at =
    edge-at comps pairs circles i (between_nodes e) is (omega (arith, within))
    (sym (get_or_append_left (map between_nodes circles) (map (edge_of comps) pairs) (between_nodes e) i (omega (arith, within, length-map circles between_nodes))
    ∙ (get_or-map between_nodes circles i e (between_nodes e) within ∙ ap between_nodes (sym at))))

pub mirror-pair : (comps : List (List ℕ)) (pairs circles : List (ℕ × ℕ)) (i : ℕ) (p : ℕ × ℕ) → circles ≡ flat_map circle comps
    → length circles ≤ i → i - length circles < length pairs → p ≡ get_or pairs (i - length circles) p
    → slice_get (answered comps pairs) i ≡ Some (end_of (length comps) (end_at comps p.0), end_of (length comps) (end_at comps p.1))
mirror-pair comps pairs circles i p is past within at =
    edge-at comps pairs circles i (edge_of comps p) is (omega (arith, past, within))
    (sym (get_or-append_right (map between_nodes circles) (map (edge_of comps) pairs) (length circles) i (edge_of comps p) (length-map circles between_nodes) past
    ∙ (get_or-map (edge_of comps) pairs (i - length circles) p (edge_of comps p) within ∙ ap (edge_of comps) (sym at))))

pub between-at : (n : ℕ) (pairs : List (ℕ × ℕ)) (k : ℕ) (p : ℕ × ℕ) → All (IsBetween n) pairs → k < length pairs → p ≡ get_or pairs k p → IsBetween n p
between-at n pairs k p h within e = subst (IsBetween n) (sym e) (h k p within)

-- one more edge of a circle
pub circle-next : (members : List ℕ) (edges more all : List (ℕ × ℕ)) (i : ℕ) → i < length members
    → edges ++ circle_from (get_or members 0 0) (get_or members (i - 1) 0) (drop i members) ≡ all → more ≡ edges ++ (get_or members (i - 1) 0, get_or members i 0) ∷ []
    → more ++ circle_from (get_or members 0 0) (get_or members (i + 1 - 1) 0) (drop (i + 1) members) ≡ all
circle-next members edges more all i within rest e =
    let first = get_or members 0 0 in
    let here : drop i members ≡ get_or members i 0 ∷ drop (i + 1) members = rw add-one (drop-cons members i 0 within) in
    let at : i + 1 - 1 ≡ i = omega arith in
    rw (e, at, append_assoc) (ap (λ l. edges ++ circle_from first (get_or members (i - 1) 0) l) (sym here) ∙ rest)

-- the last edge, and the circle of one member
pub circle-closed : (members : List ℕ) (start edges more : List (ℕ × ℕ)) (i : ℕ) → 1 < length members → length members ≤ i → i ≤ length members
    → edges ++ circle_from (get_or members 0 0) (get_or members (i - 1) 0) (drop i members) ≡ start ++ circle_from (get_or members 0 0) (get_or members 0 0) (drop 1 members)
    → more ≡ edges ++ (get_or members (length members - 1) 0, get_or members 0 0) ∷ [] → more ≡ start ++ circle members
circle-closed [] start edges more i some past within rest e = absurd (omega (arith, some))
circle-closed (x ∷ []) start edges more i some past within rest e = absurd (omega (arith, some))
circle-closed (x ∷ y ∷ xs) start edges more i some past within rest e =
    let members = x ∷ y ∷ xs in
    let at : i ≡ length members = omega (arith, past, within) in
    let over : drop i members ≡ [] = drop_all i members past in
    e ∙ (ap (λ n. edges ++ (get_or members (n - 1) 0, x) ∷ []) (sym at) ∙ (ap (λ l. edges ++ circle_from x (get_or members (i - 1) 0) l) (sym over) ∙ rest))

pub circle-alone : (members : List ℕ) (edges : List (ℕ × ℕ)) → length members ≤ 1 → edges ≡ edges ++ circle members
circle-alone [] edges few = sym (append-nil edges)
circle-alone (x ∷ []) edges few = sym (append-nil edges)
circle-alone (x ∷ y ∷ xs) edges few = absurd (omega (arith, few))

-- the end of a component with members, and of one without
pub end-node : (comps : List (List ℕ)) (c : ℕ) → c < length comps → Node (first_at comps c) ≡ end_of (length comps) (end_at comps c)
end-node comps c lt = rw (lt-ltb c (length comps) lt) refl

pub end-temp : (comps : List (List ℕ)) (c : ℕ) → length comps ≤ c → Temp c ≡ end_of (length comps) (end_at comps c)
end-temp comps c le = rw (le-ltb c (length comps) le) (ap Temp (omega (arith, le)))
