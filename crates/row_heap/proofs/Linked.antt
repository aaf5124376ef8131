-- References of each end as a linked list. A further reference stands last, and the one of its end before it is the one
-- that the end said: between them stands none of the end's. The lists of other ends go on as they were, since each
-- speaks of the places below one of its own.
use Rattle.std.proofs.Common.{◌≡◌, ◌≢◌, ℕ, zero, suc, ◌+◌, ◌-◌, ◌≤◌, ◌⊎◌, inl, inr, Bool, false, List, [], ◌∷◌, ◌++◌, map, length, replicate, take, Option, Some, None, refl, sym, ap, subst, ◌∙◌}
use Rattle.std.proofs.Common.{arith, length-append}
use Rattle.std.specs.Prelude.{Contains, slice_get, slice_index_or}
use Rattle.std.proofs.lemmas.Bool.{cases_eq, cases_lt}
use Rattle.std.proofs.lemmas.List.{get_or-replicate, get_or_past, length-map, length-replicate, map-append, take_all}
use Rattle.std.proofs.lemmas.List.Elements.{Contains-push_cases}
use Rattle.std.proofs.lemmas.Option.{slice_get_within}
use Rattle.joint_machine.specs.Components as exact
use Rattle.joint_machine.proofs.Numbered.{push-at_cases, push-at_old, push-at_new}
use Rattle.joint_machine.proofs.Members.{Contains-nil, Contains-here, Contains-there}
use Rattle.row_marking.specs.Traces.{Greyed}
use Rattle.row_heap.specs.declared.references.Reference.{Reference}
use Rattle.row_heap.specs.Ends.{AreLinked, FirstsCleared, HasPlace, IsEnd, IsLastBelow, Linked, end_of, first_in, linked_of, pairs_in}

-- two ends are the same or not
pub end-or : (a b : exact.End) → (a ≡ b) ⊎ (a ≢ b)
end-or (exact.node x) (exact.node y) = elim (cases_eq x y) [ inl e ↦ inl (ap exact.node e) | inr n ↦ inr (λ e. n (let d : x ≡ y = cc in d)) ]
end-or (exact.node x) (exact.temporary y) = inr (λ e. (let f : ⊥ = cc in f))
end-or (exact.temporary x) (exact.node y) = inr (λ e. (let f : ⊥ = cc in f))
end-or (exact.temporary x) (exact.temporary y) = elim (cases_eq x y) [ inl e ↦ inl (ap exact.temporary e) | inr n ↦ inr (λ e. n (let d : x ≡ y = cc in d)) ]

-- the pair of a reference, and the two ends of a pair
abbrev pub pair_of : Reference → exact.End × exact.End
pair_of r = (end_of r.from, end_of r.to)

pub pair-from : (a b c d : exact.End) → ◌≡◌ {A = Option (exact.End × exact.End)} (Some (a, b)) (Some (c, d)) → a ≡ c
pair-from a b c d e = ap (λ (o : Option (exact.End × exact.End)). elim o [ None ↦ a | Some p ↦ p.0 ]) e

pub pair-to : (a b c d : exact.End) → ◌≡◌ {A = Option (exact.End × exact.End)} (Some (a, b)) (Some (c, d)) → b ≡ d
pair-to a b c d e = ap (λ (o : Option (exact.End × exact.End)). elim o [ None ↦ b | Some p ↦ p.1 ]) e

pub pairs-len : (list : List Reference) → length (pairs_in list) ≡ length list
pairs-len list = length-map list pair_of

-- where an end's references begin, as it is seen
pub last-at : (list : List Reference) (objects temporaries : List ℕ) (seen : List Bool) (links : List ℕ) (room capacity places : ℕ) (v : Linked) (e : exact.End) (n : ℕ)
    → linked_of list temporaries seen links room ≡ v → AreLinked list objects temporaries seen links room capacity places → n ≡ first_in objects temporaries e
    → IsLastBelow v.refs e (length v.refs) n
last-at list objects temporaries seen links room capacity places v e n view a is =
    subst (λ (l : Linked). IsLastBelow l.refs e (length l.refs) n) view
    (subst (λ k. IsLastBelow (pairs_in list) e k n) (sym (pairs-len list)) (subst (λ k. IsLastBelow (pairs_in list) e (length list) k) (sym is) (a.firsts e)))

pub last-from : (list : List Reference) (temporaries : List ℕ) (seen : List Bool) (links : List ℕ) (room : ℕ) (v : Linked) (e : exact.End) (n : ℕ)
    → linked_of list temporaries seen links room ≡ v → IsLastBelow v.refs e (length v.refs) n → IsLastBelow (pairs_in list) e (length list) n
last-from list temporaries seen links room v e n view l = subst (λ k. IsLastBelow (pairs_in list) e k n) (pairs-len list) (subst (λ (w : Linked). IsLastBelow w.refs e (length w.refs) n) (sym view) l)

-- a further reference changes nothing below the places before it
last-longer : (refs : List (exact.End × exact.End)) (p : exact.End × exact.End) (e : exact.End) (n r : ℕ) → n ≤ length refs → IsLastBelow refs e n r → IsLastBelow (refs ++ p ∷ []) e n r
last-longer refs p e n r le l = record {
  below = l.below;
  none = λ i f from to at. l.none i f from to (sym (push-at_old refs p i (omega (arith, to, le))) ∙ at);
  there = λ one. (let w = l.there one in (w.0, push-at_old refs p (r - 1) (omega (arith, slice_get_within refs (r - 1) (e, w.0) w.1)) ∙ w.1));
}

-- nor for ends that it doesn't begin at
last-other : (refs : List (exact.End × exact.End)) (a b e : exact.End) (r : ℕ) → e ≢ a → IsLastBelow refs e (length refs) r → IsLastBelow (refs ++ (a, b) ∷ []) e (length (refs ++ (a, b) ∷ [])) r
last-other refs a b e r other l = record {
  below = omega (arith, l.below, length-append refs ((a, b) ∷ []));
  none = λ i f from to at. elim (push-at_cases refs (a, b) i (e, f) at) [
    | inl w ↦ l.none i f from (slice_get_within refs i (e, f) w) w
    | inr w ↦ other (sym (ap (λ p. p.0) w.1))
  ];
  there = λ one. (let w = l.there one in (w.0, push-at_old refs (a, b) (r - 1) (slice_get_within refs (r - 1) (e, w.0) w.1) ∙ w.1));
}

-- it is the last of its own end
last-own : (refs : List (exact.End × exact.End)) (a b : exact.End) → IsLastBelow (refs ++ (a, b) ∷ []) a (length (refs ++ (a, b) ∷ [])) (length refs + 1)
last-own refs a b = record {
  below = omega (arith, length-append refs ((a, b) ∷ []));
  none = λ i y from to at. absurd (omega (arith, from, to, length-append refs ((a, b) ∷ [])));
  there = λ one. (b, (let e : length refs + 1 - 1 ≡ length refs = omega arith in rw e (push-at_new refs (a, b))));
}

-- more places, and more temporaries, are enough for the same ends
pub place-longer : (objects temporaries more others : ℕ) (e : exact.End) → objects ≤ more → temporaries ≤ others → HasPlace objects temporaries e → HasPlace more others e
place-longer objects temporaries more others (exact.node x) a b w = omega (arith, w, a)
place-longer objects temporaries more others (exact.temporary t) a b w = omega (arith, w, b)

pub end-longer : (temps more : ℕ) (e : exact.End) → temps ≤ more → IsEnd temps e → IsEnd more e
end-longer temps more (exact.node x) a w = w
end-longer temps more (exact.temporary t) a w = omega (arith, w, a)

-- a reference is pushed
pub AreLinked-pushed : (list after : List Reference) (objects reaching temporaries others : List ℕ) (seen : List Bool) (links : List ℕ) (room capacity more places spaces : ℕ) (r : Reference)
    → AreLinked list objects temporaries seen links room capacity places → 1 ≤ room
    → HasPlace (length objects) (length temporaries) (end_of r.from) → IsEnd (length temporaries) (end_of r.to)
    → IsLastBelow (pairs_in list) (end_of r.from) (length list) r.next → after ≡ list ++ r ∷ [] → (length reaching ≡ length objects) × (length others ≡ length temporaries)
    → first_in reaching others (end_of r.from) ≡ length list + 1 → ((e : exact.End) → e ≢ end_of r.from → first_in reaching others e ≡ first_in objects temporaries e)
    → more ≡ capacity → spaces ≡ places → AreLinked after reaching others seen links (room - 1) more spaces
AreLinked-pushed list after objects reaching temporaries others seen links room capacity more places spaces r a one from to next is len here rest cap same =
    let p : exact.End × exact.End = (end_of r.from, end_of r.to) in
    let count : length (pairs_in list) ≡ length list = pairs-len list in
    let pairs : pairs_in (list ++ r ∷ []) ≡ pairs_in list ++ p ∷ [] = map-append pair_of list (r ∷ []) in
    let longer : length (pairs_in list ++ p ∷ []) ≡ length (list ++ r ∷ []) = ap length (sym pairs) ∙ pairs-len (list ++ r ∷ []) in
    let whole : length (list ++ r ∷ []) ≡ length list + 1 = length-append list (r ∷ []) in
    subst (λ l. AreLinked l reaching others seen links (room - 1) more spaces) (sym is) record {
      firsts = λ e. subst (λ (l : List (exact.End × exact.End)). IsLastBelow l e (length (list ++ r ∷ [])) (first_in reaching others e)) (sym pairs)
          (subst (λ n. IsLastBelow (pairs_in list ++ p ∷ []) e n (first_in reaching others e)) longer (elim (end-or e (end_of r.from)) [
            | inl same ↦ subst (λ z. IsLastBelow (pairs_in list ++ p ∷ []) z (length (pairs_in list ++ p ∷ [])) (first_in reaching others z)) (sym same)
                (subst (λ n. IsLastBelow (pairs_in list ++ p ∷ []) (end_of r.from) (length (pairs_in list ++ p ∷ [])) n)
                (ap (λ n. n + 1) count ∙ sym here) (last-own (pairs_in list) (end_of r.from) (end_of r.to)))
            | inr other ↦ subst (λ n. IsLastBelow (pairs_in list ++ p ∷ []) e (length (pairs_in list ++ p ∷ [])) n) (sym (rest e other))
                (last-other (pairs_in list) (end_of r.from) (end_of r.to) e (first_in objects temporaries e) other
                (subst (λ n. IsLastBelow (pairs_in list) e n (first_in objects temporaries e)) (sym count) (a.firsts e)))
          ]));
      nexts = λ i q at. subst (λ (l : List (exact.End × exact.End)). IsLastBelow l (end_of q.from) i q.next) (sym pairs) (elim (push-at_cases list r i q at) [
        | inl old ↦ last-longer (pairs_in list) p (end_of q.from) i q.next (omega (arith, slice_get_within list i q old, count)) (a.nexts i q old)
        | inr new ↦ last-longer (pairs_in list) p (end_of q.from) i q.next (omega (arith, new.0, count))
            (subst (λ k. IsLastBelow (pairs_in list) (end_of q.from) k q.next) (sym new.0) (subst (λ (k : Reference). IsLastBelow (pairs_in list) (end_of k.from) (length list) k.next) new.1 next))
      ]);
      from = λ i q at. place-longer (length objects) (length temporaries) (length reaching) (length others)
          (end_of q.from) (omega (arith, len.0)) (omega (arith, len.1)) (elim (push-at_cases list r i q at) [
            | inl old ↦ a.from i q old
            | inr new ↦ subst (λ (k : Reference). HasPlace (length objects) (length temporaries) (end_of k.from)) new.1 from
          ]);
      to = λ i q at. end-longer (length temporaries) (length others) (end_of q.to) (omega (arith, len.1)) (elim (push-at_cases list r i q at) [
        | inl old ↦ a.to i q old
        | inr new ↦ subst (λ (k : Reference). IsEnd (length temporaries) (end_of k.to)) new.1 to
      ]);
      flags = a.flags ∙ sym len.1;
      chains = a.chains ∙ sym len.1;
      few = omega (arith, a.few, len.1);
      reach = λ w. omega (arith, a.reach one, same);
      space = omega (arith, a.space, one, whole, cap);
      most = omega (arith, a.most, one, whole);
    }

pub seen-pushed : (list after : List Reference) (temporaries others : List ℕ) (seen : List Bool) (links : List ℕ) (room : ℕ) (r : Reference) (v : Linked)
    → linked_of list temporaries seen links room ≡ v → after ≡ list ++ r ∷ [] → length others ≡ length temporaries
    → linked_of after others seen links (room - 1) ≡ record v { refs = v.refs ++ (end_of r.from, end_of r.to) ∷ []; room = v.room - 1 }
seen-pushed list after temporaries others seen links room r v view is len =
    let pairs : pairs_in after ≡ pairs_in list ++ pair_of r ∷ [] = ap pairs_in is ∙ map-append pair_of list (r ∷ []) in
    ap (λ (l : List (exact.End × exact.End)). let w : Linked = record { refs = l; temps = length others; room = room - 1; seen = false ∷ seen; links = 0 ∷ links } in w) pairs
    ∙ (ap (λ n. let w : Linked = record { refs = pairs_in list ++ pair_of r ∷ []; temps = n; room = room - 1; seen = false ∷ seen; links = 0 ∷ links } in w) len
    ∙ ap (λ (w : Linked). record w { refs = w.refs ++ pair_of r ∷ []; room = w.room - 1 }) view)

-- no reference
pub AreLinked-none : (list : List Reference) (objects temporaries : List ℕ) (seen : List Bool) (links : List ℕ) (capacity places : ℕ)
    → list ≡ [] → objects ≡ [] → temporaries ≡ [] → seen ≡ [] → links ≡ [] → AreLinked list objects temporaries seen links 0 capacity places
AreLinked-none list objects temporaries seen links capacity places l o t s k = rw (l, o, t, s, k) record {
  firsts = λ e. record { below = none e; none = λ i f from to at. absurd (omega (arith, to)); there = λ one. absurd (omega (arith, one, none e)) };
  nexts = λ i r at. (let f : ⊥ = cc in absurd f);
  from = λ i r at. (let f : ⊥ = cc in absurd f);
  to = λ i r at. (let f : ⊥ = cc in absurd f);
  flags = refl;
  chains = refl;
  few = omega arith;
  reach = λ one. absurd (omega (arith, one));
  space = omega arith;
  most = omega arith;
}
  where
    none : (e : exact.End) → first_in [] [] e ≤ 0
    none (exact.node x) = omega arith
    none (exact.temporary t) = omega arith

-- places that are filled up with 0 say what they said
pub firsts-filled : (old new : List ℕ) (n m : ℕ) → length old ≤ n → new ≡ take n old ++ replicate m 0 → (x : ℕ) → ◌≡◌ {A = ℕ} (slice_index_or new x 0) (slice_index_or old x 0)
firsts-filled old new n m le is x = rw (is, take_all) (by old x)
  where
    bare : (k x : ℕ) → ◌≡◌ {A = ℕ} (slice_index_or (replicate k 0) x 0) 0
    bare k x = elim (cases_lt x k) [ inl w ↦ get_or-replicate k x 0 0 w | inr w ↦ get_or_past (replicate k 0) x 0 (omega (arith, w, length-replicate {A = ℕ} k 0)) ]

    by : (l : List ℕ) (x : ℕ) → ◌≡◌ {A = ℕ} (slice_index_or (l ++ replicate m 0) x 0) (slice_index_or l x 0)
    by [] zero = bare m zero
    by [] (suc x) = bare m (suc x)
    by (y ∷ l) zero = refl
    by (y ∷ l) (suc x) = by l x

-- more room, for references and temporaries
pub AreLinked-roomy : (list after : List Reference) (objects reaching temporaries others : List ℕ) (seen flags : List Bool) (links chains : List ℕ) (room more capacity space places spaces : ℕ)
    → AreLinked list objects temporaries seen links room capacity places → after ≡ list
    → ((x : ℕ) → slice_index_or reaching x 0 ≡ slice_index_or objects x 0) → length objects ≤ length reaching
    → ((t : ℕ) → slice_index_or others t 0 ≡ slice_index_or temporaries t 0) → length temporaries ≤ length others
    → length flags ≡ length others → length chains ≡ length others → length others ≤ 4294901760 → (1 ≤ more → 65536 ≤ spaces)
    → length list + more ≤ space → length list + more ≤ 4294967295 → AreLinked after reaching others flags chains more space spaces
AreLinked-roomy list after objects reaching temporaries others seen flags links chains room more capacity space places spaces a is reached longer
    kept more_temps fs cs few reach fits most = subst (λ l. AreLinked l reaching others flags chains more space spaces) (sym is) record {
      firsts = λ e. subst (λ n. IsLastBelow (pairs_in list) e (length list) n) (sym (same e)) (a.firsts e);
      nexts = a.nexts;
      from = λ i r at. place-longer (length objects) (length temporaries) (length reaching) (length others) (end_of r.from) longer more_temps (a.from i r at);
      to = λ i r at. end-longer (length temporaries) (length others) (end_of r.to) more_temps (a.to i r at);
      flags = fs;
      chains = cs;
      few = few;
      reach = reach;
      space = fits;
      most = most;
    }
  where
    same : (e : exact.End) → first_in reaching others e ≡ first_in objects temporaries e
    same (exact.node x) = reached x
    same (exact.temporary t) = kept t

-- no end was cleared
pub FirstsCleared-none : (old : exact.End → ℕ) → FirstsCleared [] old old
FirstsCleared-none old = record { cleared = λ e c. absurd (Contains-nil e c); others = λ e. inr refl }

-- one more is
pub FirstsCleared-next : (ends : List exact.End) (e : exact.End) (old mid new : exact.End → ℕ) → FirstsCleared ends old mid
    → new e ≡ 0 → ((f : exact.End) → f ≢ e → new f ≡ mid f) → FirstsCleared (ends ++ e ∷ []) old new
FirstsCleared-next ends e old mid new c here rest = record {
  cleared = λ f h. elim (end-or f e) [
    | inl same ↦ ap new same ∙ here
    | inr other ↦ elim (Contains-push_cases ends e f h) [ inl w ↦ rest f other ∙ c.cleared f w | inr w ↦ absurd (other (sym w)) ]
  ];
  others = λ f. elim (end-or f e) [
    | inl same ↦ inl (ap new same ∙ here)
    | inr other ↦ elim (c.others f) [ inl z ↦ inl (rest f other ∙ z) | inr z ↦ inr (rest f other ∙ z) ]
  ];
}

-- the end that a reference leads from
from-Contains : (list : List Reference) (i : ℕ) (e f : exact.End) → slice_get (pairs_in list) i ≡ Some (e, f) → Contains (map (λ (r : Reference). end_of r.from) list) e
from-Contains [] i e f at = (let z : ⊥ = cc in absurd z)
from-Contains (r ∷ list) zero e f at = subst (Contains (end_of r.from ∷ map (λ (q : Reference). end_of q.from) list))
    (pair-from (end_of r.from) (end_of r.to) e f at) (Contains-here (end_of r.from) (map (λ (q : Reference). end_of q.from) list))
from-Contains (r ∷ list) (suc i) e f at = Contains-there e (end_of r.from) (map (λ (q : Reference). end_of q.from) list) (from-Contains list i e f at)

-- the references are gone, and no end has one
pub AreLinked-cleared : (list after : List Reference) (objects reaching temporaries others : List ℕ) (seen : List Bool) (links : List ℕ) (room capacity more places spaces : ℕ)
    → AreLinked list objects temporaries seen links room capacity places → after ≡ [] → (length reaching ≡ length objects) × (length others ≡ length temporaries)
    → FirstsCleared (map (λ (r : Reference). end_of r.from) list) (first_in objects temporaries) (first_in reaching others) → more ≡ capacity → spaces ≡ places
    → AreLinked after reaching others seen links room more spaces
AreLinked-cleared list after objects reaching temporaries others seen links room capacity more places spaces a is len c cap same =
    subst (λ l. AreLinked l reaching others seen links room more spaces) (sym is) record {
      firsts = λ e. record { below = omega (arith, none e); none = λ i f from to at. absurd (omega (arith, to)); there = λ one. absurd (omega (arith, one, none e)) };
      nexts = λ i r at. (let f : ⊥ = cc in absurd f);
      from = λ i r at. (let f : ⊥ = cc in absurd f);
      to = λ i r at. (let f : ⊥ = cc in absurd f);
      flags = a.flags ∙ sym len.1;
      chains = a.chains ∙ sym len.1;
      few = omega (arith, a.few, len.1);
      reach = λ w. omega (arith, a.reach w, same);
      space = omega (arith, a.space, cap);
      most = omega (arith, a.most);
    }
  where
    none : (e : exact.End) → first_in reaching others e ≡ 0
    none e = elim (c.others e) [
      | inl z ↦ z
      | inr same ↦ elim (cases_lt 0 (first_in objects temporaries e)) [
        | inr bare ↦ same ∙ omega (arith, bare)
        | inl some ↦ (let w = (a.firsts e).there (omega (arith, some)) in c.cleared e (from-Contains list (first_in objects temporaries e - 1) e w.0 w.1))
      ]
    ]

-- a step of a marking, over equal lists
pub Greyed-same : (row : ℕ → Type 0) (a c : List Bool) (k n : List ℕ) (h : ℕ) (b d : List Bool) (l o : List ℕ) (i : ℕ) → a ≡ c → k ≡ n → b ≡ d → l ≡ o → Greyed row a k h b l i → Greyed row c n h d o i
Greyed-same row a c k n h b d l o i e f g j y =
    subst (λ z. Greyed row z n h d o i) e (subst (λ z. Greyed row a z h d o i) f (subst (λ z. Greyed row a k h z o i) g (subst (λ z. Greyed row a k h b z i) j y)))
