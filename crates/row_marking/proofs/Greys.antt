-- Steps of a marking whose grey rows are a list through the rows. A step is a function of the list of grey rows before
-- it: whichever rows the links chained from the old head, all of them marked, other rows are chained from the new head,
-- and between the two lists stands what a step of any marking does (`Scans`). So steps compose as functions do, and a
-- step has nothing to ask for.
--
-- To put a row first writes its link. It wasn't marked, and each row of the list is, so it isn't in the list and no
-- link of the list changes. A loop that takes the first grey row and visits what that leads to keeps `Greying`: what is
-- marked was marked before or is reached, and a marked row is grey or all that it leads to is marked. Once the list is
-- empty the marks are closed, so each reached row is marked. A turn takes one row from the list, and what joins it
-- wasn't marked: twice the unmarked rows, with the grey ones, become fewer.
use Rattle.std.proofs.Common.{◌≡◌, ℕ, zero, suc, ◌+◌, ◌*◌, ◌<◌, ◌≤◌, ◌⊎◌, ◌↔◌, inl, inr, Bool, true, false, List, [], ◌∷◌, ◌++◌, length, Option, Some, None, set, refl, sym, ap, subst, ◌∙◌, arith}
use Rattle.std.specs.Prelude.{Contains, slice_get}
use Rattle.std.proofs.Math.ListN.{length-set}
use Rattle.std.proofs.lemmas.Option.{slice_get_within}
use Rattle.std.proofs.lemmas.List.Elements.{Contains-push, Contains-push_cases, Contains-append_left}
use Rattle.joint_machine.specs.Walks.{Reached}
use Rattle.joint_machine.proofs.WalkLemmas.{Reached-keeps, Reached-start, Reached-then}
use Rattle.joint_machine.proofs.Numbered.{set-at_here, set-at_other}
use Rattle.joint_machine.proofs.Members.{Contains-nil, Contains-here, Contains-there, Contains-cons_cases}
use Rattle.reachability.specs.Marks.{HasMark, IsClosed, unmarked}
use Rattle.reachability.specs.Scans.{Scans}
use Rattle.reachability.proofs.Marking.{Scans-none, Scans-then, unmarked-set, set-marked, set-keeps, set-fresh, unmarked-le}
use Rattle.row_marking.specs.Traces.{Blackens, BlackensTo, IsGreyList, GreyChain, Chained, Greyed, Greying, greys}

-- a link outside a chain may change
pub GreyChain-other : (l : List ℕ) (i n : ℕ) (h : ℕ) (xs : List ℕ) → (Contains xs i → ⊥) → GreyChain l h xs → GreyChain (set l i n) h xs
GreyChain-other l i n h [] out c = c
GreyChain-other l i n h (x ∷ xs) out (e, one, (next, at, rest)) = (
  e,
  one,
  (
    next,
    set-at_other l i x n (λ e'. out (subst (λ z. Contains (x ∷ xs) z) e' (Contains-here x xs))) ∙ at,
    GreyChain-other l i n next xs (λ h'. out (Contains-there i x xs h')) rest,
  ),
)

-- a row that wasn't marked comes first
pub Scans-first : (y : ℕ) (m : List Bool) (s : List ℕ) → slice_get m y ≡ Some false → y < length m → Scans (λ z. z ≡ y) m s (set m y true) (y ∷ s)
Scans-first y m s new l = record {
  len = length-set m y true;
  kept = λ k h. set-keeps m y k h;
  done = λ k r. subst (HasMark (set m y true)) (sym r) (set-marked m y l);
  fresh = λ k h. elim (set-fresh m y k h) [ inl w ↦ inl w | inr w ↦ inr (w, subst (Contains (y ∷ s)) (sym w) (Contains-here y s)) ];
  stays = λ k h. Contains-there k y s h;
  within = λ k h. elim (Contains-cons_cases y s k h) [ inl w ↦ inr (subst (HasMark (set m y true)) w (set-marked m y l)) | inr w ↦ inl w ];
  fewer = omega (arith, unmarked-set m y new);
  same = omega (arith, unmarked-set m y new);
}

pub Greyed-none : (row : ℕ → Type 0) (m : List Bool) (l : List ℕ) (h : ℕ) → ((k : ℕ) → row k → ⊥) → Greyed row m l h m l h
Greyed-none row m l h none waited c = record { waits = waited; chained = c; scans = Scans-none row m waited none; anew = λ k w. inl w }

pub Greyed-new : (y : ℕ) (m : List Bool) (l : List ℕ) (h : ℕ) → slice_get m y ≡ Some false → 1 ≤ y → y < length l → Greyed (λ z. z ≡ y) m l h (set m y true) (set l y h) y
Greyed-new y m l h new one fits waited c =
    let out : Contains waited y → ⊥ = λ w. (let e : Some true ≡ Some false = sym (c.marked y w) ∙ new in cc) in
    record {
      waits = y ∷ waited;
      chained = record {
        chain = (refl, one, (h, set-at_here l y h fits, GreyChain-other l y h h waited out c.chain));
        marked = λ k w. elim (Contains-cons_cases y waited k w) [
          | inl e ↦ subst (HasMark (set m y true)) e (set-marked m y (slice_get_within m y false new))
          | inr d ↦ set-keeps m y k (c.marked k d)
        ];
      };
      scans = Scans-first y m waited new (slice_get_within m y false new);
      anew = λ k w. elim (Contains-cons_cases y waited k w) [
        | inl e ↦ inr (λ (u : HasMark m k). (let q : Some false ≡ Some true = sym new ∙ subst (HasMark m) (sym e) u in cc), sym e)
        | inr d ↦ inl d
      ];
    }

pub Greyed-then : (p q row : ℕ → Type 0) (a : List Bool) (k : List ℕ) (h : ℕ) (b : List Bool) (l : List ℕ) (i : ℕ) (c : List Bool) (n : List ℕ) (j : ℕ)
    → ((x : ℕ) → row x → p x ⊎ q x) → ((x : ℕ) → p x → row x) → ((x : ℕ) → q x → row x) → Greyed p a k h b l i → Greyed q b l i c n j → Greyed row a k h c n j
Greyed-then p q row a k h b l i c n j split left right x y waited w =
    let one = x waited w in
    let two = y one.waits one.chained in
    record {
      waits = two.waits;
      chained = two.chained;
      scans = Scans-then p q row a waited b one.waits c two.waits split left right one.scans two.scans;
      anew = λ z v. elim (two.anew z v) [
        | inl u ↦ elim (one.anew z u) [ inl t ↦ inl t | inr t ↦ inr (t.0, left z t.1) ]
        | inr u ↦ inr (λ t. u.0 (one.scans.kept z t), right z u.1)
      ];
    }

pub Greyed-as : (p row : ℕ → Type 0) (a : List Bool) (k : List ℕ) (h : ℕ) (b : List Bool) (l : List ℕ) (i : ℕ)
    → ((x : ℕ) → row x → p x) → ((x : ℕ) → p x → row x) → Greyed p a k h b l i → Greyed row a k h b l i
Greyed-as p row a k h b l i there back x = Greyed-then p (λ z. ⊥) row a k h b l i b l i (λ z r. inl (there z r)) back (λ z r. absurd r) x (Greyed-none (λ z. ⊥) b l i (λ z r. r))

-- a further place of a row's fields
pub Greyed-push_some : (xs : List (Option ℕ)) (y : ℕ) (a : List Bool) (k : List ℕ) (h : ℕ) (b : List Bool) (l : List ℕ) (i : ℕ) (c : List Bool) (n : List ℕ) (j : ℕ)
    → Greyed (λ z. Contains xs (Some z)) a k h b l i → Greyed (λ z. z ≡ y) b l i c n j → Greyed (λ z. Contains (xs ++ Some y ∷ []) (Some z)) a k h c n j
Greyed-push_some xs y a k h b l i c n j v w = Greyed-then (λ z. Contains xs (Some z)) (λ z. z ≡ y) (λ z. Contains (xs ++ Some y ∷ []) (Some z)) a k h b l i c n j
    (λ z r. elim (Contains-push_cases xs (Some y) (Some z) r) [ inl g ↦ inl g | inr g ↦ inr (let e : z ≡ y = cc in e) ])
    (λ z g. Contains-append_left xs (Some y ∷ []) (Some z) g)
    (λ z g. subst (λ t. Contains (xs ++ Some y ∷ []) (Some t)) (sym g) (Contains-push xs (Some y))) v w

pub Greyed-push_none : (xs : List (Option ℕ)) (a : List Bool) (k : List ℕ) (h : ℕ) (b : List Bool) (l : List ℕ) (i : ℕ)
    → Greyed (λ z. Contains xs (Some z)) a k h b l i → Greyed (λ z. Contains (xs ++ None ∷ []) (Some z)) a k h b l i
Greyed-push_none xs a k h b l i v = Greyed-as (λ z. Contains xs (Some z)) (λ z. Contains (xs ++ None ∷ []) (Some z)) a k h b l i
    (λ z r. elim (Contains-push_cases xs None (Some z) r) [ inl g ↦ g | inr g ↦ (let e : ⊥ = cc in absurd e) ])
    (λ z g. Contains-append_left xs (None ∷ []) (Some z) g) v

-- a chain has just one list of rows, which the links give
pub greys-of : (l : List ℕ) (n h : ℕ) (xs : List ℕ) → GreyChain l h xs → length xs ≤ n → greys l n h ≡ xs
greys-of l zero h [] c le = refl
greys-of l zero h (x ∷ xs) c le = absurd (omega arith)
greys-of l (suc n) zero [] c le = refl
greys-of l (suc n) zero (x ∷ xs) (e, one, rest) le = absurd (omega (arith, e, one))
greys-of l (suc n) (suc h) [] c le = absurd (omega (arith, c))
greys-of l (suc n) (suc h) (x ∷ xs) (e, one, (next, at, rest)) le =
    let e' : slice_get l (suc h) ≡ Some next = ap (slice_get l) e ∙ at in
    rw e' (ap (λ z. suc h ∷ z) (greys-of l n next xs rest (omega arith)) ∙ ap (λ z. z ∷ xs) e)

pub GreyChain-one : (l : List ℕ) (h : ℕ) (xs ys : List ℕ) → GreyChain l h xs → GreyChain l h ys → xs ≡ ys
GreyChain-one l h xs ys c d = sym (greys-of l (length xs + length ys) h xs c (omega arith)) ∙ greys-of l (length xs + length ys) h ys d (omega arith)

-- the marking goes on: the first grey row is taken and what it leads to is marked
pub Greying-goes : (roots : List ℕ) (edge : ℕ → ℕ → Type 0) (before m : List Bool) (l : List ℕ) (x next : ℕ) (m' : List Bool) (l' : List ℕ) (h' : ℕ)
    → 1 ≤ x → slice_get l x ≡ Some next → Greying roots edge before m l x → Greyed (edge x) m l next m' l' h' → Greying roots edge before m' l' h'
Greying-goes roots edge before m l x next m' l' h' one at i y = Greying-goes_by i.waits i.chained.chain refl
  where
    Greying-goes_by : (waits : List ℕ) → GreyChain l x waits → i.waits ≡ waits → Greying roots edge before m' l' h'
    Greying-goes_by [] c e = absurd (omega (arith, c, one))
    Greying-goes_by (z ∷ rest) (ez, oz, (n, atz, tail)) e =
        let same : n ≡ next = (let q : Some n ≡ Some next = sym atz ∙ (ap (slice_get l) (sym ez) ∙ at) in cc) in
        let inside : (k : ℕ) → Contains rest k → Contains i.waits k = λ k w. subst (λ t. Contains t k) (sym e) (Contains-there k z rest w) in
        let there : Chained m l next rest = record { chain = subst (λ t. GreyChain l t rest) same tail; marked = λ k w. i.chained.marked k (inside k w) } in
        let g = y rest there in
        let here : HasMark m x = i.chained.marked x (subst (λ t. Contains t x) (sym e) (subst (λ t. Contains (z ∷ rest) t) (sym ez) (Contains-here z rest))) in
        record {
          waits = g.waits;
          chained = g.chained;
          shut = i.shut;
          len = g.scans.len ∙ i.len;
          sound = λ k h. elim (g.scans.fresh k h) [
            | inl w ↦ i.sound k w
            | inr w ↦ elim (i.sound x here) [ inl v ↦ inl (i.shut x k w.0 v) | inr v ↦ inr (Reached-then (Contains roots) edge x k v w.0) ]
          ];
          kept = λ k h. g.scans.kept k (i.kept k h);
          roots_marked = λ k h. g.scans.kept k (i.roots_marked k h);
          closed = λ k h. elim (g.scans.fresh k h) [
            | inl w ↦ elim (i.closed k w) [
              | inl v ↦ elim (Contains-cons_cases z rest k (subst (λ t. Contains t k) e v)) [
                | inl u ↦ inr (λ t d. g.scans.done t (subst (λ s. edge s t) (sym u ∙ sym ez) d))
                | inr u ↦ inl (g.scans.stays k u)
              ]
              | inr v ↦ inr (λ t d. g.scans.kept t (v t d))
            ]
            | inr w ↦ inl w.1
          ];
          room = (let len : length i.waits ≡ suc (length rest) = ap length e in omega (arith, g.scans.same, i.room, len));
        }

-- once no row is grey, exactly what was marked before or is reached is marked
pub Greying-closes : (roots : List ℕ) (edge : ℕ → ℕ → Type 0) (before m : List Bool) (l : List ℕ) → Greying roots edge before m l 0 → IsClosed edge m
Greying-closes roots edge before m l i x y d h =
    let none : i.waits ≡ [] = GreyChain-one l 0 i.waits [] i.chained.chain refl in
    elim (i.closed x h) [ inl w ↦ absurd (Contains-nil x (subst (λ t. Contains t x) none w)) | inr w ↦ w y d ]

pub Greying-ends : (roots : List ℕ) (edge : ℕ → ℕ → Type 0) (before m : List Bool) (l : List ℕ)
    → Greying roots edge before m l 0 → (k : ℕ) → HasMark m k ↔ (HasMark before k ⊎ Reached (Contains roots) edge k)
Greying-ends roots edge before m l i k =
    (i.sound k, λ h. elim h [ inl w ↦ i.kept k w | inr w ↦ Reached-keeps (Contains roots) edge (HasMark m) i.roots_marked (Greying-closes roots edge before m l i) k w ])

-- the first grey row is marked
pub Greying-head : (roots : List ℕ) (edge : ℕ → ℕ → Type 0) (before m : List Bool) (l : List ℕ) (x : ℕ) → 1 ≤ x → Greying roots edge before m l x → HasMark m x
Greying-head roots edge before m l x one i = Greying-head_by i.waits i.chained.chain i.chained.marked
  where
    Greying-head_by : (waits : List ℕ) → GreyChain l x waits → ((k : ℕ) → Contains waits k → HasMark m k) → HasMark m x
    Greying-head_by [] c marked = absurd (omega (arith, c, one))
    Greying-head_by (z ∷ rest) c marked = subst (HasMark m) (sym c.0) (marked z (Contains-here z rest))

-- the first of a list of grey rows was marked
pub grey-head : (m : List Bool) (l : List ℕ) (x : ℕ) → 1 ≤ x → IsGreyList m l x → HasMark m x
grey-head m l x one i = by i.0 i.1.chain i.1.marked
  where
    by : (waits : List ℕ) → GreyChain l x waits → ((k : ℕ) → Contains waits k → HasMark m k) → HasMark m x
    by [] c marked = absurd (omega (arith, c, one))
    by (z ∷ rest) c marked = subst (HasMark m) (sym c.0) (marked z (Contains-here z rest))

-- the rest of a list of grey rows
rest-chained : (m : List Bool) (l : List ℕ) (x next : ℕ) → 1 ≤ x → slice_get l x ≡ Some next → (waits : List ℕ) → GreyChain l x waits
    → ((k : ℕ) → Contains waits k → HasMark m k) → (z : ℕ) × (rest : List ℕ) × (waits ≡ z ∷ rest) × (x ≡ z) × Chained m l next rest
rest-chained m l x next one at [] c marked = absurd (omega (arith, c, one))
rest-chained m l x next one at (z ∷ rest) (ez, oz, (n, atz, tail)) marked =
    let same : n ≡ next = (let q : Some n ≡ Some next = sym atz ∙ (ap (slice_get l) (sym ez) ∙ at) in cc) in
    (z, rest, refl, ez, record { chain = subst (λ t. GreyChain l t rest) same tail; marked = λ k w. marked k (Contains-there k z rest w) })

pub grey-goes : (row : ℕ → Type 0) (m : List Bool) (l : List ℕ) (x next : ℕ) (m' : List Bool) (l' : List ℕ) (h' : ℕ)
    → 1 ≤ x → slice_get l x ≡ Some next → IsGreyList m l x → Greyed row m l next m' l' h' → IsGreyList m' l' h'
grey-goes row m l x next m' l' h' one at i y = let r = rest-chained m l x next one at i.0 i.1.chain i.1.marked in let g = y r.1 r.4 in (g.waits, g.chained)

-- a row stands in a list of grey rows once
chain-from : (l : List ℕ) (h k : ℕ) (xs : List ℕ) → GreyChain l h xs → Contains xs k → (ys : List ℕ) × GreyChain l k ys × (length ys ≤ length xs)
chain-from l h k [] c w = absurd (Contains-nil k w)
chain-from l h k (x ∷ xs) (e, one, (next, at, rest)) w = elim (Contains-cons_cases x xs k w) [
  | inl s ↦ (x ∷ xs, (sym s, one, (next, at, rest)), omega arith)
  | inr v ↦ let r = chain-from l next k xs rest v in (r.0, r.1, omega (arith, r.2))
]

chain-once : (l : List ℕ) (x next : ℕ) (rest : List ℕ) → 1 ≤ x → slice_get l x ≡ Some next → GreyChain l next rest → Contains rest x → ⊥
chain-once l x next rest one at c w =
    let r = chain-from l next x rest c w in
    let same : r.0 ≡ x ∷ rest = GreyChain-one l x r.0 (x ∷ rest) r.1 (refl, one, (next, at, c)) in
    let long : length r.0 ≡ length rest + 1 = ap length same ∙ (let e : suc (length rest) ≡ length rest + 1 = omega arith in e) in
    omega (arith, long, r.2)

-- one grey row more was scanned
pub blackens-goes : (edge : ℕ → ℕ → Type 0) (n : ℕ) (m0 : List Bool) (g0 : List ℕ) (m : List Bool) (l : List ℕ) (x next : ℕ) (m' : List Bool) (l' : List ℕ) (h' : ℕ)
    → 1 ≤ x → slice_get l x ≡ Some next → BlackensTo edge n m0 g0 m l x → Greyed (edge x) m l next m' l' h' → BlackensTo edge (n + 1) m0 g0 m' l' h'
blackens-goes edge n m0 g0 m l x next m' l' h' one at i y =
    let r = rest-chained m l x next one at i.waits i.chained.chain i.chained.marked in
    let g = y r.1 r.4 in
    let more : suc n ≡ n + 1 = omega arith in
    record {
      waits = g.waits;
      chained = g.chained;
      steps = subst (λ k. Blackens edge k m0 g0 m' g.waits) more (
        m,
        x,
        r.1,
        subst (Blackens edge n m0 g0 m) (r.2 ∙ ap (λ z. z ∷ r.1) (sym r.3)) i.steps,
        record { grey = grey-head m l x one (i.waits, i.chained); once = chain-once l x next r.1 one at r.4.chain; scans = g.scans; anew = g.anew },
      );
    }

-- the unmarked rows and the grey ones are one fewer with each
pub blackens-count : (edge : ℕ → ℕ → Type 0) (n : ℕ) (m m' : List Bool) (g g' : List ℕ) → Blackens edge n m g m' g' → n + (unmarked m' + length g') ≡ unmarked m + length g
blackens-count edge zero m m' g g' (a, b) = omega (arith, ap unmarked a, ap length b)
blackens-count edge (suc n) m m' g g' (mid, x, rest, before, step) =
    let one : n + (unmarked mid + suc (length rest)) ≡ unmarked m + length g = blackens-count edge n m mid g (x ∷ rest) before in
    omega (arith, one, step.scans.same)

-- a mark is taken down
unmarked-down : (m : List Bool) (i : ℕ) → HasMark m i → unmarked (set m i false) ≡ unmarked m + 1
unmarked-down [] i e = cc
unmarked-down (true ∷ m) zero e = refl
unmarked-down (false ∷ m) zero e = cc
unmarked-down (true ∷ m) (suc i) e = unmarked-down m i e
unmarked-down (false ∷ m) (suc i) e = omega (arith, unmarked-down m i e)

-- grey rows have marks, each its own, so there are no more of them
pub greys-short : (m : List Bool) (l : List ℕ) (h : ℕ) (xs : List ℕ) → GreyChain l h xs → ((k : ℕ) → Contains xs k → HasMark m k) → unmarked m + length xs ≤ length m
greys-short m l h [] c marked = omega (arith, unmarked-le m)
greys-short m l h (x ∷ rest) (e, one, (next, at, tail)) marked =
    let out : Contains rest x → ⊥ = chain-once l x next rest one at tail in
    let down : (k : ℕ) → Contains rest k → HasMark (set m x false) k = λ k w. set-at_other m x k false (λ q. out (subst (Contains rest) q w)) ∙ marked k (Contains-there k x rest w) in
    omega (arith, greys-short (set m x false) l next rest tail down, unmarked-down m x (marked x (Contains-here x rest)), length-set m x false)

-- each turn makes the measure smaller
pub Greying-smaller : (roots : List ℕ) (edge : ℕ → ℕ → Type 0) (before m : List Bool) (l : List ℕ) (x next : ℕ) (m' : List Bool) (l' : List ℕ) (h' : ℕ)
    → 1 ≤ x → slice_get l x ≡ Some next → Greying roots edge before m l x → Greyed (edge x) m l next m' l' h'
    → 2 * unmarked m' + length (greys l' (length m') h') < 2 * unmarked m + length (greys l (length m) x)
Greying-smaller roots edge before m l x next m' l' h' one at i y = Greying-smaller_by i.waits i.chained.chain i.chained.marked i.room
  where
    Greying-smaller_by : (waits : List ℕ) → GreyChain l x waits → ((k : ℕ) → Contains waits k → HasMark m k) → unmarked m + length waits ≤ unmarked before
        → 2 * unmarked m' + length (greys l' (length m') h') < 2 * unmarked m + length (greys l (length m) x)
    Greying-smaller_by [] c marked room = absurd (omega (arith, c, one))
    Greying-smaller_by (z ∷ rest) (ez, oz, (n, atz, tail)) marked room =
        let same : n ≡ next = (let q : Some n ≡ Some next = sym atz ∙ (ap (slice_get l) (sym ez) ∙ at) in cc) in
        let there : Chained m l next rest = record { chain = subst (λ t. GreyChain l t rest) same tail; marked = λ k w. marked k (Contains-there k z rest w) } in
        let g = y rest there in
        let old : greys l (length m) x ≡ z ∷ rest = greys-of l (length m) x (z ∷ rest) (ez, oz, (n, atz, tail)) (omega (arith, room, unmarked-le before, i.len)) in
        let new : greys l' (length m') h' ≡ g.waits = greys-of l' (length m') h' g.waits g.chained.chain (omega (arith, g.scans.same, g.scans.len, room, unmarked-le before, i.len)) in
        rw (old, new) (omega (arith, g.scans.same, g.scans.fewer))

-- a list's nodes and one more node
pub Greyed-push : (xs : List ℕ) (y : ℕ) (a : List Bool) (k : List ℕ) (h : ℕ) (b : List Bool) (l : List ℕ) (i : ℕ) (c : List Bool) (n : List ℕ) (j : ℕ)
    → Greyed (Contains xs) a k h b l i → Greyed (λ z. z ≡ y) b l i c n j → Greyed (Contains (xs ++ y ∷ [])) a k h c n j
Greyed-push xs y a k h b l i c n j v w = Greyed-then (Contains xs) (λ z. z ≡ y) (Contains (xs ++ y ∷ [])) a k h b l i c n j
    (λ z r. elim (Contains-push_cases xs y z r) [ inl g ↦ inl g | inr g ↦ inr (sym g) ])
    (λ z g. Contains-append_left xs (y ∷ []) z g)
    (λ z g. subst (Contains (xs ++ y ∷ [])) (sym g) (Contains-push xs y)) v w

-- once the roots are marked, the marking is on its way
pub Greying-begins : (roots : List ℕ) (edge : ℕ → ℕ → Type 0) (before : List Bool) (l : List ℕ) (m : List Bool) (l' : List ℕ) (h' : ℕ)
    → IsClosed edge before → Greyed (Contains roots) before l 0 m l' h' → Greying roots edge before m l' h'
Greying-begins roots edge before l m l' h' shut y =
    let g = y [] record { chain = refl; marked = λ k w. absurd (Contains-nil k w) } in
    record {
      waits = g.waits;
      chained = g.chained;
      shut = shut;
      len = g.scans.len;
      sound = λ k h. elim (g.scans.fresh k h) [ inl w ↦ inl w | inr w ↦ inr (Reached-start (Contains roots) edge k w.0) ];
      kept = g.scans.kept;
      roots_marked = g.scans.done;
      closed = λ k h. elim (g.scans.fresh k h) [ inl w ↦ inr (λ y' e. g.scans.kept y' (shut k y' e w)) | inr w ↦ inl w.1 ];
      room = omega (arith, g.scans.same);
    }
