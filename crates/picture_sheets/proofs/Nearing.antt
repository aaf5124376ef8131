-- From the ends that came last one goes over one arrow more; what lies within k arrows is found after k times, and where
-- a time finds nothing more, for all times.
use Rattle.std.proofs.Common.{◌≡◌, ◌↔◌, ◌⊎◌, inl, inr, ℕ, zero, suc, ◌+◌, ◌<◌, ◌≤◌, ◌-◌, Bool, true, false, ◌||◌, cond, List, [], ◌∷◌, ◌++◌, length, take, get_or, refl, sym, ap, subst}
use Rattle.std.proofs.Common.{◌∙◌, arith, append-nil, append_assoc}
use Rattle.std.specs.Prelude.{Contains, Option, Some, None, flat_map}
use Rattle.std.specs.BTreeMap.{Updates, get, is_at}
use Rattle.std.specs.BTreeSet.{BTreeSet}
use Rattle.std.specs.Global.{Vec}
use Rattle.std.specs.List.{list_any}
use Rattle.std.proofs.lemmas.List.Elements.{Contains-append_cases, Contains-append_left, Contains-append_right}
use Rattle.std.proofs.lemmas.Option.{slice_get-get_or}
use Rattle.joint_machine.proofs.Members.{Contains-nil, Contains-here, Contains-cons_cases, Contains-flat_map, Contains-flat_map_cases, take-next}
use Rattle.heap_pictures.specs.declared.pictures.Arrow.{Arrow}
use Rattle.heap_pictures.specs.declared.pictures.Spot.{Spot}
use Rattle.picture_sheets.specs.Around.{AreJoined, IsWithin, Joins, ends}
use Rattle.picture_sheets.specs.Keys.{Puts, SpotKey, has_spot, spot_cmp, spot_key}
use Rattle.picture_sheets.specs.Near.{Adds, AddsArrow, AreLists, AreWithin, Grows, IsNear, Lists, items_of, joined_to}
use Rattle.picture_sheets.specs.Same.{same_spot}
use Rattle.picture_sheets.proofs.Keyed.{spot-tied}
use Rattle.picture_sheets.proofs.Sameness.{spot-same, spot-self}

one : {A : Type 0} (x y : A) → Contains (x ∷ []) y → x ≡ y
one x y c = elim (Contains-cons_cases x [] y c) [ inl e ↦ e | inr d ↦ absurd (Contains-nil y d) ]

true-no-false : {P : Type 0} (b : Bool) → b ≡ true → b ≡ false → P
true-no-false b e f = (let t : true ≡ false = sym e ∙ f in cc)

-- the list of one end has one more
pick : (b : Bool) (l : Vec Spot) (o : Option (Vec Spot)) → items_of (cond b (Some l) (cond b None o)) ≡ cond b l.items (items_of o)
pick true l o = refl
pick false l o = refl

added : (old mid new : Lists) (x : Spot) (l : Vec Spot) → Updates spot_cmp old mid (spot_key x) None → Updates spot_cmp mid new (spot_key x) (Some l)
    → (z : Spot) → joined_to new z ≡ cond (same_spot x z) l.items (joined_to old z)
added old mid new x l u v z =
    let b : Bool = is_at (spot_cmp (spot_key x)) (spot_key z) in
    ap items_of (v.0 (spot_key z)) ∙ (ap (λ o. items_of (cond b (Some l) o)) (u.0 (spot_key z))
    ∙ (pick b l (get spot_cmp old (spot_key z)) ∙ ap (λ d. cond d l.items (joined_to old z)) (spot-tied x z)))

pub adds : (old mid new : Lists) (x y : Spot) (l : Vec Spot) → Updates spot_cmp old mid (spot_key x) None → Updates spot_cmp mid new (spot_key x) (Some l)
    → l.items ≡ joined_to old x ++ y ∷ [] → Adds x y old new
adds old mid new x y l u v e z w = by (same_spot x z) refl (added old mid new x l u v z)
  where
    more : z ≡ x → joined_to new z ≡ joined_to old z ++ y ∷ [] → Contains (joined_to new z) w ↔ (Contains (joined_to old z) w ⊎ ((z ≡ x) × (w ≡ y)))
    more p n = (
      λ c. elim (Contains-append_cases (joined_to old z) (y ∷ []) w (subst (λ xs. Contains xs w) n c)) [ inl d ↦ inl d | inr d ↦ inr (p, sym (one y w d)) ],
      λ s. subst (λ xs. Contains xs w) (sym n) (elim s [
        | inl c ↦ Contains-append_left (joined_to old z) (y ∷ []) w c
        | inr q ↦ subst (λ k. Contains (joined_to old z ++ y ∷ []) k) (sym q.1) (Contains-append_right (joined_to old z) (y ∷ []) y (Contains-here y []))
      ]),
    )

    by : (b : Bool) → same_spot x z ≡ b → joined_to new z ≡ cond b l.items (joined_to old z) → Contains (joined_to new z) w ↔ (Contains (joined_to old z) w ⊎ ((z ≡ x) × (w ≡ y)))
    by true p n = (let q : x ≡ z = spot-same x z p in more (sym q) (n ∙ (e ∙ ap (λ k. joined_to old k ++ y ∷ []) q)))
    by false p n = (
      λ c. inl (subst (λ xs. Contains xs w) n c),
      λ s. elim s [
        | inl c ↦ subst (λ xs. Contains xs w) (sym n) c
        | inr q ↦ true-no-false (same_spot x z) (subst (λ k. same_spot x k ≡ true) (sym q.0) (spot-self x)) p
      ],
    )

-- the lists of both ends of an arrow
adds-both : (a : Arrow) (old mid new : Lists) → Adds (ends a).0 (ends a).1 old mid → Adds (ends a).1 (ends a).0 mid new → AddsArrow a old new
adds-both a old mid new g h z w = (
  λ c. elim ((h z w).0 c) [ inl d ↦ elim ((g z w).0 d) [ inl k ↦ inl k | inr k ↦ inr (inl k) ] | inr k ↦ inr (inr k) ],
  λ s. elim s [ inl k ↦ (h z w).1 (inl ((g z w).1 (inl k))) | inr t ↦ elim t [ inl k ↦ (h z w).1 (inl ((g z w).1 (inr k))) | inr k ↦ (h z w).1 (inr k) ] ],
)

pub adds-arrow : (a : Arrow) (e : Spot × Spot) (old mid new : Lists) → e ≡ ends a → Adds e.0 e.1 old mid → Adds e.1 e.0 mid new → AddsArrow a old new
adds-arrow a e old mid new p g h =
    adds-both a old mid new (subst (λ f. Adds f.0 f.1 old mid) p g) (subst (λ f. Adds f.1 f.0 mid new) p h)

-- the lists of all arrows
lists-push : (ars : List Arrow) (a : Arrow) (old new : Lists) → AreLists ars old → AddsArrow a old new → AreLists (ars ++ a ∷ []) new
lists-push ars a old new g o z w = (
  λ c. elim ((o z w).0 c) [
    | inl d ↦ let j = (g z w).0 d in (j.0, Contains-append_left ars (a ∷ []) j.0 j.1, j.2)
    | inr j ↦ (a, Contains-append_right ars (a ∷ []) a (Contains-here a []), j)
  ],
  λ j. elim (Contains-append_cases ars (a ∷ []) j.0 j.1) [
    | inl k ↦ (o z w).1 (inl ((g z w).1 (j.0, k, j.2)))
    | inr k ↦ (o z w).1 (inr (subst (λ b. Joins b z w) (sym (one a j.0 k)) j.2))
  ],
)

pub lists-more : (ars : List Arrow) (i : ℕ) (d : Arrow) (old new : Lists) → i < length ars → AreLists (take i ars) old → AddsArrow (get_or ars i d) old new → AreLists (take (i + 1) ars) new
lists-more ars i d old new l g o = subst (λ bs. AreLists bs new)
    (sym (take-next ars i (get_or ars i d) (slice_get-get_or ars i d l))) (lists-push (take i ars) (get_or ars i d) old new g o)

-- an end is put
or_true : (a b : Bool) → b ≡ true → (a || b) ≡ true
or_true true b e = refl
or_true false b e = e

puts-exact : (s : Spot) (old new : BTreeSet SpotKey) → Puts s old new → (x : Spot) → (has_spot new x ≡ true) ↔ ((has_spot old x ≡ true) ⊎ Contains (s ∷ []) x)
puts-exact s old new p x = (λ e. by (same_spot x s) refl (sym (p x) ∙ e), back)
  where
    by : (b : Bool) → same_spot x s ≡ b → (b || has_spot old x) ≡ true → (has_spot old x ≡ true) ⊎ Contains (s ∷ []) x
    by true q e = inr (subst (λ k. Contains (s ∷ []) k) (sym (spot-same x s q)) (Contains-here s []))
    by false q e = inl e

    back : (has_spot old x ≡ true) ⊎ Contains (s ∷ []) x → has_spot new x ≡ true
    back t = elim t [
      | inl e ↦ p x ∙ or_true (same_spot x s) (has_spot old x) e
      | inr c ↦ let q : same_spot x s ≡ true = subst (λ k. same_spot k s ≡ true) (one s x c) (spot-self s) in p x ∙ ap (λ b. b || has_spot old x) q
    ]

pub put-new : (s : Spot) (old new : BTreeSet SpotKey) (fresh : List Spot) → Puts s old new → Grows (s ∷ []) old new fresh (fresh ++ s ∷ [])
put-new s old new fresh p = record {
  exact = puts-exact s old new p;
  kept = λ x c. Contains-append_left fresh (s ∷ []) x c;
  listed = λ x e. elim ((puts-exact s old new p x).0 e) [ inl d ↦ inl d | inr c ↦ inr (Contains-append_right fresh (s ∷ []) x c) ];
  within = λ x c. elim (Contains-append_cases fresh (s ∷ []) x c) [ inl d ↦ inl d | inr d ↦ inr ((puts-exact s old new p x).1 (inr d)) ];
}

-- none are, and more of them
pub grows-none : (old : BTreeSet SpotKey) (fresh : List Spot) → Grows [] old old fresh fresh
grows-none old fresh = record {
  exact = λ x. (λ e. inl e, λ s. elim s [ inl e ↦ e | inr c ↦ absurd (Contains-nil x c) ]);
  kept = λ x c. c;
  listed = λ x e. inl e;
  within = λ x c. inl c;
}

pub grows-then : (xs ys : List Spot) (a b c : BTreeSet SpotKey) (l m n : List Spot) → Grows xs a b l m → Grows ys b c m n → Grows (xs ++ ys) a c l n
grows-then xs ys a b c l m n g h = record {
  exact = λ x. (
    λ e. elim ((h.exact x).0 e) [
      | inl d ↦ elim ((g.exact x).0 d) [ inl k ↦ inl k | inr k ↦ inr (Contains-append_left xs ys x k) ]
      | inr k ↦ inr (Contains-append_right xs ys x k)
    ],
    λ s. elim s [
      | inl e ↦ (h.exact x).1 (inl ((g.exact x).1 (inl e)))
      | inr k ↦ elim (Contains-append_cases xs ys x k) [ inl d ↦ (h.exact x).1 (inl ((g.exact x).1 (inr d))) | inr d ↦ (h.exact x).1 (inr d) ]
    ],
  );
  kept = λ x k. h.kept x (g.kept x k);
  listed = λ x e. elim (h.listed x e) [ inl d ↦ elim (g.listed x d) [ inl k ↦ inl k | inr k ↦ inr (h.kept x k) ] | inr k ↦ inr k ];
  within = λ x k. elim (h.within x k) [ inl d ↦ elim (g.within x d) [ inl p ↦ inl p | inr p ↦ inr ((h.exact x).1 (inl p)) ] | inr p ↦ inr p ];
}

pub grows-more : (xs : List Spot) (i : ℕ) (d : Spot) (a b c : BTreeSet SpotKey) (l m n : List Spot) → i < length xs
    → Grows (take i xs) a b l m → Grows (get_or xs i d ∷ []) b c m n → Grows (take (i + 1) xs) a c l n
grows-more xs i d a b c l m n k g h = subst (λ ys. Grows ys a c l n)
    (sym (take-next xs i (get_or xs i d) (slice_get-get_or xs i d k))) (grows-then (take i xs) (get_or xs i d ∷ []) a b c l m n g h)

flat-push : (f : Spot → List Spot) (xs : List Spot) (x : Spot) → flat_map f (xs ++ x ∷ []) ≡ flat_map f xs ++ f x
flat-push f [] x = append-nil (f x)
flat-push f (y ∷ ys) x = ap (λ zs. f y ++ zs) (flat-push f ys x) ∙ sym (append_assoc (f y) (flat_map f ys) (f x))

pub grows-from : (f : Spot → List Spot) (xs : List Spot) (i : ℕ) (d : Spot) (a b c : BTreeSet SpotKey) (l m n : List Spot) → i < length xs
    → Grows (flat_map f (take i xs)) a b l m → Grows (f (get_or xs i d)) b c m n → Grows (flat_map f (take (i + 1) xs)) a c l n
grows-from f xs i d a b c l m n k g h =
    let t = take-next xs i (get_or xs i d) (slice_get-get_or xs i d k) in
    subst (λ ys. Grows ys a c l n) (sym (ap (flat_map f) t ∙ flat-push f (take i xs) (get_or xs i d)))
    (grows-then (flat_map f (take i xs)) (f (get_or xs i d)) a b c l m n g h)

-- within no arrows
pub near-none : (ars : List Arrow) (s : Spot) (old near : BTreeSet SpotKey) (fresh : List Spot) → old.keys ≡ [] → Grows (s ∷ []) old near [] fresh → IsNear ars s 0 near fresh
near-none ars s old near fresh e g = record {
  exact = λ x. (
    λ t. elim ((g.exact x).0 t) [ inl d ↦ true-no-false (has_spot old x) d (none x) | inr c ↦ one s x c ],
    λ p. (g.exact x).1 (inr (subst (λ k. Contains (s ∷ []) k) p (Contains-here s []))),
  );
  new = λ x c. elim (g.within x c) [ inl d ↦ absurd (Contains-nil x d) | inr t ↦ t ];
  closed = λ x y t j. elim (g.listed x t) [ inl d ↦ true-no-false (has_spot old x) d (none x) | inr c ↦ inr c ];
}
  where
    none : (x : Spot) → has_spot old x ≡ false
    none x = ap (λ ks. list_any (is_at (spot_cmp (spot_key x))) ks) e

-- one arrow more
module _ (ars : List Arrow) (lists : Lists) (s : Spot) (k : ℕ) (near next : BTreeSet SpotKey) (newest fresh : List Spot) where
  near-suc : AreLists ars lists → IsNear ars s k near newest → Grows (flat_map (joined_to lists) newest) near next [] fresh → IsNear ars s (suc k) next fresh
  near-suc l i g = record {
    exact = λ x. (there x, λ t. elim t [ inl w ↦ (g.exact x).1 (inl ((i.exact x).1 w)) | inr p ↦ reached p.0 x ((i.exact p.0).1 p.1) p.2 ]);
    new = λ x c. elim (g.within x c) [ inl d ↦ absurd (Contains-nil x d) | inr t ↦ t ];
    closed = λ x y t j. elim (g.listed x t) [ inl d ↦ inl (reached x y d j) | inr c ↦ inr c ];
  }
    where
      there : (x : Spot) → has_spot next x ≡ true → IsWithin ars s (suc k) x
      there x t = elim ((g.exact x).0 t) [
        | inl d ↦ inl ((i.exact x).0 d)
        | inr c ↦ let r = Contains-flat_map_cases (joined_to lists) newest x c in inr (r.0, (i.exact r.0).0 (i.new r.0 r.1), (l r.0 x).0 r.2)
      ]

      reached : (x y : Spot) → has_spot near x ≡ true → AreJoined ars x y → has_spot next y ≡ true
      reached x y d j = elim (i.closed x y d j) [
        | inl t ↦ (g.exact y).1 (inl t)
        | inr c ↦ (g.exact y).1 (inr (Contains-flat_map (joined_to lists) newest x y c ((l x y).1 j)))
      ]

  pub near-more : AreLists ars lists → IsNear ars s k near newest → Grows (flat_map (joined_to lists) newest) near next [] fresh → IsNear ars s (k + 1) next fresh
  near-more l i g = (let e : suc k ≡ k + 1 = omega arith in subst (λ n. IsNear ars s n next fresh) e (near-suc l i g))

-- nothing more is found: that is all, within however many arrows
still-next : (ars : List Arrow) (s : Spot) (k n : ℕ) (near : BTreeSet SpotKey) → IsNear ars s k near [] → AreWithin ars s n near → AreWithin ars s (suc n) near
still-next ars s k n near i v x = (
  λ t. inl ((v x).0 t),
  λ w. elim w [
    | inl u ↦ (v x).1 u
    | inr p ↦ elim (i.closed p.0 x ((v p.0).1 p.1) p.2) [ inl t ↦ t | inr c ↦ absurd (Contains-nil p.0 c) ]
  ],
)

still : (ars : List Arrow) (s : Spot) (k : ℕ) (near : BTreeSet SpotKey) → IsNear ars s k near [] → (d : ℕ) → AreWithin ars s (k + d) near
still ars s k near i zero = (let e : k ≡ k + 0 = omega arith in subst (λ n. AreWithin ars s n near) e i.exact)
still ars s k near i (suc d) = (let e : suc (k + d) ≡ k + suc d = omega arith in
    subst (λ n. AreWithin ars s n near) e (still-next ars s k (k + d) near i (still ars s k near i d)))

none-left : (xs : List Spot) → length xs ≡ 0 → xs ≡ []
none-left [] e = refl
none-left (x ∷ xs) e = absurd (omega (arith, e))

pub near-all : (ars : List Arrow) (s : Spot) (k n : ℕ) (near : BTreeSet SpotKey) (newest : List Spot) → IsNear ars s k near newest → length newest ≡ 0 → k ≤ n → AreWithin ars s n near
near-all ars s k n near newest i e m =
    let j : IsNear ars s k near [] = subst (λ f. IsNear ars s k near f) (none-left newest e) i in
    let f : k + (n - k) ≡ n = omega (arith, m) in
    subst (λ z. AreWithin ars s z near) f (still ars s k near j (n - k))
