-- How many are black. A member of the closure is black, grey or white. Blackening takes a grey one, which is a member
-- since it is spared, and no other changes; shading makes white ones grey; and what bringing back adds had no mark
-- before, since what has a mark is spared.
use Rattle.std.proofs.Common.{◌≡◌, ℕ, zero, suc, ◌≤◌, ◌<◌, ◌⊎◌, ◌↔◌, ◌≢◌, inl, inr, Bool, List, [], ◌∷◌, ◌++◌, length, refl, sym, ap, subst, ◌∙◌, arith}
use Rattle.std.specs.Prelude.{Contains}
use Rattle.std.proofs.lemmas.Bool.{cases_eq, cases_lt}
use Rattle.std.proofs.lemmas.List.Elements.{All-contains, Contains-append_left}
use Rattle.joint_machine.specs.Components.{Rises}
use Rattle.joint_machine.specs.PeerReplay.{PeerReplay, Marking, IsMarked, IsMarkingRoot, IsClosure, MarkingEdge}
use Rattle.joint_machine.specs.Heaps.{IsLive}
use Rattle.joint_machine.proofs.Members.{Contains-nil, Contains-here, Contains-there, Contains-cons_cases}
use Rattle.joint_machine.proofs.WalkLemmas.{Reached-mono}
use Rattle.joint_laws.specs.PeerInvariants.{IsSpared}
use Rattle.reachability.specs.Marks.{HasMark}
use Rattle.reachability.proofs.Marking.{marked-or}
use Rattle.marking_laws.specs.Marks.{EdgeNow}
use Rattle.marking_laws.specs.Slices.{AreMarksGoing, IsGoingSide, Shades, none, Counted, IsBlack, AreBlack, DoneIsAllBlack, BlackeningCounts, ShadingCounts, BringingBackCounts}
use Rattle.marking_laws.proofs.SliceEvents.{going-all}

-- whether a number is in a list
member-or : (x : ℕ) (xs : List ℕ) → Contains xs x ⊎ (Contains xs x → ⊥)
member-or x [] = inr (Contains-nil x)
member-or x (y ∷ ys) = elim (cases_eq y x) [
  | inl e ↦ inl (subst (λ z. Contains (z ∷ ys) x) (sym e) (Contains-here x ys))
  | inr d ↦ elim (member-or x ys) [
    | inl c ↦ inl (Contains-there x y ys c)
    | inr n ↦ inr (λ c. elim (Contains-cons_cases y ys x c) [ inl e ↦ d e | inr w ↦ n w ])
  ]
]

counted-same : (Q R : ℕ → Type 0) (xs : List ℕ) (n : ℕ) → ((x : ℕ) → Contains xs x → Q x ↔ R x) → Counted Q xs n → Counted R xs n
counted-same Q R [] n h c = c
counted-same Q R (x ∷ xs) n h c = elim c [
  | inl w ↦ inl ((h x (Contains-here x xs)).0 w.0, w.1, w.2, counted-same Q R xs w.1 (λ y d. h y (Contains-there y x xs d)) w.3)
  | inr w ↦ inr (λ r. w.0 ((h x (Contains-here x xs)).1 r), counted-same Q R xs n (λ y d. h y (Contains-there y x xs d)) w.1)
]

-- one more
counted-one : (Q R : ℕ → Type 0) (x : ℕ) (xs : List ℕ) (n : ℕ) → Rises xs → Contains xs x → (Q x → ⊥) → R x → ((y : ℕ) → Contains xs y → y ≢ x → Q y ↔ R y) → Counted Q xs n → Counted R xs (suc n)
counted-one Q R x [] n r at q rx h c = absurd (Contains-nil x at)
counted-one Q R x (y ∷ ys) n r at q rx h c = elim (cases_eq y x) [
  | inl e ↦ elim c [
    | inl w ↦ absurd (q (subst Q e w.0))
    | inr w ↦ inl (subst R (sym e) rx, n, refl, counted-same Q R ys n (λ z d. h z (Contains-there z y ys d) (λ s. let l = All-contains (λ u. y < u) ys z r.0 d in omega (arith, l, e, s))) w.1)
  ]
  | inr d ↦ (
      let rest : Contains ys x = elim (Contains-cons_cases y ys x at) [ inl e ↦ absurd (d e) | inr w ↦ w ] in
      let head : Q y ↔ R y = h y (Contains-here y ys) d in
      let later = λ (m : ℕ) (w : Counted Q ys m). counted-one Q R x ys m r.1 rest q rx (λ z e n. h z (Contains-there z y ys e) n) w in
      elim c [
        | inl w ↦ inl (head.0 w.0, suc w.1, ap suc w.2, later w.1 w.3)
        | inr w ↦ inr (λ u. w.0 (head.1 u), later n w.1)
      ])
]

counted-all : (Q : ℕ → Type 0) (xs : List ℕ) (n : ℕ) → ((x : ℕ) → Contains xs x → Q x) → Counted Q xs n → n ≡ length xs
counted-all Q [] n h c = c
counted-all Q (x ∷ xs) n h c = elim c [
  | inl w ↦ w.2 ∙ ap suc (counted-all Q xs w.1 (λ y d. h y (Contains-there y x xs d)) w.3)
  | inr w ↦ absurd (w.0 (h x (Contains-here x xs)))
]

counted-most : (Q : ℕ → Type 0) (xs : List ℕ) (n : ℕ) → Counted Q xs n → n ≤ length xs
counted-most Q [] n c = omega (arith, c)
counted-most Q (x ∷ xs) n c = elim c [
  | inl w ↦ let l = counted-most Q xs w.1 w.3 in let e = w.2 in omega (arith, l, e)
  | inr w ↦ let l = counted-most Q xs n w.1 in omega (arith, l)
]

counted-less : (Q : ℕ → Type 0) (x : ℕ) (xs : List ℕ) (n : ℕ) → Contains xs x → (Q x → ⊥) → Counted Q xs n → n < length xs
counted-less Q x [] n at q c = absurd (Contains-nil x at)
counted-less Q x (y ∷ ys) n at q c = elim c [
  | inl w ↦ elim (Contains-cons_cases y ys x at) [
    | inl e ↦ absurd (q (subst Q e w.0))
    | inr d ↦ let l = counted-less Q x ys w.1 d q w.3 in let e = w.2 in omega (arith, l, e)
  ]
  | inr w ↦ let l = counted-most Q ys n w.1 in omega (arith, l)
]

counted-none : (Q : ℕ → Type 0) (xs : List ℕ) → ((x : ℕ) → Contains xs x → Q x → ⊥) → Counted Q xs 0
counted-none Q [] h = refl
counted-none Q (x ∷ xs) h = inr (h x (Contains-here x xs), counted-none Q xs (λ y d. h y (Contains-there y x xs d)))

-- a longer list, none of whose further members is such
counted-more : (Q : ℕ → Type 0) (xs ys : List ℕ) (n : ℕ) → Rises xs → Rises ys → ((x : ℕ) → Contains xs x → Contains ys x)
    → ((y : ℕ) → Contains ys y → (Contains xs y → ⊥) → Q y → ⊥) → Counted Q xs n → Counted Q ys n
counted-more Q [] ys n rx ry sub h c = subst (Counted Q ys) (sym c) (counted-none Q ys (λ y d. h y d (Contains-nil y)))
counted-more Q (x ∷ xs) [] n rx ry sub h c = absurd (Contains-nil x (sub x (Contains-here x xs)))
counted-more Q (x ∷ xs) (y ∷ ys) n rx ry sub h c = elim (cases_eq x y) [
  | inl e ↦ (
      let inner : (z : ℕ) → Contains xs z → Contains ys z = λ z d. elim (Contains-cons_cases y ys z (sub z (Contains-there z x xs d))) [
        | inl s ↦ absurd (let l = All-contains (λ u. x < u) xs z rx.0 d in omega (arith, l, e, s))
        | inr w ↦ w
      ] in
      let outer : (z : ℕ) → Contains ys z → (Contains xs z → ⊥) → Q z → ⊥ = λ z d m. h z (Contains-there z y ys d) (λ w. elim (Contains-cons_cases x xs z w) [
        | inl s ↦ (let l = All-contains (λ u. y < u) ys z ry.0 d in omega (arith, l, e, s))
        | inr v ↦ m v
      ]) in
      elim c [
        | inl w ↦ inl (subst Q e w.0, w.1, w.2, counted-more Q xs ys w.1 rx.1 ry.1 inner outer w.3)
        | inr w ↦ inr (λ q. w.0 (subst Q (sym e) q), counted-more Q xs ys n rx.1 ry.1 inner outer w.1)
      ])
  | inr d ↦ (
      let above : y < x = elim (Contains-cons_cases y ys x (sub x (Contains-here x xs))) [
        | inl s ↦ absurd (d (sym s))
        | inr w ↦ All-contains (λ u. y < u) ys x ry.0 w
      ] in
      let outside : Contains (x ∷ xs) y → ⊥ = λ w. elim (Contains-cons_cases x xs y w) [
        | inl s ↦ d s
        | inr v ↦ (let l = All-contains (λ u. x < u) xs y rx.0 v in omega (arith, l, above))
      ] in
      inr (
        h y (Contains-here y ys) outside,
        counted-more Q (x ∷ xs) ys n rx ry.1
            (λ z w. elim (Contains-cons_cases y ys z (sub z w)) [ inl s ↦ absurd (outside (subst (Contains (x ∷ xs)) (sym s) w)) | inr v ↦ v ])
            (λ z w m. h z (Contains-there z y ys w) m) c,
      ))
]

-- a spared peer of the begin is in the closure
spared-in : (mk : Marking) (closure : List ℕ) (p : ℕ) → IsClosure mk closure → IsLive mk.heap p → IsSpared mk p → Contains closure p
spared-in mk closure p c l s = elim (member-or p closure) [ inl w ↦ w | inr n ↦ absurd (s l (λ m. n ((c.exact p).1 m))) ]

pub done-black : DoneIsAllBlack
done-black s mk follows marks greys closure count m b = (
  λ e. counted-all (IsBlack marks greys) closure count (λ p c.
      (going-all s mk follows marks (subst (AreMarksGoing s mk follows marks) e m) p ((b.closed.exact p).0 c), λ g. Contains-nil p (subst (λ z. Contains z p) e g))) b.counted,
  λ e. empty greys (λ x g. let l = counted-less (IsBlack marks greys) x closure count (spared-in mk closure x b.closed (m.existed x g) (m.sound x (m.grey x g))) (λ q. q.1 g) b.counted in
      omega (arith, l, e)),
)
  where
    empty : (xs : List ℕ) → ((x : ℕ) → Contains xs x → ⊥) → xs ≡ []
    empty [] h = refl
    empty (x ∷ xs) h = absurd (h x (Contains-here x xs))

-- what isn't gone is black as before
black-as : (seen gone : ℕ → Type 0) (marks after : List Bool) (greys waits : List ℕ) (p : ℕ) → Shades seen gone marks greys after waits → (gone p → ⊥) → IsBlack marks greys p ↔ IsBlack after waits p
black-as seen gone marks after greys waits p sh n = (
  λ q. ((sh.marked p).1 (inl q.0), λ c. elim (sh.only p c) [ inl g ↦ q.1 g | inr w ↦ w.0 q.0 ]),
  λ q. (elim (sh.anew p q.0) [ inl u ↦ u | inr c ↦ absurd (q.1 c) ], λ g. q.1 (sh.kept p g n)),
)

marked-as : (mk : Marking) (black p : ℕ) → IsMarked mk p ↔ IsMarked (record mk { brought = mk.brought; blackened = black }) p
marked-as mk black p = (λ w. record { existed = w.existed; reached = w.reached }, λ w. record { existed = w.existed; reached = w.reached })

pub black-counts : BlackeningCounts
black-counts s mk follows marks after greys waits closure x count black side c sh b = record {
  closed = record { rise = b.closed.rise; exact = λ p. (λ d. (marked-as mk black p).0 ((b.closed.exact p).0 d), λ w. (b.closed.exact p).1 ((marked-as mk black p).1 w)) };
  counted = counted-one (IsBlack marks greys) (IsBlack after waits) x closure count b.closed.rise (spared-in mk closure x b.closed (side.right.existed x c) (side.right.sound x (side.right.grey x c)))
      (λ q. q.1 c) ((sh.marked x).1 (inl (side.right.grey x c)), sh.left x refl) (λ p d n. black-as (EdgeNow s follows x) (λ k. k ≡ x) marks after greys waits p sh n) b.counted;
}

pub shading-counts : ShadingCounts
shading-counts seen mk marks after greys waits closure count sh
    b = record {
      closed = b.closed;
      counted = counted-same (IsBlack marks greys) (IsBlack after waits) closure count
          (λ p d. black-as (Contains seen) none marks after greys waits p sh (λ z. z)) b.counted;
    }

pub brought-counts : BringingBackCounts
brought-counts s mk follows marks after greys waits closure more x count side sh closed b = record {
  closed = closed;
  counted = counted-more (IsBlack after waits) closure more count b.closed.rise closed.rise
      (λ p c. (closed.exact p).1 (wider p ((b.closed.exact p).0 c)))
      (λ p c n q. n (spared-in mk closure p b.closed ((closed.exact p).0 c).existed (side.right.sound p ((black-as (λ k. k ≡ x) none marks after greys waits p sh (λ z. z)).1 q).0)))
      (counted-same (IsBlack marks greys) (IsBlack after waits) closure count (λ p d. black-as (λ k. k ≡ x) none marks after greys waits p sh (λ z. z)) b.counted);
}
  where
    wider : (p : ℕ) → IsMarked mk p → IsMarked (record mk { brought = mk.brought ++ x ∷ []; blackened = mk.blackened }) p
    wider p w = record {
      existed = w.existed;
      reached = Reached-mono (IsMarkingRoot mk) (IsMarkingRoot (record mk { brought = mk.brought ++ x ∷ []; blackened = mk.blackened }))
          (MarkingEdge mk) (MarkingEdge (record mk { brought = mk.brought ++ x ∷ []; blackened = mk.blackened }))
          (λ z r. elim r [ inl a ↦ inl a | inr t ↦ elim t [ inl d ↦ inr (inl d) | inr e ↦ inr (inr (Contains-append_left mk.brought (x ∷ []) z e)) ] ]) (λ a d e. e) p w.reached;
    }
