-- The list of what was found grows only by nodes that are reached, and has the rows of all that it went on
-- from. So in the end it is closed under the edges that the search takes, and what is reached is in it.
use Rattle.std.proofs.Common.{◌≡◌, ◌↔◌, ℕ, suc, zero, ◌+◌, ◌<◌, ◌≤◌, Bool, true, false, List, [], ◌∷◌, ◌++◌, length, get_or, set, refl, sym, ◌∙◌, ap, subst, arith, inl, inr}
use Rattle.std.proofs.lemmas.List.{length_push, length-append, length-set, get_or-set_same, get_or-set_other, get_or_append_left, get_or_past, get_or_default, append-nil, append_assoc}
use Rattle.std.proofs.lemmas.List.Elements.{All-nil, All-push, All-weaker, All-contains, All-append, Contains-append_left, Contains-push}
use Rattle.std.proofs.lemmas.Bool.{cases_lt, cases_eq, true≢false}
use Rattle.std.specs.List.{All, Contains}
use Rattle.joint_machine.specs.Walks.{Walks, Reaches, Mutual}
use Rattle.joint_machine.proofs.WalkLemmas.{Reaches-keeps, Reaches-self, Reaches-then, Reaches-trans}
use Rattle.compare_pass.specs.Searching.{unmarked, AreMarked, Visits, FindsReached}

-- where each edge from a node of the class of x is a step, a walk inside the class is one by steps
pub walk_inside : (edge step : ℕ → ℕ → Type 0) (count x : ℕ) → ((u v : ℕ) → edge u v → v < count) → ((u v : ℕ) → u < count → Mutual edge x u → edge u v → step u v)
    → (u to : ℕ) (rows : List ℕ) → u < count → Reaches step x u → Mutual edge x u → Walks edge u rows to → Reaches edge to x → Reaches step x to
walk_inside edge step count x within takes u to [] lt r m w back = subst (λ (v : ℕ). Reaches step x v) w r
walk_inside edge step count x within takes u to (z ∷ rows) lt r m w back =
    walk_inside edge step count x within takes z to rows (within u z w.0) (Reaches-then step x u z r (takes u z lt m w.0))
    (record { there = Reaches-then edge x u z m.there w.0; back = Reaches-trans edge z to x (record { rows = rows; walk = w.1 }) back })
    w.1 back

-- marking one node more
unmarked-set : (marks : List Bool) (y : ℕ) → y < length marks → get_or marks y false ≡ false → unmarked (set marks y true) + 1 ≡ unmarked marks
unmarked-set [] y lt f = absurd (omega arith)
unmarked-set (m ∷ marks) zero lt f = rw f (omega arith)
unmarked-set (m ∷ marks) (suc y) lt f = omega (arith, unmarked-set marks y (omega (arith, lt)) f)

pub marked_more : (marks : List Bool) (found : List ℕ) (y : ℕ) → y < length marks → get_or marks y false ≡ false → AreMarked marks found → AreMarked (set marks y true) (found ++ y ∷ [])
marked_more marks found y lt f a = record {
  listed = λ z t. elim (cases_eq z y) [
    | inl e ↦ rw e (Contains-push found y)
    | inr ne ↦ Contains-append_left found (y ∷ []) z (a.listed z (sym (get_or-set_other marks y z true false ne) ∙ t))
  ];
  marked = All-push (λ z. get_or (set marks y true) z false ≡ true) found y
      (All-weaker (λ z. get_or marks z false ≡ true) (λ z. get_or (set marks y true) z false ≡ true) (λ z t. elim (cases_eq z y) [
        | inl e ↦ rw e (get_or-set_same marks y true false lt)
        | inr ne ↦ get_or-set_other marks y z true false ne ∙ t
      ]) found a.marked)
      (get_or-set_same marks y true false lt);
  count = omega (arith, a.count, length_push found y, length-set marks y true, unmarked-set marks y lt f);
}

pub visits_none : (found : List ℕ) → Visits [] found found
visits_none found = record { more = []; appended = sym (append-nil found); from_row = All-nil (Contains []); whole = All-nil (Contains found) }

-- a further node of the row, which is listed already
pub visits_old : (row before after : List ℕ) (y : ℕ) → Contains after y → Visits row before after → Visits (row ++ y ∷ []) before after
visits_old row before after y h v = record {
  more = v.more;
  appended = v.appended;
  from_row = All-weaker (Contains row) (Contains (row ++ y ∷ [])) (λ z c. Contains-append_left row (y ∷ []) z c) v.more v.from_row;
  whole = All-push (Contains after) row y v.whole h;
}

-- a further node of the row, which is listed now
pub visits_new : (row before after : List ℕ) (y : ℕ) → Visits row before after → Visits (row ++ y ∷ []) before (after ++ y ∷ [])
visits_new row before after y v = record {
  more = v.more ++ y ∷ [];
  appended = rw v.appended (append_assoc before v.more (y ∷ []));
  from_row = All-push (Contains (row ++ y ∷ [])) v.more y
      (All-weaker (Contains row) (Contains (row ++ y ∷ [])) (λ z c. Contains-append_left row (y ∷ []) z c) v.more v.from_row)
      (Contains-push row y);
  whole = All-push (Contains (after ++ y ∷ [])) row y
      (All-weaker (Contains after) (Contains (after ++ y ∷ [])) (λ z c. Contains-append_left after (y ∷ []) z c) row v.whole)
      (Contains-push after y);
}

unmarked-clear : (marks : List Bool) → All (λ m. m ≡ false) marks → unmarked marks ≡ length marks
unmarked-clear [] h = refl
unmarked-clear (m ∷ marks) h = rw (h 0 m (omega arith)) (omega (arith, unmarked-clear marks (λ k d lt. h (suc k) d (omega (arith, lt)))))

pub marked_none : (marks : List Bool) → All (λ m. m ≡ false) marks → AreMarked marks []
marked_none marks h = record {
  listed = λ y t. elim (cases_lt y (length marks)) [
    | inl lt ↦ absurd (true≢false (sym t ∙ h y false lt))
    | inr ge ↦ absurd (true≢false (sym t ∙ get_or_past marks y false ge))
  ];
  marked = All-nil (λ y. get_or marks y false ≡ true);
  count = omega (arith, unmarked-clear marks h);
}

-- a list that has the start, only what is reached, and where each edge that is taken leads, is exact
pub exact_from_closed : (step : ℕ → ℕ → Type 0) (start : ℕ) (found : List ℕ) → Contains found start → All (Reaches step start) found
    → ((k y : ℕ) → k < length found → step (get_or found k 0) y → Contains found y) → (y : ℕ) → Contains found y ↔ Reaches step start y
exact_from_closed step start found s r c y = (
  λ h. All-contains (Reaches step start) found y r h,
  λ h. Reaches-keeps step (Contains found) (λ u v e q. c q.0 v q.1 (subst (λ (w : ℕ). step w v) (sym (get_or_default found q.0 0 u q.1 ∙ q.2)) e)) start y h s,
)

-- what the search keeps: the first nodes of the list are done
pub record Searching (step : ℕ → ℕ → Type 0) (start : ℕ) (marks : List Bool) (found : List ℕ) (at : ℕ) : Type 0 where
  pub marking : AreMarked marks found
  pub done : at ≤ length found
  pub sound : All (Reaches step start) found
  pub closed : (k y : ℕ) → k < at → step (get_or found k 0) y → Contains found y
  pub root : Contains found start

pub search-first : (step : ℕ → ℕ → Type 0) (start : ℕ) (marks : List Bool) → start < length marks → All (λ m. m ≡ false) marks → Searching step start (set marks start true) (start ∷ []) 0
search-first step start marks lt h = record {
  marking = marked_more marks [] start lt (h start false lt) (marked_none marks h);
  done = omega arith;
  sound = All-push (Reaches step start) [] start (All-nil (Reaches step start)) (Reaches-self step start);
  closed = λ k y lt. absurd (omega (arith, lt));
  root = Contains-push [] start;
}

pub search-passed : (step : ℕ → ℕ → Type 0) (start : ℕ) (marks : List Bool) (found : List ℕ) (at x : ℕ) → at < length found → x ≡ get_or found at 0
    → ((y : ℕ) → step x y → ⊥) → Searching step start marks found at → Searching step start marks found (at + 1)
search-passed step start marks found at x lt e none s = record {
  marking = s.marking;
  done = omega arith;
  sound = s.sound;
  closed = λ k y h t. elim (cases_lt k at) [
    | inl kl ↦ s.closed k y kl t
    | inr ge ↦ let same : k ≡ at = omega (arith, h) in absurd (none y (subst (λ (u : ℕ). step u y) (ap (λ j. get_or found j 0) same ∙ sym e) t))
  ];
  root = s.root;
}

pub search-more : (step : ℕ → ℕ → Type 0) (start : ℕ) (marks marks' : List Bool) (found found' row : List ℕ) (at x : ℕ) → at < length found → x ≡ get_or found at 0
    → ((y : ℕ) → Contains row y → step x y) → ((y : ℕ) → step x y → Contains row y)
    → AreMarked marks' found' → Visits row found found' → Searching step start marks found at → Searching step start marks' found' (at + 1)
search-more step start marks marks' found found' row at x lt e go row_of m v s =
    let len = ap length v.appended ∙ length-append found v.more in
    let same : (k : ℕ) → k < length found → get_or found' k 0 ≡ get_or found k 0 = λ k h. ap (λ (xs : List ℕ). get_or xs k 0) v.appended ∙ get_or_append_left found v.more 0 k h in
    let grown : (y : ℕ) → Contains found y → Contains found' y = λ y c. subst (λ (xs : List ℕ). Contains xs y) (sym v.appended) (Contains-append_left found v.more y c) in
    let reached : Reaches step start x = subst (λ (u : ℕ). Reaches step start u) (sym e) (s.sound at 0 lt) in
    record {
      marking = m;
      done = omega (arith, len);
      sound = subst (λ (xs : List ℕ). All (Reaches step start) xs) (sym v.appended)
          (All-append (Reaches step start) found v.more s.sound (All-weaker (Contains row) (Reaches step start) (λ y c. Reaches-then step start x y reached (go y c)) v.more v.from_row));
      closed = λ k y h t. elim (cases_lt k at) [
        | inl kl ↦ grown y (s.closed k y kl (subst (λ (u : ℕ). step u y) (same k (omega arith)) t))
        | inr ge ↦
            let at_k : k ≡ at = omega (arith, h) in
            All-contains (Contains found') row y v.whole (row_of y (subst (λ (u : ℕ). step u y) (ap (λ j. get_or found' j 0) at_k ∙ same at lt ∙ sym e) t))
      ];
      root = grown start s.root;
    }

pub search-found : (step : ℕ → ℕ → Type 0) (start : ℕ) (marks : List Bool) (found : List ℕ) (at : ℕ) → length found ≤ at → Searching step start marks found at → FindsReached step start marks found
search-found step start marks found at ge s = record {
  exact = λ y. exact_from_closed step start found s.root s.sound (λ k z lt t. s.closed k z (omega (arith, s.done)) t) y;
  marking = s.marking;
}

-- what is marked has a mark
pub marked_below : (marks : List Bool) (found : List ℕ) → AreMarked marks found → All (λ y. y < length marks) found
marked_below marks found a = λ k d lt. elim (cases_lt (get_or found k d) (length marks)) [
  | inl h ↦ h
  | inr ge ↦ absurd (true≢false (sym (a.marked k d lt) ∙ get_or_past marks (get_or found k d) false ge))
]

-- a value is written at each place that a list names, turn by turn
pub set-taken : {X : Type 0} (d : X) (class : List ℕ) (xs : List X) (at : ℕ) (v : X) (k : ℕ) → get_or class at 0 < length xs → k < at + 1 → (k < at → get_or xs (get_or class k 0) d ≡ v)
    → get_or (set xs (get_or class at 0) v) (get_or class k 0) d ≡ v
set-taken {X} d class xs at v k lt kl old = elim (cases_eq (get_or class k 0) (get_or class at 0)) [
  | inl e ↦ ap (λ (y : ℕ). get_or (set xs (get_or class at 0) v) y d) e ∙ get_or-set_same xs (get_or class at 0) v d lt
  | inr ne ↦ elim (cases_lt k at) [
    | inl l ↦ get_or-set_other xs (get_or class at 0) (get_or class k 0) v d ne ∙ old l
    | inr ge ↦ let is : k ≡ at = omega (arith, kl, ge) in absurd (ne (ap (λ (i : ℕ). get_or class i 0) is))
  ]
]
