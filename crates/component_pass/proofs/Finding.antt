-- Edges and walks inside a class; and marks: the list of what was found grows by what is marked, each once.
use Rattle.std.proofs.Common.{◌≡◌, ℕ, suc, zero, ◌+◌, ◌<◌, Bool, true, false, List, [], ◌∷◌, ◌++◌, length, get_or, set, refl, sym, ◌∙◌, subst, arith, inl, inr}
use Rattle.std.proofs.lemmas.List.{length_push, length-set, get_or-set_same, get_or-set_other, get_or_past, append-nil, append_assoc}
use Rattle.std.proofs.lemmas.List.Elements.{All-nil, All-push, All-weaker, Contains-append_left, Contains-push}
use Rattle.std.proofs.lemmas.Bool.{cases_lt, cases_eq, true≢false}
use Rattle.std.specs.List.{All, Contains}
use Rattle.joint_machine.specs.Walks.{Walks, Reaches, Mutual}
use Rattle.joint_machine.proofs.WalkLemmas.{Reaches-then, Reaches-trans}
use Rattle.bridge_graph.specs.Parts.{NodeLeads}
use Rattle.component_pass.specs.Searching.{unmarked, AreMarked, Visits}

-- an edge begins at a node
pub leads_from : (edges : List (List ℕ)) (x y : ℕ) → NodeLeads edges x y → x < length edges
leads_from edges x y l =
    elim (cases_lt x (length edges)) [
      | inl lt ↦ lt
      | inr ge ↦ let u = subst (λ (r : List ℕ). Contains r y) (get_or_past edges x [] ge) l in absurd (omega (arith, u.1))
    ]

-- where each edge from a node of the class of x is a step, a walk inside the class is one by steps
pub walk_inside : (edge step : ℕ → ℕ → Type 0) (count x : ℕ) → ((u v : ℕ) → edge u v → v < count) → ((u v : ℕ) → u < count → Mutual edge x u → edge u v → step u v)
    → (u to : ℕ) (rows : List ℕ) → u < count → Reaches step x u → Mutual edge x u → Walks edge u rows to → Reaches edge to x → Reaches step x to
walk_inside edge step count x within takes u to [] lt r m w back = subst (λ (v : ℕ). Reaches step x v) w r
walk_inside edge step count x within takes u to (z ∷ rows) lt r m w back =
    walk_inside edge step count x within takes z to rows (within u z w.0) (Reaches-then step x u z r (takes u z lt m w.0))
    (record { there = Reaches-then edge x u z m.there w.0; back = Reaches-trans edge z to x (record { rows = rows; walk = w.1 }) back })
    w.1 back

-- marking one node more
pub unmarked-set : (marks : List Bool) (y : ℕ) → y < length marks → get_or marks y false ≡ false → unmarked (set marks y true) + 1 ≡ unmarked marks
unmarked-set [] y lt f = absurd (omega arith)
unmarked-set (m ∷ marks) zero lt f = rw f (omega arith)
unmarked-set (m ∷ marks) (suc y) lt f = omega (arith, unmarked-set marks y (omega (arith, lt)) f)

pub marked_more : (marks : List Bool) (found : List ℕ) (y : ℕ) → y < length marks → get_or marks y false ≡ false → AreMarked marks found → AreMarked (set marks y true) (found ++ y ∷ [])
marked_more marks found y lt f a = record {
  listed = λ z t. elim (cases_eq z y) [
    | inl e ↦ rw e (Contains-push found y)
    | inr ne ↦ Contains-append_left found (y ∷ []) z (a.listed z (sym (get_or-set_other marks y z true false ne) ∙ t))
  ];
  marked = All-push (λ z. get_or (set marks y true) z false ≡ true) found y
      (All-weaker (λ z. get_or marks z false ≡ true) (λ z. get_or (set marks y true) z false ≡ true) (λ z t. elim (cases_eq z y) [
        | inl e ↦ rw e (get_or-set_same marks y true false lt)
        | inr ne ↦ get_or-set_other marks y z true false ne ∙ t
      ]) found a.marked)
      (get_or-set_same marks y true false lt);
  count = omega (arith, a.count, length_push found y, length-set marks y true, unmarked-set marks y lt f);
}

pub visits_none : (found : List ℕ) → Visits [] found found
visits_none found = record { more = []; appended = sym (append-nil found); from_row = All-nil (Contains []); whole = All-nil (Contains found) }

-- a further node of the row, which is listed already
pub visits_old : (row before after : List ℕ) (y : ℕ) → Contains after y → Visits row before after → Visits (row ++ y ∷ []) before after
visits_old row before after y h v = record {
  more = v.more;
  appended = v.appended;
  from_row = All-weaker (Contains row) (Contains (row ++ y ∷ [])) (λ z c. Contains-append_left row (y ∷ []) z c) v.more v.from_row;
  whole = All-push (Contains after) row y v.whole h;
}

-- a further node of the row, which is listed now
pub visits_new : (row before after : List ℕ) (y : ℕ) → Visits row before after → Visits (row ++ y ∷ []) before (after ++ y ∷ [])
visits_new row before after y v = record {
  more = v.more ++ y ∷ [];
  appended = rw v.appended (append_assoc before v.more (y ∷ []));
  from_row = All-push (Contains (row ++ y ∷ [])) v.more y
      (All-weaker (Contains row) (Contains (row ++ y ∷ [])) (λ z c. Contains-append_left row (y ∷ []) z c) v.more v.from_row)
      (Contains-push row y);
  whole = All-push (Contains (after ++ y ∷ [])) row y
      (All-weaker (Contains after) (Contains (after ++ y ∷ [])) (λ z c. Contains-append_left after (y ∷ []) z c) row v.whole)
      (Contains-push after y);
}

unmarked-clear : (marks : List Bool) → All (λ m. m ≡ false) marks → unmarked marks ≡ length marks
unmarked-clear [] h = refl
unmarked-clear (m ∷ marks) h = rw (h 0 m (omega arith)) (omega (arith, unmarked-clear marks (λ k d lt. h (suc k) d (omega (arith, lt)))))

pub marked_none : (marks : List Bool) → All (λ m. m ≡ false) marks → AreMarked marks []
marked_none marks h = record {
  listed = λ y t. elim (cases_lt y (length marks)) [
    | inl lt ↦ absurd (true≢false (sym t ∙ h y false lt))
    | inr ge ↦ absurd (true≢false (sym t ∙ get_or_past marks y false ge))
  ];
  marked = All-nil (λ y. get_or marks y false ≡ true);
  count = omega (arith, unmarked-clear marks h);
}
