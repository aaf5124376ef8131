-- The edges of the graph over all numbers: one for each field of a live row of the dead part that leads to such a row.
use Rattle.std.proofs.Common.{◌≡◌, ◌↔◌, ◌⊎◌, inl, inr, ℕ, ◌+◌, ◌<◌, ◌≤◌, true, List, [], ◌∷◌, ◌++◌, length, take, set, get_or, Option, Some, sym, ap, ◌∙◌, subst}
use Rattle.std.specs.Prelude.{Contains, slice_get}
use Rattle.std.proofs.lemmas.Bool.{cases_eq}
use Rattle.std.proofs.lemmas.List.{get_or-set_same, get_or-set_other, take_all}
use Rattle.std.proofs.lemmas.List.Elements.{Contains-append_left, Contains-push, Contains-push_cases}
use Rattle.joint_machine.specs.Cycles.{DeadEdge}
use Rattle.joint_machine.specs.Heaps.{HasField, IsLive, fields_of}
use Rattle.joint_machine.specs.Managed.{Managed}
use Rattle.joint_machine.proofs.Members.{Contains-at, take-next}
use Rattle.joint_replay.specs.Plain.{dead_of, kept_target}
use Rattle.joint_replay.proofs.Finding.{kept-live, live-kept}
use Rattle.bridge_graph.specs.Parts.{NodeLeads}
use Rattle.heap_views.specs.Mirrored.{HasDead, is_dead}
use Rattle.heap_views.proofs.Nodes.{dead-true, true-dead}

-- a row of edges gets one more
leads-more : (es : List (List ℕ)) (from to a k : ℕ) → from < length es → NodeLeads (set es from (get_or es from [] ++ to ∷ [])) a k ↔ (NodeLeads es a k ⊎ ((a ≡ from) × (k ≡ to)))
leads-more es from to a k l = elim (cases_eq a from) [
  | inl s ↦ (
      let row : get_or (set es from (get_or es from [] ++ to ∷ [])) a [] ≡ get_or es a [] ++ to ∷ [] = ap (λ z. get_or (set es from (get_or es from [] ++ to ∷ [])) z []) s
      ∙ (get_or-set_same es from (get_or es from [] ++ to ∷ []) [] l ∙ ap (λ z. get_or es z [] ++ to ∷ []) (sym s)) in (
        λ c. elim (Contains-push_cases (get_or es a []) to k (subst (λ xs. Contains xs k) row c)) [ inl o ↦ inl o | inr e ↦ inr (s, sym e) ],
        λ c. subst (λ xs. Contains xs k) (sym row) (elim c [
          | inl o ↦ Contains-append_left (get_or es a []) (to ∷ []) k o
          | inr e ↦ subst (λ z. Contains (get_or es a [] ++ to ∷ []) z) (sym e.1) (Contains-push (get_or es a []) to)
        ]),
      ))
  | inr n ↦ (
      let row : get_or (set es from (get_or es from [] ++ to ∷ [])) a [] ≡ get_or es a [] = get_or-set_other es from a (get_or es from [] ++ to ∷ []) [] n in (
        λ c. inl (subst (λ xs. Contains xs k) row c),
        λ c. elim c [ inl o ↦ subst (λ xs. Contains xs k) (sym row) o | inr e ↦ absurd (n e.0) ],
      ))
]

-- the edge to the row that a field leads to
pub target-more : (s : Managed) (es : List (List ℕ)) (m y a k : ℕ) → m < length es → is_dead s y ≡ true
    → NodeLeads (set es m (get_or es m [] ++ y ∷ [])) a k ↔ (NodeLeads es a k ⊎ ((a ≡ m) × (Some y ≡ Some k) × (is_dead s k ≡ true)))
target-more s es m y a k l d =
    let more = leads-more es m y a k l in (
      λ c. elim (more.0 c) [ inl o ↦ inl o | inr e ↦ inr (e.0, ap Some (sym e.1), subst (λ z. is_dead s z ≡ true) (sym e.1) d) ],
      λ c. more.1 (elim c [ inl o ↦ inl o | inr e ↦ inr (e.0, (let f = e.1 in cc)) ]),
    )

-- one field more
pub fields-more : (s : Managed) (fields : List (Option ℕ)) (j m : ℕ) (o : Option ℕ) (old mid new : List (List ℕ)) → slice_get fields j ≡ Some o
    → ((a k : ℕ) → NodeLeads mid a k ↔ (NodeLeads old a k ⊎ ((a ≡ m) × HasDead s (take j fields) k)))
    → ((a k : ℕ) → NodeLeads new a k ↔ (NodeLeads mid a k ⊎ ((a ≡ m) × (kept_target s.heap o ≡ Some k) × (is_dead s k ≡ true))))
    → (a k : ℕ) → NodeLeads new a k ↔ (NodeLeads old a k ⊎ ((a ≡ m) × HasDead s (take (j + 1) fields) k))
fields-more s fields j m o old mid new at f g a k =
    let longer : take (j + 1) fields ≡ take j fields ++ o ∷ [] = take-next fields j o at in (
      λ c. elim ((g a k).0 c) [
        | inl x ↦ elim ((f a k).0 x) [
          | inl y ↦ inl y
          | inr p ↦ inr (p.0, (p.1.0, subst (λ xs. Contains xs p.1.0) (sym longer) (Contains-append_left (take j fields) (o ∷ []) p.1.0 p.1.1), p.1.2, p.1.3))
        ]
        | inr p ↦ inr (p.0, (o, subst (λ xs. Contains xs o) (sym longer) (Contains-push (take j fields) o), p.1, p.2))
      ],
      λ c. elim c [
        | inl x ↦ (g a k).1 (inl ((f a k).1 (inl x)))
        | inr p ↦ elim (Contains-push_cases (take j fields) o p.1.0 (subst (λ xs. Contains xs p.1.0) longer p.1.1)) [
          | inl d ↦ (g a k).1 (inl ((f a k).1 (inr (p.0, (p.1.0, d, p.1.2, p.1.3)))))
          | inr e ↦ (g a k).1 (inr (p.0, subst (λ z. kept_target s.heap z ≡ Some k) (sym e) p.1.2, p.1.3))
        ]
      ],
    )

-- the fields of a live row
pub row-fields : (s : Managed) (m : ℕ) (old new : List (List ℕ)) → IsLive s.heap m
    → ((a k : ℕ) → NodeLeads new a k ↔ (NodeLeads old a k ⊎ ((a ≡ m) × HasDead s (fields_of s.heap m) k)))
    → (a k : ℕ) → NodeLeads new a k ↔ (NodeLeads old a k ⊎ ((a ≡ m) × HasField s.heap m k × Contains (dead_of s) k))
row-fields s m old new live f a k = (
  λ c. elim ((f a k).0 c) [
    | inl o ↦ inl o
    | inr p ↦ (
        let t = kept-live s.heap p.1.0 k p.1.2 in
        inr (p.0, record { live = live; field = subst (λ z. Contains (fields_of s.heap m) z) t.0 p.1.1; there = t.1 }, true-dead s k p.1.3))
  ],
  λ c. (f a k).1 (elim c [ inl o ↦ inl o | inr p ↦ inr (p.0, (Some k, p.1.field, live-kept s.heap k p.1.there, dead-true s k p.2)) ]),
)

-- one row more
pub rows-more : (s : Managed) (i m : ℕ) (mid new : List (List ℕ)) → slice_get (dead_of s) i ≡ Some m
    → ((a k : ℕ) → NodeLeads mid a k ↔ (Contains (take i (dead_of s)) a × DeadEdge s (dead_of s) a k))
    → ((a k : ℕ) → NodeLeads new a k ↔ (NodeLeads mid a k ⊎ ((a ≡ m) × HasField s.heap m k × Contains (dead_of s) k)))
    → (a k : ℕ) → NodeLeads new a k ↔ (Contains (take (i + 1) (dead_of s)) a × DeadEdge s (dead_of s) a k)
rows-more s i m mid new at f g a k =
    let dead = dead_of s in
    let longer : take (i + 1) dead ≡ take i dead ++ m ∷ [] = take-next dead i m at in (
      λ c. elim ((g a k).0 c) [
        | inl x ↦ (
            let w = (f a k).0 x in
            (subst (λ xs. Contains xs a) (sym longer) (Contains-append_left (take i dead) (m ∷ []) a w.0), w.1))
        | inr p ↦ (
            let last : Contains (take (i + 1) dead) m = subst (λ xs. Contains xs m) (sym longer) (Contains-push (take i dead) m) in
            let edge : DeadEdge s dead m k = (p.1, Contains-at dead i m at, p.2) in
            (subst (λ z. Contains (take (i + 1) dead) z) (sym p.0) last, subst (λ z. DeadEdge s dead z k) (sym p.0) edge))
      ],
      λ c. (g a k).1 (elim (Contains-push_cases (take i dead) m a (subst (λ xs. Contains xs a) longer c.0)) [
        | inl w ↦ inl ((f a k).1 (w, c.1))
        | inr e ↦ inr (sym e, subst (λ z. HasField s.heap z k) (sym e) c.1.0, c.1.2)
      ]),
    )

-- behind the last row
pub rows-all : (s : Managed) (n : ℕ) (es : List (List ℕ)) → length (dead_of s) ≤ n
    → ((a k : ℕ) → NodeLeads es a k ↔ (Contains (take n (dead_of s)) a × DeadEdge s (dead_of s) a k))
    → (a k : ℕ) → NodeLeads es a k ↔ DeadEdge s (dead_of s) a k
rows-all s n es l f a k =
    let all : take n (dead_of s) ≡ dead_of s = take_all n (dead_of s) l in (
      λ c. ((f a k).0 c).1,
      λ d. (f a k).1 (subst (λ xs. Contains xs a) (sym all) d.1, d),
    )
