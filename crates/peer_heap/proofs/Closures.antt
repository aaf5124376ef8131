-- What a marking reaches so far can be listed: its roots and edges are finite, so it is decided which peers they lead
-- to. A walk over edges of the begin is one over the ends of fields and references alone, each of them a peer that was
-- unfreed then, or a temporary.
use Rattle.std.proofs.Common.{◌≡◌, ℕ, zero, suc, ◌≤◌, ◌<◌, ◌⊎◌, ◌↔◌, inl, inr, List, [], ◌∷◌, ◌++◌, length, map, Option, Some, None, sym, ap, subst, arith}
use Rattle.std.specs.Prelude.{Contains, flat_map}
use Rattle.std.proofs.lemmas.Bool.{cases_eq, cases_lt}
use Rattle.std.proofs.lemmas.List.Elements.{Contains-append_cases, Contains-append_left, Contains-append_right}
use Rattle.joint_machine.specs.Components.{End, Rises, node, temporary}
use Rattle.joint_machine.specs.Heaps.{Heap, HasField, IsLive, fields_of}
use Rattle.joint_machine.specs.PeerReplay.{IsClosure, IsMarked, IsMarkingRoot, LeadsOver, Marking, MarkingEdge}
use Rattle.joint_machine.specs.Walks.{Reaches, Walks}
use Rattle.joint_machine.proofs.Members.{All-members, Contains-cons_cases, Contains-decided, Contains-flat_map, Contains-flat_map_cases, Contains-here, Contains-map, Contains-map_cases, Contains-nil}
use Rattle.joint_machine.proofs.Members.{Contains-there, Rises-push}
use Rattle.joint_machine.proofs.WalkLemmas.{Reaches-edge, Reaches-keeps, Reaches-self, Reaches-trans}
use Rattle.joint_laws.proofs.FiniteReach.{reach_decided}
use Rattle.joint_laws.proofs.Through.{RefEdge, Refers-one, same-node}

-- the members of a list that are such
sift : {X : Type 0} (Q : X → Type 0) → ((x : X) → Q x ⊎ (Q x → ⊥)) → (xs : List X) → (ys : List X) × ((x : X) → Contains ys x ↔ (Contains xs x × Q x))
sift Q test [] = ([], λ x. ((λ c. absurd (Contains-nil x c)), (λ w. absurd (Contains-nil x w.0))))
sift {X} Q test (x ∷ xs) = by (test x) (sift Q test xs)
  where
    by : Q x ⊎ (Q x → ⊥) → (ys : List X) × ((y : X) → Contains ys y ↔ (Contains xs y × Q y)) → (ys : List X) × ((y : X) → Contains ys y ↔ (Contains (x ∷ xs) y × Q y))
    by (inl q) (ys, same) = (
      x ∷ ys,
      λ y. (
        (λ c. elim (Contains-cons_cases x ys y c) [ inl e ↦ (subst (Contains (x ∷ xs)) e (Contains-here x xs), subst Q e q) | inr d ↦ (let w = (same y).0 d in (Contains-there y x xs w.0, w.1)) ]),
        (λ w. elim (Contains-cons_cases x xs y w.0) [ inl e ↦ subst (Contains (x ∷ ys)) e (Contains-here x ys) | inr d ↦ Contains-there y x ys ((same y).1 (d, w.1)) ]),
      ),
    )
    by (inr n) (ys, same) = (
      ys,
      λ y. (
        (λ c. (let w = (same y).0 c in (Contains-there y x xs w.0, w.1))),
        (λ w. elim (Contains-cons_cases x xs y w.0) [ inl e ↦ absurd (n (subst Q (sym e) w.1)) | inr d ↦ (same y).1 (d, w.1) ]),
      ),
    )

-- the numbers up to n that are such, rising
record Numbers (Q : ℕ → Type 0) (n : ℕ) : Type 0 where
  these : List ℕ
  rise : Rises these
  exact : (p : ℕ) → Contains these p ↔ ((1 ≤ p) × (p ≤ n) × Q p)

numbers : (Q : ℕ → Type 0) → ((p : ℕ) → Q p ⊎ (Q p → ⊥)) → (n : ℕ) → Numbers Q n
numbers Q test zero = record { these = []; rise = tt; exact = λ p. ((λ c. absurd (Contains-nil p c)), (λ w. absurd (omega (arith, w.0, w.1)))) }
numbers Q test (suc n) = by (test (suc n)) (numbers Q test n)
  where
    by : Q (suc n) ⊎ (Q (suc n) → ⊥) → Numbers Q n → Numbers Q (suc n)
    by (inl q) m = record {
      these = m.these ++ suc n ∷ [];
      rise = Rises-push m.these (suc n) m.rise (All-members (λ y. y < suc n) m.these (λ y c. (let w = (m.exact y).0 c in let l = w.1 in omega (arith, l))));
      exact = λ p. (
        (λ c. elim (Contains-append_cases m.these (suc n ∷ []) p c) [
          | inl d ↦ (let w = (m.exact p).0 d in let l = w.1 in (w.0, omega (arith, l), w.2))
          | inr d ↦ elim (Contains-cons_cases (suc n) [] p d) [ inl e ↦ (omega (arith, e), omega (arith, e), subst Q e q) | inr z ↦ absurd (Contains-nil p z) ]
        ]),
        (λ w. elim (cases_eq (suc n) p) [
          | inl e ↦ Contains-append_right m.these (suc n ∷ []) p (subst (Contains (suc n ∷ [])) e (Contains-here (suc n) []))
          | inr d ↦ (let l = w.1 in Contains-append_left m.these (suc n ∷ []) p ((m.exact p).1 (w.0, omega (arith, l, d), w.2)))
        ]),
      );
    }
    by (inr out) m = record {
      these = m.these;
      rise = m.rise;
      exact = λ p. (
        (λ c. (let w = (m.exact p).0 c in let l = w.1 in (w.0, omega (arith, l), w.2))),
        (λ w. elim (cases_eq (suc n) p) [ inl e ↦ absurd (out (subst Q (sym e) w.2)) | inr d ↦ (let l = w.1 in (m.exact p).1 (w.0, omega (arith, l, d), w.2)) ]),
      );
    }

-- whether a peer is live
live-decided : (h : Heap) (p : ℕ) → IsLive h p ⊎ (IsLive h p → ⊥)
live-decided h p = elim (cases_lt p 1) [
  | inl l ↦ inr (λ w. (let m = w.made.0 in omega (arith, l, m)))
  | inr one ↦ elim (cases_lt (length h.fields) p) [
    | inl l ↦ inr (λ w. (let m = w.made.1 in omega (arith, l, m)))
    | inr le ↦ elim (Contains-decided h.freed p) [ inl c ↦ inr (λ w. w.kept c) | inr n ↦ inl (record { made = (omega (arith, one), omega (arith, le)); kept = n }) ]
  ]
]

-- the objects that slots or fields name
abbrev named_by : Option ℕ → List ℕ
named_by None = []
named_by (Some x) = x ∷ []

abbrev named : List (Option ℕ) → List ℕ
named xs = flat_map named_by xs

named-to : (xs : List (Option ℕ)) (p : ℕ) → Contains xs (Some p) → Contains (named xs) p
named-to xs p c = Contains-flat_map named_by xs (Some p) p c (Contains-here p [])

named-from : (xs : List (Option ℕ)) (p : ℕ) → Contains (named xs) p → Contains xs (Some p)
named-from xs p c = (let w = Contains-flat_map_cases named_by xs p c in by w.0 w.1 w.2)
  where
    by : (o : Option ℕ) → Contains xs o → Contains (named_by o) p → Contains xs (Some p)
    by None d e = absurd (Contains-nil p e)
    by (Some x) d e = elim (Contains-cons_cases x [] p e) [ inl q ↦ subst (λ z. Contains xs (Some z)) q d | inr z ↦ absurd (Contains-nil p z) ]

-- whether two ends are the same
end-or : (x y : End) → (x ≡ y) ⊎ (x ≡ y → ⊥)
end-or (node x) (node y) = elim (cases_eq x y) [ inl e ↦ inl (ap node e) | inr n ↦ inr (λ e. n (same-node x y e)) ]
end-or (node x) (temporary y) = inr (λ e. absurd (cc))
end-or (temporary x) (node y) = inr (λ e. absurd (cc))
end-or (temporary x) (temporary y) = elim (cases_eq x y) [ inl e ↦ inl (ap temporary e) | inr n ↦ inr (λ e. n (let same : x ≡ y = cc in same)) ]

module _ (mk : Marking) where
  -- a temporary, or a peer that was unfreed at the begin
  abbrev IsThere : End → Type 0
  IsThere (node x) = IsLive mk.heap x
  IsThere (temporary t) = Unit {0}

  there-or : (e : End) → IsThere e ⊎ (IsThere e → ⊥)
  there-or (node x) = live-decided mk.heap x
  there-or (temporary t) = inl tt

  abbrev AreThere : End × End → Type 0
  AreThere e = IsThere e.0 × IsThere e.1

  both-or : (e : End × End) → AreThere e ⊎ (AreThere e → ⊥)
  both-or e = elim (there-or e.0) [
    | inl a ↦ elim (there-or e.1) [ inl b ↦ inl (a, b) | inr n ↦ inr (λ w. n w.1) ]
    | inr n ↦ inr (λ w. n w.0)
  ]

  -- a field of a peer, from end to end
  abbrev field_from : ℕ → ℕ → End × End
  field_from x y = (node x, node y)

  abbrev fields_at : ℕ → List (End × End)
  fields_at x = map (field_from x) (named (fields_of mk.heap x))

  live-ones : Numbers (IsLive mk.heap) (length mk.heap.fields)
  live-ones = numbers (IsLive mk.heap) (live-decided mk.heap) (length mk.heap.fields)

  abbrev every : List (End × End)
  every = flat_map fields_at live-ones.these ++ mk.refs

  -- those between ends that are there
  listing : (ys : List (End × End)) × ((e : End × End) → Contains ys e ↔ (Contains every e × AreThere e))
  listing = sift AreThere both-or every

  abbrev steps : List (End × End)
  steps = listing.0

  step-field : (x y : ℕ) → HasField mk.heap x y → Contains steps (node x, node y)
  step-field x y f =
      let at = (live-ones.exact x).1 (f.live.made.0, f.live.made.1, f.live) in
      let there = Contains-map (field_from x) (named (fields_of mk.heap x)) y (named-to (fields_of mk.heap x) y f.field) in
      (listing.1 (node x, node y)).1 (
        Contains-append_left (flat_map fields_at live-ones.these) mk.refs (node x, node y) (Contains-flat_map fields_at live-ones.these x (node x, node y) at there),
        (f.live, f.there),
      )

  step-ref : (a b : End) → Contains mk.refs (a, b) → IsThere a → IsThere b → Contains steps (a, b)
  step-ref a b c u v = (listing.1 (a, b)).1 (Contains-append_right (flat_map fields_at live-ones.these) mk.refs (a, b) c, (u, v))

  abbrev IsFieldOf : End → End → Type 0
  IsFieldOf a b = (x : ℕ) × (y : ℕ) × (node x ≡ a) × (node y ≡ b) × Contains (fields_of mk.heap x) (Some y)

  step-cases : (a b : End) → Contains steps (a, b) → (IsFieldOf a b ⊎ Contains mk.refs (a, b)) × IsThere a × IsThere b
  step-cases a b c = (let w = (listing.1 (a, b)).0 c in (cases w.0, w.1.0, w.1.1))
    where
      cases : Contains every (a, b) → IsFieldOf a b ⊎ Contains mk.refs (a, b)
      cases d = elim (Contains-append_cases (flat_map fields_at live-ones.these) mk.refs (a, b) d) [
        | inl f ↦ (
            let at = Contains-flat_map_cases fields_at live-ones.these (a, b) f in
            let to = Contains-map_cases (field_from at.0) (named (fields_of mk.heap at.0)) (a, b) at.2 in
            inl (at.0, to.0, ap (λ (e : End × End). e.0) to.2, ap (λ (e : End × End). e.1) to.2, named-from (fields_of mk.heap at.0) to.0 to.1))
        | inr r ↦ inr r
      ]

  -- an edge of the marking is a walk over them
  over : (e : End) (ts : List ℕ) (q : ℕ) → IsThere e → IsLive mk.heap q → LeadsOver mk.refs e ts q → Reaches (RefEdge steps) e (node q)
  over e [] q u v w = Reaches-edge (RefEdge steps) e (node q) (step-ref e (node q) w u v)
  over e (t ∷ ts) q u v w = Reaches-trans (RefEdge steps) e (temporary t) (node q) (Reaches-edge (RefEdge steps) e (temporary t) (step-ref e (temporary t) w.0 u tt)) (over (temporary t) ts q tt v w.1)

  edge-walk : (x y : ℕ) → MarkingEdge mk x y → Reaches (RefEdge steps) (node x) (node y)
  edge-walk x y e = elim e [ inl f ↦ Reaches-edge (RefEdge steps) (node x) (node y) (step-field x y f) | inr r ↦ over (node x) r.reference.through y r.live r.there r.reference.walk ]

  walk-to : (a b : ℕ) → Reaches (MarkingEdge mk) a b → Reaches (RefEdge steps) (node a) (node b)
  walk-to a b r = Reaches-keeps (MarkingEdge mk) (λ v. Reaches (RefEdge steps) (node a) (node v))
      (λ u v e q. Reaches-trans (RefEdge steps) (node a) (node u) (node v) q (edge-walk u v e)) a b r (Reaches-self (RefEdge steps) (node a))

  -- and a walk over them from peer to peer is one over edges of the marking
  abbrev Onward : End → ℕ → Type 0
  Onward (node x) b = Reaches (MarkingEdge mk) x b
  Onward (temporary t) b = (y : ℕ) × (ts : List ℕ) × LeadsOver mk.refs (temporary t) ts y × IsLive mk.heap y × Reaches (MarkingEdge mk) y b

  onward-end : (e : End) (b : ℕ) → e ≡ node b → Onward e b
  onward-end (node x) b e = subst (λ z. Reaches (MarkingEdge mk) x z) (same-node x b e) (Reaches-self (MarkingEdge mk) x)
  onward-end (temporary t) b e = absurd (cc)

  one-edge : (x y : ℕ) → Contains steps (node x, node y) → MarkingEdge mk x y
  one-edge x y c =
      let w = step-cases (node x) (node y) c in
      elim w.0 [
        | inl f ↦ inl (record {
          live = w.1;
          field = subst (λ u. Contains (fields_of mk.heap u) (Some y)) (same-node f.0 x f.2)
              (subst (λ v. Contains (fields_of mk.heap f.0) (Some v)) (same-node f.1 y f.3) f.4);
          there = w.2;
        })
        | inr d ↦ inr (record { live = w.1; reference = Refers-one mk.refs x y d; there = w.2 })
      ]

  node-not : (x t : ℕ) → node x ≡ temporary t → ⊥
  node-not x t e = cc

  onward-step : (e z : End) (b : ℕ) → Contains steps (e, z) → Onward z b → Onward e b
  onward-step (node x) (node y) b c r = Reaches-trans (MarkingEdge mk) x y b (Reaches-edge (MarkingEdge mk) x y (one-edge x y c)) r
  onward-step (node x) (temporary u) b c r =
      let w = step-cases (node x) (temporary u) c in
      elim w.0 [
        | inl f ↦ absurd (node-not f.1 u f.3)
        | inr d ↦ Reaches-trans (MarkingEdge mk) x r.0 b (Reaches-edge (MarkingEdge mk) x r.0 (inr (record { live = w.1; reference = record { through = u ∷ r.1; walk = (d, r.2) }; there = r.3 }))) r.4
      ]
  onward-step (temporary t) (node y) b c r = (let w = step-cases (temporary t) (node y) c in elim w.0 [ inl f ↦ absurd (node-not f.0 t f.2) | inr d ↦ (y, [], d, w.2, r) ])
  onward-step (temporary t) (temporary u) b c r = (let w = step-cases (temporary t) (temporary u) c in elim w.0 [ inl f ↦ absurd (node-not f.0 t f.2) | inr d ↦ (r.0, u ∷ r.1, (d, r.2), r.3, r.4) ])

  onward : (e : End) (rows : List End) (b : ℕ) → Walks (RefEdge steps) e rows (node b) → Onward e b
  onward e [] b w = onward-end e b w
  onward e (z ∷ zs) b w = onward-step e z b w.0 (onward z zs b w.1)

  -- the roots
  abbrev roots : List ℕ
  roots = named mk.heap.vars ++ (named mk.heap.statics ++ (mk.strong_peers ++ mk.brought))

  root-in : (p : ℕ) → IsMarkingRoot mk p → Contains roots p
  root-in p r = elim r [
    | inl slot ↦ elim slot [
      | inl c ↦ Contains-append_left (named mk.heap.vars) (named mk.heap.statics ++ (mk.strong_peers ++ mk.brought)) p (named-to mk.heap.vars p c)
      | inr c ↦ Contains-append_right (named mk.heap.vars) (named mk.heap.statics ++ (mk.strong_peers ++ mk.brought)) p
          (Contains-append_left (named mk.heap.statics) (mk.strong_peers ++ mk.brought) p (named-to mk.heap.statics p c))
    ]
    | inr more ↦ Contains-append_right (named mk.heap.vars) (named mk.heap.statics ++ (mk.strong_peers ++ mk.brought)) p
        (Contains-append_right (named mk.heap.statics) (mk.strong_peers ++ mk.brought) p
        (elim more [ inl c ↦ Contains-append_left mk.strong_peers mk.brought p c | inr c ↦ Contains-append_right mk.strong_peers mk.brought p c ]))
  ]

  root-from : (p : ℕ) → Contains roots p → IsMarkingRoot mk p
  root-from p c = elim (Contains-append_cases (named mk.heap.vars) (named mk.heap.statics ++ (mk.strong_peers ++ mk.brought)) p c) [
    | inl a ↦ inl (inl (named-from mk.heap.vars p a))
    | inr d ↦ elim (Contains-append_cases (named mk.heap.statics) (mk.strong_peers ++ mk.brought) p d)
        [ inl a ↦ inl (inr (named-from mk.heap.statics p a)) | inr e ↦ inr (Contains-append_cases mk.strong_peers mk.brought p e) ]
  ]

  -- whether one of these reaches a peer
  from-root : (xs : List ℕ) (p : ℕ) → ((r : ℕ) × Contains xs r × Reaches (MarkingEdge mk) r p) ⊎ ((r : ℕ) → Contains xs r → Reaches (MarkingEdge mk) r p → ⊥)
  from-root [] p = inr (λ r c w. Contains-nil r c)
  from-root (x ∷ xs) p = elim (reach_decided end-or steps (node x) (node p)) [
    | inl r ↦ inl (x, Contains-here x xs, onward (node x) r.rows p r.walk)
    | inr n ↦ elim (from-root xs p) [
      | inl w ↦ inl (w.0, Contains-there w.0 x xs w.1, w.2)
      | inr m ↦ inr (λ r c w. elim (Contains-cons_cases x xs r c) [ inl e ↦ n (walk-to x p (subst (λ z. Reaches (MarkingEdge mk) z p) (sym e) w)) | inr d ↦ m r d w ])
    ]
  ]

  marked-or : (p : ℕ) → IsMarked mk p ⊎ (IsMarked mk p → ⊥)
  marked-or p = elim (live-decided mk.heap p) [
    | inl l ↦ elim (from-root roots p) [
      | inl w ↦ inl (record { existed = l; reached = record { root = w.0; starts = root-from w.0 w.1; reaches = w.2 } })
      | inr n ↦ inr (λ m. n m.reached.root (root-in m.reached.root m.reached.starts) m.reached.reaches)
    ]
    | inr n ↦ inr (λ m. n m.existed)
  ]

  pub closure-of : (closure : List ℕ) × IsClosure mk closure
  closure-of =
      let c = numbers (IsMarked mk) marked-or (length mk.heap.fields) in
      (c.these, record { rise = c.rise; exact = λ p. ((λ d. ((c.exact p).0 d).2), (λ m. (c.exact p).1 (m.existed.made.0, m.existed.made.1, m))) })
