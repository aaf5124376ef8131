-- The search against the edges labels just the class of its root, where the root was finished last among the nodes
-- without a label. What it labels reaches the root, and so is of its class, by the order of finishing; and a walk of
-- the class to the root is gone back along edge by edge.
use Rattle.std.proofs.Common.{◌≡◌, ◌≢◌, ◌↔◌, ◌⊎◌, ℕ, suc, zero, ◌+◌, ◌<◌, ◌≤◌, List, [], ◌∷◌, ◌++◌, Some, length, get_or, set, refl, sym, ◌∙◌, ap, subst, arith, inl, inr, eq-eqb}
use Rattle.std.specs.Prelude.{All, Contains}
use Rattle.std.proofs.lemmas.Bool.{cases_lt, cases_eq}
use Rattle.std.proofs.lemmas.List.{length_push, length-set, get_or-set_same, get_or-set_other, get_or_past, get_or_default}
use Rattle.std.proofs.lemmas.List.Elements.{Contains-append_left, Contains-push, Contains-push_cases}
use Rattle.std.proofs.lemmas.Option.{slice_get-get_or, slice_get_within, get_or_from_slice_get}
use Rattle.joint_machine.specs.Walks.{Walks, Reaches, Mutual}
use Rattle.joint_machine.proofs.Deciding.{neq-eqb}
use Rattle.joint_machine.proofs.Members.{Contains-nil, Contains-here}
use Rattle.joint_machine.proofs.WalkLemmas.{Reaches-self, Reaches-then, Reaches-trans, Reaches-edge, Mutual-self, Mutual-sym, Mutual-trans}
use Rattle.bridge_graph.specs.Parts.{NodeLeads}
use Rattle.compare_pass.specs.Classes.{AreClasses}
use Rattle.compare_pass.specs.Labelling.{AreLabelled, IsBare, IsSpreading, Labels, bare}
use Rattle.compare_pass.specs.Searches.{IsFinishingOrder}
use Rattle.compare_pass.proofs.Reaching.{leads_from}
use Rattle.compare_pass.proofs.Serving.{IsLastOpen, roots}

decided : (labels : List ℕ) (x : ℕ) → IsBare labels x ⊎ ¬ IsBare labels x
decided labels x = cases_eq (get_or labels x 0) 4294967295

-- a node without a label is a node
pub bare-below : (labels : List ℕ) (x : ℕ) → IsBare labels x → x < length labels
bare-below labels x b = elim (cases_lt x (length labels)) [
  | inl l ↦ l
  | inr ge ↦ absurd (omega (arith, b, get_or_past labels x 0 ge))
]

-- what has the value of another has its label or has none
same-bare : (a b : List ℕ) (x : ℕ) → get_or b x 0 ≡ get_or a x 0 → ¬ IsBare a x → ¬ IsBare b x
same-bare a b x e n m = n (sym e ∙ m)

bare-set : (labels : List ℕ) (y v : ℕ) → y < length labels → IsBare labels y → v ≢ 4294967295 → bare (set labels y v) + 1 ≡ bare labels
bare-set [] y v lt f n = absurd (omega arith)
bare-set (l ∷ labels) zero v lt f n = rw (eq-eqb l 4294967295 f, neq-eqb v 4294967295 n) (omega arith)
bare-set (l ∷ labels) (suc y) v lt f n = omega (arith, bare-set labels y v (omega (arith, lt)) f n)

-- going over a row
pub labels-none : (label : ℕ) (labels waiting : List ℕ) → Labels [] label labels waiting labels waiting
labels-none label labels waiting = record {
  size = refl;
  kept = λ x n. refl;
  fresh = λ x b n. absurd (n b);
  waits = λ x c. c;
  from = λ x c. inl c;
  whole = λ x c. absurd (Contains-nil x c);
  count = refl;
}

-- a further node of the row, which has a label
pub labels-old : (row : List ℕ) (label y : ℕ) (before waiting labels more : List ℕ) → ¬ IsBare labels y → Labels row label before waiting labels more
    → Labels (row ++ y ∷ []) label before waiting labels more
labels-old row label y before waiting labels more h l = record {
  size = l.size;
  kept = l.kept;
  fresh = λ x b n. let f = l.fresh x b n in (f.0, Contains-append_left row (y ∷ []) x f.1, f.2);
  waits = l.waits;
  from = l.from;
  whole = λ x c. elim (Contains-push_cases row y x c) [ inl d ↦ l.whole x d | inr e ↦ subst (λ z. ¬ IsBare labels z) e h ];
  count = l.count;
}

-- one that has none, and gets it
pub labels-new : (row : List ℕ) (label y : ℕ) (before waiting labels more : List ℕ) → IsBare labels y → label ≢ 4294967295 → Labels row label before waiting labels more
    → Labels (row ++ y ∷ []) label before waiting (set labels y label) (more ++ y ∷ [])
labels-new row label y before waiting labels more b apart l =
    let lt : y < length labels = bare-below labels y b in
    let here : get_or (set labels y label) y 0 ≡ label = get_or-set_same labels y label 0 lt in
    let named : ¬ IsBare (set labels y label) y = (λ m. apart (sym here ∙ m)) in
    let other : (x : ℕ) → ¬ IsBare labels x → get_or (set labels y label) x 0 ≡ get_or labels x 0 = (λ x n. get_or-set_other labels y x label 0 (λ e. n (subst (λ z. IsBare labels z) (sym e) b))) in
    let still : (x : ℕ) → ¬ IsBare labels x → ¬ IsBare (set labels y label) x = (λ x n. same-bare labels (set labels y label) x (other x n) n) in
    let before-y : IsBare before y = elim (decided before y) [ inl t ↦ t | inr n ↦ absurd (same-bare before labels y (l.kept y n) n b) ] in
    record {
      size = length-set labels y label ∙ l.size;
      kept = λ x n. other x (same-bare before labels x (l.kept x n) n) ∙ l.kept x n;
      fresh = λ x bx n. elim (cases_eq x y) [
        | inl e ↦ (
          ap (λ z. get_or (set labels y label) z 0) e ∙ here,
          subst (λ z. Contains (row ++ y ∷ []) z) (sym e) (Contains-push row y),
          subst (λ z. Contains (more ++ y ∷ []) z) (sym e) (Contains-push more y),
        )
        | inr ne ↦
            let same : get_or (set labels y label) x 0 ≡ get_or labels x 0 = get_or-set_other labels y x label 0 ne in
            let f = l.fresh x bx (λ m. n (same ∙ m)) in
            (same ∙ f.0, Contains-append_left row (y ∷ []) x f.1, Contains-append_left more (y ∷ []) x f.2)
      ];
      waits = λ x c. Contains-append_left more (y ∷ []) x (l.waits x c);
      from = λ x c. elim (Contains-push_cases more y x c) [
        | inl d ↦ elim (l.from x d) [ inl w ↦ inl w | inr p ↦ inr (p.0, still x p.1) ]
        | inr e ↦ inr (subst (λ z. IsBare before z) e before-y, subst (λ z. ¬ IsBare (set labels y label) z) e named)
      ];
      whole = λ x c. elim (Contains-push_cases row y x c) [
        | inl d ↦ still x (l.whole x d)
        | inr e ↦ subst (λ z. ¬ IsBare (set labels y label) z) e named
      ];
      count = omega (arith, l.count, length_push more y, bare-set labels y label lt b apart);
    }

-- the root is labelled first
pub spread-first : (edges : List (List ℕ)) (root : ℕ) (before : List ℕ) → root ≢ 4294967295 → IsBare before root → IsSpreading edges root before (set before root root) (root ∷ [])
spread-first edges root before apart b =
    let lt = bare-below before root b in
    let here : get_or (set before root root) root 0 ≡ root = get_or-set_same before root root 0 lt in
    let only : (x : ℕ) → IsBare before x → ¬ IsBare (set before root root) x
    → x ≡ root = (λ x bx n. elim (cases_eq x root) [ inl e ↦ e | inr ne ↦ absurd (n (get_or-set_other before root x root 0 ne ∙ bx)) ]) in
    record {
      size = length-set before root root;
      here = here;
      kept = λ x n. get_or-set_other before root x root 0 (λ e. n (subst (λ z. IsBare before z) (sym e) b));
      sound = λ x bx n. let e = only x bx n in (ap (λ z. get_or (set before root root) z 0) e ∙ here, subst (λ z. Reaches (NodeLeads edges) z root) (sym e) (Reaches-self (NodeLeads edges) root));
      closed = λ x y by n e. inr (subst (λ z. Contains (root ∷ []) z) (sym (only y by n)) (Contains-here root []));
      found = λ x c. elim (Contains-push_cases [] root x c) [
        | inl d ↦ absurd (Contains-nil x d)
        | inr e ↦ (subst (λ z. IsBare before z) e b, subst (λ z. ¬ IsBare (set before root root) z) e (λ m. apart (sym here ∙ m)))
      ];
    }

-- all that leads to a node that waited is labelled
pub spread-row : (edges : List (List ℕ)) (root x : ℕ) (row before labels waiting after more : List ℕ) → root ≢ 4294967295 → ((u : ℕ) → Contains row u ↔ NodeLeads edges u x)
    → Labels row root labels waiting after more → IsSpreading edges root before labels (waiting ++ x ∷ []) → IsSpreading edges root before after more
spread-row edges root x row before labels waiting after more apart r l s =
    let still : (z : ℕ) → ¬ IsBare labels z → ¬ IsBare after z = (λ z n. same-bare labels after z (l.kept z n) n) in
    let old : (z : ℕ) → ¬ IsBare before z → ¬ IsBare labels z = (λ z n. same-bare before labels z (s.kept z n) n) in
    let at_root : ¬ IsBare labels root = (λ m. apart (sym s.here ∙ m)) in
    let now : ¬ IsBare labels x × IsBare before x = (let f = s.found x (Contains-push waiting x) in (f.1, f.0)) in
    record {
      size = l.size ∙ s.size;
      here = l.kept root at_root ∙ s.here;
      kept = λ z n. l.kept z (old z n) ∙ s.kept z n;
      sound = λ z bz n. elim (decided labels z) [
        | inl b ↦ (
            let f = l.fresh z b n in
            (f.0, Reaches-trans (NodeLeads edges) z x root (Reaches-edge (NodeLeads edges) z x ((r z).0 f.1)) (s.sound x now.1 now.0).1))
        | inr k ↦ (let t = s.sound z bz k in (l.kept z k ∙ t.0, t.1))
      ];
      closed = λ z y by n e. elim (decided labels y) [
        | inl b ↦ inr (l.fresh y b n).2
        | inr k ↦ elim (s.closed z y by k e) [
          | inl h ↦ inl (still z h)
          | inr w ↦ elim (Contains-push_cases waiting x y w) [
            | inl d ↦ inr (l.waits y d)
            | inr same ↦ inl (l.whole z ((r z).1 (subst (λ v. NodeLeads edges z v) (sym same) e)))
          ]
        ]
      ];
      found = λ z c. elim (l.from z c) [
        | inl w ↦ (let f = s.found z (Contains-append_left waiting (x ∷ []) z w) in (f.0, still z f.1))
        | inr p ↦ (elim (decided before z) [ inl b ↦ b | inr n ↦ absurd (old z n p.0) ], p.1)
      ];
    }

module _ (edges : List (List ℕ)) (count : ℕ) (order : List ℕ) (at root : ℕ) (before labels : List ℕ) (few : count < 4294967295) (o : IsFinishingOrder edges count order)
    (lt : at < length order) (is : get_or order at 0 ≡ root) (b : IsBare before root) (a : AreLabelled edges count order (at + 1) before) (s : IsSpreading edges root before labels []) where
  abbrev E : ℕ → ℕ → Type 0
  E = NodeLeads edges

  root-below : root < count
  root-below = omega (arith, bare-below before root b, a.size)

  still : (x : ℕ) → ¬ IsBare before x → ¬ IsBare labels x
  still x n = same-bare before labels x (s.kept x n) n

  last : IsLastOpen E order (λ x. ¬ IsBare before x) root at
  last = record {
    there = slice_get-get_or order at 0 lt ∙ ap Some is;
    later = λ j x l e. subst (λ z. ¬ IsBare before z) (get_or_from_slice_get order j x 0 e) (a.later j (omega (arith, l)) (slice_get_within order j x e));
    whole = a.whole;
  }

  -- what was labelled is of the class
  of-class : (y : ℕ) → IsBare before y → ¬ IsBare labels y → Mutual E y root
  of-class y by n = roots E order (λ x. ¬ IsBare before x) root at y o.searched o.different last (o.every y (omega (arith, bare-below before y by, a.size))) (λ m. m by) (s.sound y by n).1

  was-bare : (z : ℕ) → Mutual E z root → IsBare before z
  was-bare z m = elim (decided before z) [ inl t ↦ t | inr n ↦ absurd (a.whole z root n m b) ]

  -- the class is labelled, back along a walk to the root
  back-along : (y : ℕ) (rows : List ℕ) → Walks E y rows root → Mutual E y root → ¬ IsBare labels y
  back-along y [] w m = subst (λ z. ¬ IsBare labels z) (sym w) (λ t. absurd (omega (arith, t, s.here, root-below, few)))
  back-along y (z ∷ rows) w m =
      let mz : Mutual E z root = record { there = record { rows = rows; walk = w.1 }; back = Reaches-then E root y z m.back w.0 } in
      elim (s.closed y z (was-bare z mz) (back-along z rows w.1 mz) w.0) [ inl n ↦ n | inr c ↦ absurd (Contains-nil z c) ]

  all-labelled : (y : ℕ) → Mutual E y root → ¬ IsBare labels y
  all-labelled y m = back-along y m.there.rows m.there.walk m

  new-label : (x : ℕ) → IsBare before x → ¬ IsBare labels x → get_or labels x 0 ≡ root
  new-label x bx n = (s.sound x bx n).0

  -- a label from before isn't the root
  old-other : (y : ℕ) → y < count → ¬ IsBare before y → get_or labels y 0 ≡ root → ⊥
  old-other y yl n e =
      let l : get_or before y 0 ≡ root = sym (s.kept y n) ∙ e in
      let own : get_or before root 0 ≡ root = sym (ap (λ z. get_or before z 0) l) ∙ a.named y yl n ∙ l in
      omega (arith, own, b, root-below, few)

  exact-in : (x y : ℕ) → x < count → y < count → ¬ IsBare labels x → ¬ IsBare labels y → (IsBare before x ⊎ ¬ IsBare before x) → (IsBare before y ⊎ ¬ IsBare before y)
      → (get_or labels x 0 ≡ get_or labels y 0) ↔ Mutual E x y
  exact-in x y xl yl nx ny (inl bx) (inl by) = (
    (λ e. Mutual-trans E x root y (of-class x bx nx) (Mutual-sym E y root (of-class y by ny))),
    (λ m. new-label x bx nx ∙ sym (new-label y by ny)),
  )
  exact-in x y xl yl nx ny (inl bx) (inr oy) = (
    (λ e. absurd (old-other y yl oy (sym e ∙ new-label x bx nx))),
    (λ m. absurd (a.whole y x oy (Mutual-sym E x y m) bx)),
  )
  exact-in x y xl yl nx ny (inr ox) (inl by) = (
    (λ e. absurd (old-other x xl ox (e ∙ new-label y by ny))),
    (λ m. absurd (a.whole x y ox m by)),
  )
  exact-in x y xl yl nx ny (inr ox) (inr oy) = (
    (λ e. (a.exact x y xl yl ox oy).0 (sym (s.kept x ox) ∙ e ∙ s.kept y oy)),
    (λ m. s.kept x ox ∙ (a.exact x y xl yl ox oy).1 m ∙ sym (s.kept y oy)),
  )

  named-in : (x : ℕ) → x < count → ¬ IsBare labels x → (IsBare before x ⊎ ¬ IsBare before x) → get_or labels (get_or labels x 0) 0 ≡ get_or labels x 0
  named-in x xl n (inl bx) = (let e = new-label x bx n in ap (λ z. get_or labels z 0) e ∙ s.here ∙ sym e)
  named-in x xl n (inr ox) =
      let e = s.kept x ox in
      let l = a.named x xl ox in
      let nl : ¬ IsBare before (get_or before x 0) = λ m. ox (sym l ∙ m) in
      ap (λ z. get_or labels z 0) e ∙ s.kept (get_or before x 0) nl ∙ l ∙ sym e

  whole-in : (x y : ℕ) → ¬ IsBare labels x → Mutual E x y → (IsBare before x ⊎ ¬ IsBare before x) → ¬ IsBare labels y
  whole-in x y n m (inl bx) = all-labelled y (Mutual-trans E y x root (Mutual-sym E x y m) (of-class x bx n))
  whole-in x y n m (inr ox) = still y (a.whole x y ox m)

  small-in : (x : ℕ) → x < count → ¬ IsBare labels x → (IsBare before x ⊎ ¬ IsBare before x) → get_or labels x 0 < count
  small-in x xl n (inl bx) = omega (arith, new-label x bx n, root-below)
  small-in x xl n (inr ox) = omega (arith, s.kept x ox, a.small x xl ox)

  -- so one class more is labelled
  pub spread-done : AreLabelled edges count order at labels
  spread-done = record {
    size = s.size ∙ a.size;
    later = λ j ge jl. elim (cases_eq j at) [
      | inl e ↦ subst (λ z. ¬ IsBare labels z) (sym (ap (λ k. get_or order k 0) e ∙ is)) (all-labelled root (Mutual-self E root))
      | inr ne ↦ still (get_or order j 0) (a.later j (omega (arith, ge, ne)) jl)
    ];
    small = λ x xl n. small-in x xl n (decided before x);
    named = λ x xl n. named-in x xl n (decided before x);
    whole = λ x y n m. whole-in x y n m (decided before x);
    exact = λ x y xl yl nx ny. exact-in x y xl yl nx ny (decided before x) (decided before y);
  }

-- nothing is labelled yet
pub none-labelled : (edges : List (List ℕ)) (count : ℕ) (order : List ℕ) (k : ℕ) (labels : List ℕ) → length edges ≡ count → length labels ≡ count → All (λ l. l ≡ 4294967295) labels
    → length order ≤ k → AreLabelled edges count order k labels
none-labelled edges count order k labels rows size none past =
    let all : (x : ℕ) → x < count → ¬ IsBare labels x → ⊥ = (λ x l n. n (none x 0 (omega (arith, l, size)))) in
    record {
      size = size;
      later = λ j ge jl. absurd (omega (arith, ge, jl, past));
      small = λ x l n. absurd (all x l n);
      named = λ x l n. absurd (all x l n);
      whole = λ x y n m. elim (cases_lt x count) [
        | inl l ↦ absurd (all x l n)
        | inr ge ↦ alone x y m.there.rows n ge m.there.walk
      ];
      exact = λ x y l m nx ny. absurd (all x l nx);
    }
  where
    alone : (x y : ℕ) (zs : List ℕ) → ¬ IsBare labels x → count ≤ x → Walks (NodeLeads edges) x zs y → ¬ IsBare labels y
    alone x y [] n ge w = subst (λ z. ¬ IsBare labels z) w n
    alone x y (z ∷ zs) n ge w = absurd (let l = leads_from edges x z w.0 in omega (arith, l, ge, rows))

-- a node that has a label already is passed by
pub labelled-on : (edges : List (List ℕ)) (count : ℕ) (order : List ℕ) (at root : ℕ) (labels : List ℕ) → get_or order at 0 ≡ root → ¬ IsBare labels root
    → AreLabelled edges count order (at + 1) labels → AreLabelled edges count order at labels
labelled-on edges count order at root labels is n a = record {
  size = a.size;
  later = λ j ge jl. elim (cases_eq j at) [
    | inl e ↦ subst (λ z. ¬ IsBare labels z) (sym (ap (λ k. get_or order k 0) e ∙ is)) n
    | inr ne ↦ a.later j (omega (arith, ge, ne)) jl
  ];
  small = a.small;
  named = a.named;
  whole = a.whole;
  exact = a.exact;
}

-- in the end all nodes are labelled, and the labels are the classes
pub all-classes : (edges : List (List ℕ)) (count : ℕ) (order labels : List ℕ) → IsFinishingOrder edges count order → AreLabelled edges count order 0 labels → AreClasses edges count labels
all-classes edges count order labels o a =
    let named : (x : ℕ) → x < count → ¬ IsBare labels x = (λ x l.
    let c = o.every x l in
    subst (λ z. ¬ IsBare labels z) (get_or_default order c.0 0 x c.1 ∙ c.2) (a.later c.0 (omega arith) c.1)) in
    record {
      whole = a.size;
      small = λ k d l. (
          let lt : k < count = omega (arith, l, a.size) in
          subst (λ z. z < count) (get_or_default labels k 0 d l) (a.small k lt (named k lt)));
      exact = λ x y xl yl. a.exact x y xl yl (named x xl) (named y yl);
    }
