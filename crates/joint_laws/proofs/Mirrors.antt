-- Mirror edges and walks, over any contraction. What is reported has an end: a component its first member, a heavy
-- class its temporary; and a row that stands for it: that first member, or the least row of the class. A mirror edge
-- from end to end stands for a walk from row to row: the members of a component reach each other, and a cross-reference
-- has its walk. A walk from a to b is followed node by node. At each node x something reported is known to whose end
-- mirror edges lead from a, and which the walk has not left, or has left over unreported classes alone. If x's class
-- isn't reported, the next node is one further behind. If it is, then it is what was left, or there is a
-- cross-reference to it, so mirror edges lead on to its end. Whether the class of x is reported can't be computed, but
-- the walk over mirror edges that is looked for is decided, so it is enough that it isn't impossible.
use Rattle.std.proofs.Common.{◌≡◌, ℕ, zero, suc, ◌+◌, ◌-◌, ◌<◌, ◌≤◌, length, ◌⊎◌, inl, inr, Bool, true, false, List, [], ◌∷◌, ◌++◌, map, Some, refl, sym, subst, ap, ◌∙◌, arith}
use Rattle.std.specs.Prelude.{⊤, if◌then◌else◌, Contains, All, flat_map, slice_get, slice_index, nat_lt}
use Rattle.std.proofs.lemmas.List.Elements.{Contains-append_cases, Contains-append_left, Contains-append_right, All-nil, All-push, All-weaker}
use Rattle.std.proofs.lemmas.Option.{slice_get_within, same_Some, none-some}
use Rattle.std.proofs.lemmas.Bool.{cases_eq, cases_lt, ltb-true, lt-ltb}
use Rattle.joint_machine.proofs.Deciding.{true-false, false-from}
use Rattle.joint_machine.specs.Walks.{Walks, Reaches, Mutual}
use Rattle.joint_machine.specs.Components.{IsContraction, IsPlainClass, IsHeavy, IsUnreported, IsLeast, Leads, LeadsIn, LeadsOut, IsCrossReference, IsMember, End, node, temporary, end_at, stand_at}
use Rattle.joint_machine.specs.Components.{between_nodes, circle, first_of, first_at, mirror_edges}
use Rattle.joint_machine.proofs.WalkLemmas.{Walks-join, Reaches-self, Reaches-edge, Reaches-trans, Reaches-keeps, Mutual-self, Mutual-sym, Mutual-trans}
use Rattle.joint_machine.specs.PeerReplay.{LeadsOver}
use Rattle.joint_laws.specs.Mirrors.{MirrorEdge, MirrorEdgesFollowWalks, WalksFollowMirrorEdges}
use Rattle.joint_machine.proofs.Members.{Contains-at, Contains-map, Contains-map_cases, Contains-flat_map, Contains-flat_map_cases, at-Contains, Rises-once}
use Rattle.joint_laws.proofs.Circles.{circle-ends, circle-walks, first-member, first-there}
use Rattle.joint_laws.proofs.FiniteReach.{reach_stable}
use Rattle.joint_laws.proofs.Through.{RefEdge, leads-walk, walk-Refers, same-node}

-- the first member by the index of its component
first_at-is : (comps : List (List ℕ)) (i : ℕ) (members : List ℕ) → slice_get comps i ≡ Some members → first_at comps i ≡ first_of members
first_at-is [] i members e = absurd (none-some members e)
first_at-is (c ∷ comps) zero members e = ap first_of (same_Some c members e)
first_at-is (c ∷ comps) (suc i) members e = first_at-is comps i members e

pub first_at-member : (comps : List (List ℕ)) (i a : ℕ) → IsMember comps i a → IsMember comps i (first_at comps i)
first_at-member comps i a m = (m.0, m.1, subst (λ z. Contains m.0 z) (sym (first_at-is comps i m.0 m.1)) (first-member m.0 a m.2))

-- the row that stands for a component, and for a heavy class
stand-comp : (comps : List (List ℕ)) (heavy : List ℕ) (i : ℕ) → i < length comps → stand_at comps heavy i ≡ first_at comps i
stand-comp [] heavy i l = absurd (omega arith)
stand-comp (c ∷ comps) heavy zero l = refl
stand-comp (c ∷ comps) heavy (suc i) l = stand-comp comps heavy i (omega arith)

stand-heavy : (comps : List (List ℕ)) (heavy : List ℕ) (i : ℕ) → length comps ≤ i → stand_at comps heavy i ≡ slice_index heavy (i - length comps)
stand-heavy [] heavy i l = ap (slice_index heavy) (omega arith)
stand-heavy (c ∷ comps) heavy zero l = absurd (omega arith)
stand-heavy (c ∷ comps) heavy (suc i) l = stand-heavy comps heavy i (omega arith) ∙ ap (slice_index heavy) (omega arith)

-- the elements of a list at two places are equal at one place alone, if it rises
get-index : (xs : List ℕ) (i : ℕ) → i < length xs → slice_get xs i ≡ Some (slice_index xs i)
get-index [] i l = absurd (omega arith)
get-index (x ∷ xs) zero l = refl
get-index (x ∷ xs) (suc i) l = get-index xs i (omega arith)

-- the end of something reported: a component's first member, or the temporary of a heavy class
pub data EndIs (comps : List (List ℕ)) (i : ℕ) : Type 0 where
  comp : i < length comps → end_at comps i ≡ node (first_at comps i) → EndIs comps i
  weight : length comps ≤ i → end_at comps i ≡ temporary (i - length comps) → EndIs comps i

end-by : (b : Bool) (comps : List (List ℕ)) (i : ℕ) → (b ≡ true → (if b then node (first_at comps i) else temporary (i - length comps)) ≡ node (first_at comps i))
    × (b ≡ false → (if b then node (first_at comps i) else temporary (i - length comps)) ≡ temporary (i - length comps))
end-by true comps i = (λ e. refl, λ e. absurd (true-false true refl e))
end-by false comps i = (λ e. absurd (true-false true refl (sym e)), λ e. refl)

pub comp-end : (comps : List (List ℕ)) (i : ℕ) → i < length comps → end_at comps i ≡ node (first_at comps i)
comp-end comps i l = (end-by (nat_lt i (length comps)) comps i).0 (lt-ltb i (length comps) l)

pub end-is : (comps : List (List ℕ)) (i : ℕ) → EndIs comps i
end-is comps i = elim (cases_lt i (length comps)) [
  | inl l ↦ comp l (comp-end comps i l)
  | inr l ↦ weight l ((end-by (nat_lt i (length comps)) comps i).1 (false-from (nat_lt i (length comps)) (λ e. let m = ltb-true i (length comps) e in omega (arith, l, m))))
]

-- whether two ends are the same
same-temporary : (x y : ℕ) → temporary x ≡ temporary y → x ≡ y
same-temporary x y e = cc

end-cases : (x y : End) → (x ≡ y) ⊎ (x ≡ y → ⊥)
end-cases (node x) (node y) = elim (cases_eq x y) [ inl e ↦ inl (ap node e) | inr n ↦ inr (λ e. n (same-node x y e)) ]
end-cases (node x) (temporary y) = inr (λ e. absurd (cc))
end-cases (temporary x) (node y) = inr (λ e. absurd (cc))
end-cases (temporary x) (temporary y) = elim (cases_eq x y) [ inl e ↦ inl (ap temporary e) | inr n ↦ inr (λ e. n (same-temporary x y e)) ]

-- the ends of the edge that a cross-reference gives
abbrev ends_of : List (List ℕ) → ℕ × ℕ → End × End
ends_of comps p = (end_at comps p.0, end_at comps p.1)

-- the two kinds of mirror edges
circle_edge : (comps : List (List ℕ)) (xrefs : List (ℕ × ℕ)) (i : ℕ) (members : List ℕ) → slice_get comps i ≡ Some members
    → (a b : ℕ) → Contains (circle members) (a, b) → RefEdge (mirror_edges comps xrefs) (node a) (node b)
circle_edge comps xrefs i members e a b c =
    Contains-append_left (map between_nodes (flat_map circle comps)) (map (ends_of comps) xrefs) (node a, node b)
    (Contains-map between_nodes (flat_map circle comps) (a, b) (Contains-flat_map circle comps members (a, b) (Contains-at comps i members e) c))

cross_edge : (comps : List (List ℕ)) (xrefs : List (ℕ × ℕ)) (i j : ℕ) → Contains xrefs (i, j) → RefEdge (mirror_edges comps xrefs) (end_at comps i) (end_at comps j)
cross_edge comps xrefs i j c =
    Contains-append_right (map between_nodes (flat_map circle comps)) (map (ends_of comps) xrefs) (end_at comps i, end_at comps j) (Contains-map (ends_of comps) xrefs (i, j) c)

-- members of one component reach each other over its circle
module _ (comps : List (List ℕ)) (xrefs : List (ℕ × ℕ)) where
  abbrev F : End → End → Type 0
  F = RefEdge (mirror_edges comps xrefs)

  abbrev Between : ℕ → ℕ → Type 0
  Between x y = F (node x) (node y)

  pub component-walks : (i a b : ℕ) → IsMember comps i a → IsMember comps i b → Reaches (RefEdge (mirror_edges comps xrefs)) (node a) (node b)
  component-walks i a b m n =
      Reaches-keeps Between (λ x. Reaches F (node a) (node x)) (λ x y e q. Reaches-trans F (node a) (node x) (node y) q (Reaches-edge F (node x) (node y) e)) a b
      (circle-walks Between m.0 (circle_edge comps xrefs i m.0 m.1) a b m.2 (subst (λ z. Contains z b) (same_Some n.0 m.0 (sym n.1 ∙ m.1)) n.2)) (Reaches-self F (node a))

module _ (bridge : ℕ → Type 0) (edge : ℕ → ℕ → Type 0) (comps : List (List ℕ)) (heavy : List ℕ) (xrefs : List (ℕ × ℕ)) (k : IsContraction bridge edge comps heavy xrefs) where
  abbrev E : End → End → Type 0
  E = RefEdge (mirror_edges comps xrefs)

  abbrev stand : ℕ → ℕ
  stand i = stand_at comps heavy i

  mutual_in : (i x y : ℕ) → IsMember comps i x → IsMember comps i y → Mutual edge x y
  mutual_in i x y m n = (k.together i i x y m n).0 refl

  -- the row that an end stands for
  abbrev row_of : End → ℕ
  row_of (node x) = x
  row_of (temporary t) = slice_index heavy t

  row_of-end : (i : ℕ) → row_of (end_at comps i) ≡ stand i
  row_of-end i = elim (end-is comps i) [
    | comp l e ↦ ap row_of e ∙ sym (stand-comp comps heavy i l)
    | weight l e ↦ ap row_of e ∙ sym (stand-heavy comps heavy i l)
  ]

  -- a circle's edge joins nodes that reach each other
  circle_walk : (a b : ℕ) → Contains (flat_map circle comps) (a, b) → Reaches edge a b
  circle_walk a b c =
      let r = Contains-flat_map_cases circle comps (a, b) c in
      let at = at-Contains comps r.0 r.1 in
      let ends = circle-ends r.0 a b r.2 in
      (mutual_in at.0 a b (r.0, at.1, ends.0) (r.0, at.1, ends.1)).there

  -- a cross-reference has its walk
  cross_walk : (a b : ℕ) → IsCrossReference bridge edge a b → Reaches edge a b
  cross_walk a b c =
      let l = c.leads in
      Reaches-trans edge a l.from b l.leaves.there
      (Reaches-trans edge l.from l.to b (record { rows = l.between ++ l.to ∷ []; walk = l.walk }) l.arrives.back)

  circle_rows : (e : End × End) → Contains (map between_nodes (flat_map circle comps)) e → Reaches edge (row_of e.0) (row_of e.1)
  circle_rows e c =
      let r = Contains-map_cases between_nodes (flat_map circle comps) e c in
      let w : Reaches edge r.0.0 r.0.1 = circle_walk r.0.0 r.0.1 r.1 in
      subst (λ (x : End × End). Reaches edge (row_of x.0) (row_of x.1)) r.2 w

  cross_rows : (e : End × End) → Contains (map (ends_of comps) xrefs) e → Reaches edge (row_of e.0) (row_of e.1)
  cross_rows e c =
      let r = Contains-map_cases (ends_of comps) xrefs e c in
      let w : Reaches edge (stand r.0.0) (stand r.0.1) = cross_walk (stand r.0.0) (stand r.0.1) ((k.references r.0.0 r.0.1).0 r.1).2 in
      let v : Reaches edge (row_of (end_at comps r.0.0)) (row_of (end_at comps r.0.1)) = rw (row_of-end r.0.0, row_of-end r.0.1) w in
      subst (λ (x : End × End). Reaches edge (row_of x.0) (row_of x.1)) r.2 v

  -- a mirror edge stands for a walk between rows
  edge-rows : (x y : End) → E x y → Reaches edge (row_of x) (row_of y)
  edge-rows x y c = elim (Contains-append_cases (map between_nodes (flat_map circle comps)) (map (ends_of comps) xrefs) (x, y) c) [
    | inl d ↦ circle_rows (x, y) d
    | inr d ↦ cross_rows (x, y) d
  ]

  pub mirror_edge-walk : (a b : ℕ) → MirrorEdge comps xrefs a b → Reaches edge a b
  mirror_edge-walk a b m = Reaches-keeps E (λ x. Reaches edge a (row_of x)) (λ x y e q. Reaches-trans edge a (row_of x) (row_of y) q (edge-rows x y e)) (node a) (node b)
      (leads-walk (mirror_edges comps xrefs) (node a) m.through b m.walk) (Reaches-self edge a)

  -- an end that is a node is a bridge node
  abbrev pub IsEnd : End → Type 0
  IsEnd (node x) = bridge x
  IsEnd (temporary t) = ⊤

  first_bridge : (i : ℕ) → i < length comps → bridge (first_at comps i)
  first_bridge i l = (k.members (first_at comps i)).0 (i, first-there comps i k.canonical.some l)

  is-end : (i : ℕ) → IsEnd (end_at comps i)
  is-end i = elim (end-is comps i) [
    | comp l e ↦ subst IsEnd (sym e) (first_bridge i l)
    | weight l e ↦ subst IsEnd (sym e) tt
  ]

  circle_ends : (a b : ℕ) → Contains (flat_map circle comps) (a, b) → bridge a × bridge b
  circle_ends a b c =
      let r = Contains-flat_map_cases circle comps (a, b) c in
      let at = at-Contains comps r.0 r.1 in
      let ends = circle-ends r.0 a b r.2 in
      ((k.members a).0 (at.0, (r.0, at.1, ends.0)), (k.members b).0 (at.0, (r.0, at.1, ends.1)))

  pub edge-ends : (x y : End) → E x y → IsEnd x × IsEnd y
  edge-ends x y c = elim (Contains-append_cases (map between_nodes (flat_map circle comps)) (map (ends_of comps) xrefs) (x, y) c) [
    | inl d ↦ (
        let r = Contains-map_cases between_nodes (flat_map circle comps) (x, y) d in
        let w : IsEnd (node r.0.0) × IsEnd (node r.0.1) = circle_ends r.0.0 r.0.1 r.1 in
        subst (λ (e : End × End). IsEnd e.0 × IsEnd e.1) r.2 w)
    | inr d ↦ (
        let r = Contains-map_cases (ends_of comps) xrefs (x, y) d in
        subst (λ (e : End × End). IsEnd e.0 × IsEnd e.1) r.2 (is-end r.0.0, is-end r.0.1))
  ]

  lead-start : (e : End) (ts : List ℕ) (b : ℕ) → LeadsOver (mirror_edges comps xrefs) e ts b → IsEnd e
  lead-start e [] b w = (edge-ends e (node b) w).0
  lead-start e (t ∷ ts) b w = (edge-ends e (temporary t) w.0).0

  lead-end : (e : End) (ts : List ℕ) (b : ℕ) → LeadsOver (mirror_edges comps xrefs) e ts b → bridge b
  lead-end e [] b w = (edge-ends e (node b) w).1
  lead-end e (t ∷ ts) b w = lead-end (temporary t) ts b w.1

  pub mirror_edge-ends : (a b : ℕ) → MirrorEdge comps xrefs a b → bridge a × bridge b
  mirror_edge-ends a b m = (lead-start (node a) m.through b m.walk, lead-end (node a) m.through b m.walk)

  -- what is said of one row of a class is said of each
  plain-mutual : (x y : ℕ) → Mutual edge x y → IsPlainClass bridge edge x → IsPlainClass bridge edge y
  plain-mutual x y m p b bb n = p b bb (Mutual-trans edge x y b m n)

  leads-to : (passed : ℕ → Type 0) (b x y : ℕ) → Mutual edge x y → Leads edge passed b x → Leads edge passed b y
  leads-to passed b x y m l = record {
    from = l.from;
    between = l.between;
    to = l.to;
    leaves = l.leaves;
    arrives = Mutual-trans edge y x l.to (Mutual-sym edge x y m) l.arrives;
    walk = l.walk;
    plain = l.plain;
  }

  leads-of : (passed : ℕ → Type 0) (b x y : ℕ) → Mutual edge x y → Leads edge passed x b → Leads edge passed y b
  leads-of passed b x y m l = record {
    from = l.from;
    between = l.between;
    to = l.to;
    leaves = Mutual-trans edge y x l.from (Mutual-sym edge x y m) l.leaves;
    arrives = l.arrives;
    walk = l.walk;
    plain = l.plain;
  }

  heavy-mutual : (x y : ℕ) → Mutual edge x y → IsHeavy bridge edge x → IsHeavy bridge edge y
  heavy-mutual x y m h = record {
    plain = plain-mutual x y m h.plain;
    ins = h.ins;
    outs = h.outs;
    ins_rise = h.ins_rise;
    outs_rise = h.outs_rise;
    lead_in = All-weaker (LeadsIn bridge edge x) (LeadsIn bridge edge y) (λ b w. (w.0, leads-to (IsPlainClass bridge edge) b x y m w.1)) h.ins h.lead_in;
    lead_out = All-weaker (LeadsOut bridge edge x) (LeadsOut bridge edge y) (λ b w. (w.0, leads-of (IsPlainClass bridge edge) b x y m w.1)) h.outs h.lead_out;
    some_in = h.some_in;
    some_out = h.some_out;
    many = h.many;
  }

  -- a heavy class has a least row: it isn't impossible
  abbrev HasLeast : ℕ → Type 0
  HasLeast x = (y : ℕ) × IsHeavy bridge edge y × IsLeast edge y × Mutual edge y x

  heavy-least : (n x : ℕ) → x < n → IsHeavy bridge edge x → (HasLeast x → ⊥) → ⊥
  heavy-least zero x l h none = absurd (omega arith)
  heavy-least (suc n) x l h none = none (
    x,
    h,
    (λ y m. elim (cases_lt y x) [
      | inr le ↦ le
      | inl lt ↦ absurd (heavy-least n y (omega arith) (heavy-mutual x y m h) (λ w. none (w.0, w.1, w.2, Mutual-trans edge w.0 y x w.3 (Mutual-sym edge x y m))))
    ]),
    Mutual-self edge x,
  )

  -- two of what is reported are in one class only if they are the same
  abbrev Count : ℕ
  Count = length comps + length heavy

  listed-heavy : (i : ℕ) → length comps ≤ i → i < Count → Contains heavy (stand i)
  listed-heavy i l w = subst (Contains heavy) (sym (stand-heavy comps heavy i l))
      (Contains-at heavy (i - length comps) (slice_index heavy (i - length comps)) (get-index heavy (i - length comps) (omega arith)))

  heavy-at : (i : ℕ) → length comps ≤ i → i < Count → IsHeavy bridge edge (stand i) × IsLeast edge (stand i)
  heavy-at i l w = (k.heavies (stand i)).0 (listed-heavy i l w)

  comp-bridge : (i : ℕ) → i < length comps → bridge (stand i)
  comp-bridge i l = subst bridge (sym (stand-comp comps heavy i l)) (first_bridge i l)

  comp-member : (i : ℕ) → i < length comps → IsMember comps i (stand i)
  comp-member i l = subst (λ z. IsMember comps i z) (sym (stand-comp comps heavy i l)) (first-there comps i k.canonical.some l)

  two-heavy : (i j : ℕ) → length comps ≤ i → length comps ≤ j → i < Count → j < Count → stand i ≡ stand j → i ≡ j
  two-heavy i j li lj wi wj e =
      let a = get-index heavy (i - length comps) (omega arith) in
      let b = get-index heavy (j - length comps) (omega arith) in
      let f : slice_index heavy (i - length comps) ≡ slice_index heavy (j - length comps) = sym (stand-heavy comps heavy i li) ∙ e ∙ stand-heavy comps heavy j lj in
      let g : i - length comps ≡ j - length comps = Rises-once heavy (i - length comps) (j - length comps) (slice_index heavy (i - length comps)) k.heavy_rise a (b ∙ ap Some (sym f)) in
      omega arith

  pub reported-apart : (i j : ℕ) → i < Count → j < Count → Mutual edge (stand i) (stand j) → i ≡ j
  reported-apart i j wi wj m = elim (cases_lt i (length comps)) [
    | inl li ↦ elim (cases_lt j (length comps)) [
      | inl lj ↦ (k.together i j (stand i) (stand j) (comp-member i li) (comp-member j lj)).1 m
      | inr lj ↦ absurd ((heavy-at j lj wj).0.plain (stand i) (comp-bridge i li) (Mutual-sym edge (stand i) (stand j) m))
    ]
    | inr li ↦ elim (cases_lt j (length comps)) [
      | inl lj ↦ absurd ((heavy-at i li wi).0.plain (stand j) (comp-bridge j lj) m)
      | inr lj ↦ (
          let a = (heavy-at i li wi).1 (stand j) m in
          let b = (heavy-at j lj wj).1 (stand i) (Mutual-sym edge (stand i) (stand j) m) in
          two-heavy i j li lj wi wj (omega (arith, a, b)))
    ]
  ]

  -- what is reported at index i was left for x over unreported classes
  pub record Left (i x : ℕ) : Type 0 where
    pub from : ℕ
    pub between : List ℕ
    pub leaves : Mutual edge (stand i) from
    pub walk : Walks edge from (between ++ x ∷ []) x
    pub plain : All (IsUnreported bridge edge) between

  -- mirror edges lead from a to the end of what is reported at some index, in whose class x is, or which was left for x
  pub record Came (a x : ℕ) : Type 0 where
    pub index : ℕ
    pub within : index < Count
    pub path : Reaches E (node a) (end_at comps index)
    pub out : Mutual edge (stand index) x ⊎ Left index x

  -- mirror edges lead from a to the end of the class of x, which is reported
  pub record Stands (a x : ℕ) : Type 0 where
    pub index : ℕ
    pub within : index < Count
    pub path : Reaches E (node a) (end_at comps index)
    pub here : Mutual edge (stand index) x

  -- a cross-reference to x's own class, where that is reported
  crossing : (a x j : ℕ) (c : Came a x) → Left c.index x → j < Count → Mutual edge (stand j) x → Stands a x
  crossing a x j c l w here = elim (cases_eq c.index j) [
    | inl e ↦ record { index = j; within = w; path = subst (λ z. Reaches E (node a) (end_at comps z)) e c.path; here = here }
    | inr ne ↦ (
        let cross : IsCrossReference bridge edge (stand c.index) (stand j) = record {
          apart = λ t. ne (reported-apart c.index j c.within w t);
          leads = record { from = l.from; between = l.between; to = x; leaves = l.leaves; arrives = here; walk = l.walk; plain = l.plain };
        } in
        let listed : Contains xrefs (c.index, j) = (k.references c.index j).1 (c.within, w, cross) in
        record {
          index = j;
          within = w;
          path = Reaches-trans E (node a) (end_at comps c.index) (end_at comps j) c.path (Reaches-edge E (end_at comps c.index) (end_at comps j) (cross_edge comps xrefs c.index j listed));
          here = here;
        })
  ]

  arrived : (a x j : ℕ) → Came a x → j < Count → Mutual edge (stand j) x → Stands a x
  arrived a x j c w m = elim c.out [
    | inl here ↦ record { index = c.index; within = c.within; path = c.path; here = here }
    | inr l ↦ crossing a x j c l w m
  ]

  -- a bridge node's component
  own : (b : ℕ) → bridge b → (j : ℕ) × (j < length comps) × IsMember comps j b
  own b bb = let n = (k.members b).1 bb in (n.0, slice_get_within comps n.0 n.1.0 n.1.1, n.1)

  own-stands : (b j : ℕ) → j < length comps → IsMember comps j b → Mutual edge (stand j) b
  own-stands b j l m = mutual_in j (stand j) b (comp-member j l) m

  -- one edge further, from a node of what is reported or past an unreported class
  from_own : (a x y : ℕ) → Stands a x → edge x y → Came a y
  from_own a x y s e = record {
    index = s.index;
    within = s.within;
    path = s.path;
    out = inr (record { from = x; between = []; leaves = s.here; walk = (e, refl); plain = All-nil (IsUnreported bridge edge) });
  }

  past_plain : (a x y : ℕ) → Came a x → IsUnreported bridge edge x → edge x y → Came a y
  past_plain a x y c p e = elim c.out [
    | inl here ↦ from_own a x y (record { index = c.index; within = c.within; path = c.path; here = here }) e
    | inr l ↦ record {
      index = c.index;
      within = c.within;
      path = c.path;
      out = inr (record {
        from = l.from;
        between = l.between ++ x ∷ [];
        leaves = l.leaves;
        walk = Walks-join edge l.from (l.between ++ x ∷ []) x (y ∷ []) y l.walk (e, refl);
        plain = All-push (IsUnreported bridge edge) l.between x l.plain p;
      });
    }
  ]

  -- the walk is followed: it isn't impossible that mirror edges came along
  follow : (a b : ℕ) → bridge a → Reaches edge a b → (Came a b → ⊥) → ⊥
  follow a b ba r = Reaches-keeps edge (λ x. (Came a x → ⊥) → ⊥) step a b r start
    where
      start : (Came a a → ⊥) → ⊥
      start n =
          let m = own a ba in
          n (record {
            index = m.0;
            within = omega (arith, m.1);
            path = subst (λ z. Reaches E (node a) z) (sym (comp-end comps m.0 m.1)) (component-walks comps xrefs m.0 a (first_at comps m.0) m.2 (first_at-member comps m.0 a m.2));
            out = inl (own-stands a m.0 m.1 m.2);
          })

      bridge_case : (x y : ℕ) → edge x y → Came a x → (Came a y → ⊥) → (d : ℕ) → bridge d → Mutual edge x d → ⊥
      bridge_case x y e c n d bd m =
          let o = own d bd in
          n (from_own a x y (arrived a x o.0 c (omega (arith, o.1)) (Mutual-trans edge (stand o.0) d x (own-stands d o.0 o.1 o.2) (Mutual-sym edge x d m))) e)

      heavy_case : (x y : ℕ) → edge x y → Came a x → (Came a y → ⊥) → IsHeavy bridge edge x → ⊥
      heavy_case x y e c n h = heavy-least (suc x) x (omega arith) h (λ w.
          let listed = at-Contains heavy w.0 ((k.heavies w.0).1 (w.1, w.2)) in
          let j : ℕ = length comps + listed.0 in
          let wj : j < Count = (let inside = slice_get_within heavy listed.0 w.0 listed.1 in omega (arith, inside)) in
          let is : stand j ≡ w.0 = stand-heavy comps heavy j (omega arith) ∙ ap (slice_index heavy) (omega arith)
          ∙ same_Some _ _ (sym (get-index heavy listed.0 (slice_get_within heavy listed.0 w.0 listed.1)) ∙ listed.1) in
          n (from_own a x y (arrived a x j c wj (subst (λ z. Mutual edge z x) (sym is) w.3)) e))

      step : (x y : ℕ) → edge x y → ((Came a x → ⊥) → ⊥) → (Came a y → ⊥) → ⊥
      step x y e q n = q (λ c. n (past_plain a x y c (record { plain = bridge_case x y e c n; light = heavy_case x y e c n }) e))

  -- the component of a bridge node is walked to the node itself
  to_itself : (a b : ℕ) → bridge b → Stands a b → Reaches E (node a) (node b)
  to_itself a b bb s =
      let o = own b bb in
      let e : s.index ≡ o.0 = reported-apart s.index o.0 s.within
      (omega (arith, o.1)) (Mutual-trans edge (stand s.index) b (stand o.0) s.here (Mutual-sym edge (stand o.0) b (own-stands b o.0 o.1 o.2))) in
      let at : Reaches E (node a) (end_at comps o.0) = subst (λ z. Reaches E (node a) (end_at comps z)) e s.path in
      let first : Reaches E (node a) (node (first_at comps o.0)) = subst (λ z. Reaches E (node a) z) (comp-end comps o.0 o.1) at in
      Reaches-trans E (node a) (node (first_at comps o.0)) (node b) first (component-walks comps xrefs o.0 (first_at comps o.0) b (first_at-member comps o.0 b o.2) o.2)

  pub walk-mirror_edges : (a b : ℕ) → bridge a → bridge b → Reaches edge a b → Reaches (MirrorEdge comps xrefs) a b
  walk-mirror_edges a b ba bb r = walk-Refers (mirror_edges comps xrefs) a b (reach_stable end-cases (mirror_edges comps xrefs) (node a) (node b) (λ n. follow a b ba r (λ c.
      let o = own b bb in
      n (to_itself a b bb (arrived a b o.0 c (omega (arith, o.1)) (own-stands b o.0 o.1 o.2))))))

pub mirror_edges_follow : (bridge : ℕ → Type 0) (edge : ℕ → ℕ → Type 0) → MirrorEdgesFollowWalks bridge edge
mirror_edges_follow bridge edge comps heavy xrefs k a b e =
    let ends = mirror_edge-ends bridge edge comps heavy xrefs k a b e in
    (ends.0, ends.1, mirror_edge-walk bridge edge comps heavy xrefs k a b e)

pub walks_follow : (bridge : ℕ → Type 0) (edge : ℕ → ℕ → Type 0) → WalksFollowMirrorEdges bridge edge
walks_follow bridge edge comps heavy xrefs k a b ba bb r = walk-mirror_edges bridge edge comps heavy xrefs k a b ba bb r
