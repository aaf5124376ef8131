-- What a class refers to leaves it by an edge. A class without an index passes on all that leaves it: each of its nodes
-- reaches the edge's start inside the class. What leaves a class is what walks lead to whose nodes between lie in
-- classes without an index: the last edge by which such a walk leaves the class begins the rest of it.
use Rattle.std.proofs.Common.{◌≡◌, ◌↔◌, ◌⊎◌, ℕ, ◌<◌, ◌≤◌, List, [], ◌∷◌, ◌++◌, length, get_or, refl, sym, ◌∙◌, ap, subst, arith, inl, inr}
use Rattle.std.proofs.lemmas.List.Elements.{All-nil, All-cons, All-head, All-tail}
use Rattle.std.proofs.lemmas.Bool.{cases_lt, cases_eq}
use Rattle.std.specs.List.{All, Contains}
use Rattle.joint_machine.specs.Walks.{Walks, Reaches, Mutual}
use Rattle.joint_machine.specs.Components.{Leads}
use Rattle.joint_machine.proofs.WalkLemmas.{Reaches-self, Reaches-edge, Reaches-then, Reaches-trans, Reaches-keeps, Reaches-mono, Mutual-self}
use Rattle.bridge_graph.specs.declared.graph.Node.{Node}
use Rattle.bridge_graph.specs.Parts.{IsPart, NodeLeads, row_at}
use Rattle.component_pass.specs.Classes.{AreClasses, AreInOrder}
use Rattle.component_pass.specs.Gathering.{Aims, Gathers, set_at}
use Rattle.component_pass.specs.Sharing.{index_at, IsOpen, Passes, ComesOut, Leaves}
use Rattle.component_pass.proofs.Finding.{walk_inside}
use Rattle.component_pass.proofs.Sets.{set-none}

module _ (nodes : List Node) (edges : List (List ℕ)) (labels : List ℕ) (indexes : List ℕ)
    (part : IsPart nodes edges) (cl : AreClasses edges (length nodes) labels) where
  abbrev E : ℕ → ℕ → Type 0
  E = NodeLeads edges

  abbrev Pass : ℕ → ℕ → Type 0
  Pass = Passes edges labels indexes

  abbrev Open : ℕ → Type 0
  Open = IsOpen labels indexes

  -- how one came to w from the class: w is in it, or an edge left it and passes led on
  pub Left : ℕ → ℕ → Type 0
  Left own w = (get_or labels w 0 ≡ own) ⊎ ((u : ℕ) × (v : ℕ) × (u < length nodes) × (get_or labels u 0 ≡ own) × E u v × (get_or labels v 0 ≡ own → ⊥) × Reaches Pass v w)

  pub left_step : (own w y : ℕ) → w < length nodes → Left own w → E w y → (get_or labels w 0 ≡ own) ⊎ Open w → Left own y
  unfolding Left
  left_step own w y lt q e o =
      elim (cases_eq (get_or labels y 0) own) [
        | inl is ↦ inl is
        | inr ne ↦ elim (cases_eq (get_or labels w 0) own) [
          | inl is ↦ inr (w, y, lt, is, e, ne, Reaches-self Pass y)
          | inr far ↦ elim q [
            | inl is ↦ absurd (far is)
            | inr t ↦ elim o [
              | inl is ↦ absurd (far is)
              | inr z ↦ inr (t.0, t.1, t.2, t.3, t.4, t.5, Reaches-then Pass t.1 w y t.6 (z, e))
            ]
          ]
        ]
      ]

  left_out : (own y j : ℕ) → Left own y → (get_or labels y 0 ≡ own → ⊥) → (Open y → ⊥) → index_at labels indexes y ≡ j
      → Leaves edges (length nodes) labels indexes own j
  unfolding Left
  left_out own y j q far closed is =
      elim q [
        | inl t ↦ absurd (far t)
        | inr t ↦ (t.0, t.1, t.2, t.3, t.4, t.5, (y, t.6, closed, is))
      ]

  pub left_self : (own x : ℕ) → get_or labels x 0 ≡ own → Left own x
  unfolding Left
  left_self own x e = inl e

  -- the next edge leads out, or on, to where one comes to j
  pub left_more : (own x v j : ℕ) → x < length nodes → Left own x → (get_or labels x 0 ≡ own) ⊎ Open x → E x v → (get_or labels v 0 ≡ own → ⊥) → ComesOut edges labels indexes v j
      → Leaves edges (length nodes) labels indexes own j
  unfolding Left
  left_more own x v j lt q o e far t =
      elim (cases_eq (get_or labels x 0) own) [
        | inl is ↦ (x, v, lt, is, e, far, t)
        | inr ne ↦ elim o [
          | inl is ↦ absurd (ne is)
          | inr z ↦ elim q [
            | inl is ↦ absurd (ne is)
            | inr l ↦ (l.0, l.1, l.2, l.3, l.4, l.5, (t.0, Reaches-trans Pass l.1 v t.0 (Reaches-then Pass l.1 x v l.6 (z, e)) t.1, t.2, t.3))
          ]
        ]
      ]

  pub open_of : (x y : ℕ) → get_or labels x 0 ≡ get_or labels y 0 → Open x → Open y
  open_of x y e o = ap (λ (l : ℕ). get_or indexes l 0) (sym e) ∙ o

  pub pass_below : (x y : ℕ) → x < length nodes → Reaches Pass x y → y < length nodes
  pass_below x y lt r = Reaches-keeps Pass (λ w. w < length nodes) (λ w z h k. part.in_range w z h.1) x y r lt

  -- inside a class without an index each node comes to each
  pub inside : (x y : ℕ) → x < length nodes → y < length nodes → Open x → get_or labels x 0 ≡ get_or labels y 0 → Reaches Pass x y
  inside x y lt yl z e =
      let m : Mutual E x y = (cl.exact x y lt yl).0 e in
      walk_inside E Pass (length nodes) x part.in_range (λ u v ul k e. (open_of x u ((cl.exact x u lt ul).1 k) z, e)) x y m.there.rows lt (Reaches-self Pass x) (Mutual-self E x) m.there.walk m.back

  -- a class without an index refers to what leaves it
  pub open_leaves : (x j : ℕ) → x < length nodes → Open x
      → ComesOut edges labels indexes x j ↔ Leaves edges (length nodes) labels indexes (get_or labels x 0) j
  open_leaves x j lt z = (
    (λ t.
        let own : ℕ = get_or labels x 0 in
        let q = Reaches-keeps Pass (λ w. (w < length nodes) × Left own w) (λ w y h k. (part.in_range w y h.1, left_step own w y k.0 k.1 h.1 (inr h.0))) x t.0 t.1 (lt, left_self own x refl) in
        left_out own t.0 j q.1 (λ e. t.2 (open_of x t.0 (sym e) z)) t.2 t.3),
    (λ t.
        let there = inside x t.0 lt t.2 z (sym t.3) in
        let out = t.6 in
        (out.0, Reaches-trans Pass x t.1 out.0 (Reaches-then Pass x t.0 t.1 there (open_of x t.0 (sym t.3) z, t.4)) out.1, out.2, out.3)),
  )

  -- from what has an index one comes to nothing but that itself
  pub closed_stays : (x j : ℕ) → (Open x → ⊥) → ComesOut edges labels indexes x j ↔ (index_at labels indexes x ≡ j)
  closed_stays x j closed = (
    (λ t.
        let is : t.0 ≡ x = Reaches-keeps Pass (λ w. w ≡ x) (λ w y h k. absurd (closed (subst (λ (v : ℕ). Open v) k h.0))) x t.0 t.1 refl in
        ap (λ (w : ℕ). index_at labels indexes w) (sym is) ∙ t.3),
    (λ e. (x, Reaches-self Pass x, closed, e)),
  )

  -- the walk of a reference as a list of rows between
  pub walk_between : (u v y : ℕ) (rows : List ℕ) → E u v → Walks Pass v rows y → (between : List ℕ) × Walks E u (between ++ y ∷ []) y × All Open between
  walk_between u v y [] e w = ([], (subst (λ (z : ℕ). E u z) w e, refl), All-nil Open)
  walk_between u v y (z ∷ rows) e w =
      let rest = walk_between v z y rows w.0.1 w.1 in
      (v ∷ rest.0, (e, rest.1), All-cons Open v rest.0 w.0.0 rest.2)

  -- what leaves the class of x: some walk leads there whose rows between lie in classes without an index
  pub leads_from_leaves : (x j : ℕ) → x < length nodes → Leaves edges (length nodes) labels indexes (get_or labels x 0) j
      → (y : ℕ) × (y < length nodes) × (index_at labels indexes y ≡ j) × (Open y → ⊥) × (Mutual E x y → ⊥) × Leads E Open x y
  leads_from_leaves x j lt t =
      let m : Mutual E x t.0 = (cl.exact x t.0 lt t.2).0 (sym t.3) in
      let out = t.6 in
      let y : ℕ = out.0 in
      let vl = part.in_range t.0 t.1 t.4 in
      let yl = pass_below t.1 y vl out.1 in
      let w = walk_between t.0 t.1 y out.1.rows t.4 out.1.walk in (
        y,
        yl,
        out.3,
        out.2,
        (λ k.
            let b : Mutual E y t.0 = (cl.exact y t.0 yl t.2).0 (sym ((cl.exact x y lt yl).1 k) ∙ sym t.3) in
            let away = Reaches-mono Pass E (λ p q h. h.1) t.1 y out.1 in
            let round : Mutual E t.1 t.0 = record { there = Reaches-trans E t.1 y t.0 away b.there; back = Reaches-edge E t.0 t.1 t.4 } in
            t.5 ((cl.exact t.1 t.0 vl t.2).1 round ∙ t.3)),
        record { from = t.0; between = w.0; to = y; leaves = m; arrives = Mutual-self E y; walk = w.1; plain = w.2 },
      )

  left_walk : (own u to : ℕ) (zs : List ℕ) → u < length nodes → Left own u → (get_or labels u 0 ≡ own) ⊎ Open u
      → Walks E u (zs ++ to ∷ []) to → All Open zs → (to < length nodes) × Left own to
  left_walk own u to [] lt q o w a = (part.in_range u to w.0, left_step own u to lt q w.0 o)
  left_walk own u to (z ∷ zs) lt q o w a =
      left_walk own z to zs (part.in_range u z w.0) (left_step own u z lt q w.0 o) (inr (All-head Open z zs a)) w.1 (All-tail Open z zs a)

  pub leaves_from_leads : (x y : ℕ) → x < length nodes → y < length nodes → (Open y → ⊥) → (Mutual E x y → ⊥) → Leads E Open x y
      → Leaves edges (length nodes) labels indexes (get_or labels x 0) (index_at labels indexes y)
  leaves_from_leads x y lt yl closed apart d =
      let own : ℕ = get_or labels x 0 in
      let fl : d.from < length nodes = Reaches-keeps E (λ v. v < length nodes) (λ u v e q. part.in_range u v e) x d.from d.leaves.there lt in
      let in_own : get_or labels d.from 0 ≡ own = sym ((cl.exact x d.from lt fl).1 d.leaves) in
      let end = left_walk own d.from d.to d.between fl (left_self own d.from in_own) (inl in_own) d.walk d.plain in
      let same : get_or labels y 0 ≡ get_or labels d.to 0 = (cl.exact y d.to yl end.0).1 d.arrives in
      left_out own d.to (index_at labels indexes y) end.1 (λ e. apart ((cl.exact x y lt yl).0 (sym (same ∙ e))))
      (λ o. closed (open_of d.to y (sym same) o)) (ap (λ (l : ℕ). get_or indexes l 0) (sym same))

  -- what is gathered for a class leaves it, where the sets of the classes before it have only what one comes to and
  -- those of the others are empty
  pub gathers_sound : (rows : List (List ℕ)) (sets : List ℕ) (lists : List (List ℕ)) (count own j : ℕ) → AreInOrder edges (length nodes) labels rows
      → ((x k : ℕ) → x < length nodes → get_or labels x 0 < own → Contains (set_at count lists (get_or sets x 0)) k → ComesOut edges labels indexes x k)
      → ((x : ℕ) → x < length nodes → own ≤ get_or labels x 0 → get_or sets x 0 ≡ count) → row_at lists 0 ≡ []
      → Gathers edges sets lists count (row_at rows own) j → Leaves edges (length nodes) labels indexes own j
  gathers_sound rows sets lists count own j o sound rest none g =
      let a = g.1 in
      let m = (o.members own a.0).0 a.1 in
      let v : ℕ = a.2.0 in
      let e : E a.0 v = a.2.1 in
      let vl = part.in_range a.0 v e in
      let c = subst (λ (k : ℕ). Contains (set_at count lists k) j) (sym a.2.2) g.2 in
      elim (cases_lt (get_or labels v 0) own) [
        | inl before ↦ (a.0, v, m.0, m.1, e, (λ is. absurd (omega (arith, is, before))), sound v j vl before c)
        | inr later ↦
            let d = subst (λ (k : ℕ). Contains (set_at count lists k) j) (rest v vl later) c in
            let f = subst (λ (xs : List ℕ). Contains xs j) (set-none count lists none) d in
            absurd (omega (arith, f.1))
      ]

  -- all that leaves a class is gathered, where each set that its edges lead to has all
  pub gathers_whole : (rows : List (List ℕ)) (sets : List ℕ) (lists : List (List ℕ)) (count own j : ℕ) → AreInOrder edges (length nodes) labels rows
      → ((u v k : ℕ) → Contains (row_at rows own) u → E u v → get_or labels v 0 < own → ComesOut edges labels indexes v k → Contains (set_at count lists (get_or sets v 0)) k)
      → Leaves edges (length nodes) labels indexes own j → Gathers edges sets lists count (row_at rows own) j
  gathers_whole rows sets lists count own j o all t =
      let member = (o.members own t.0).1 (t.2, t.3) in
      let before : get_or labels t.1 0 < own = omega (arith, o.backwards t.0 t.1 t.4, t.3, t.5) in
      let c = all t.0 t.1 j member t.4 before t.6 in
      (get_or sets t.1 0, (t.0, member, (t.1, t.4, refl)), c)

  -- a set that an edge from the class leads to has only what leaves it
  pub aimed_leaves : (rows : List (List ℕ)) (sets : List ℕ) (lists : List (List ℕ)) (count own number j : ℕ) → AreInOrder edges (length nodes) labels rows
      → ((x k : ℕ) → x < length nodes → get_or labels x 0 < own → Contains (set_at count lists (get_or sets x 0)) k → ComesOut edges labels indexes x k)
      → ((x : ℕ) → x < length nodes → own ≤ get_or labels x 0 → get_or sets x 0 ≡ count) → row_at lists 0 ≡ []
      → Aims edges sets (row_at rows own) number → Contains (set_at count lists number) j → Leaves edges (length nodes) labels indexes own j
  aimed_leaves rows sets lists count own number j o sound rest none a c = gathers_sound rows sets lists count own j o sound rest none (number, a, c)
