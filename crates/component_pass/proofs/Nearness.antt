-- What is gathered through thin nodes is what leaves the class: a walk that leaves it is followed through thin nodes up
-- to the first that isn't thin, whose set has what the rest of the walk comes to.
use Rattle.std.proofs.Common.{Result, Ok, Err, IfOk, ◌≡◌, ◌↔◌, ◌⊎◌, ℕ, ◌<◌, ◌≤◌, ◌+◌, Bool, true, false, List, [], ◌∷◌, ◌++◌, length, get_or, set, refl, sym, ◌∙◌, ap, subst, arith, inl, inr}
use Rattle.std.proofs.lemmas.List.{length_push, length-append, length-set, get_or-set_other, get_or_append_left, get_or_past, get_or_default, append-nil, append_assoc}
use Rattle.std.proofs.lemmas.List.Elements.{All-nil, All-push, All-weaker, All-contains, All-append, Contains-append_left, Contains-push, Contains-push_cases}
use Rattle.std.proofs.lemmas.Bool.{cases_lt, cases_eq, cases_Bool, true≢false}
use Rattle.std.specs.List.{All, Contains}
use Rattle.joint_machine.specs.Walks.{Walks, Reaches}
use Rattle.joint_machine.proofs.WalkLemmas.{Reaches-self, Reaches-then, Reaches-keeps}
use Rattle.joint_machine.proofs.Members.{All-members, Contains-nil}
use Rattle.bridge_graph.specs.declared.graph.Node.{Node}
use Rattle.bridge_graph.specs.Parts.{IsPart, NodeLeads, row_at}
use Rattle.component_pass.specs.Classes.{AreClasses, AreInOrder}
use Rattle.component_pass.specs.Gathering.{Gathers, set_at}
use Rattle.component_pass.specs.Sharing.{index_at, IsOpen, Passes, Leaves, AreShared, AreThin, ThinStep, IsNear, GathersNear, VisitsThin}
use Rattle.component_pass.proofs.Leaving.{Left, left_self, left_step, left_more}
use Rattle.component_pass.proofs.Finding.{unmarked-set}
use Rattle.component_pass.proofs.Sets.{set-none}

module _ (nodes : List Node) (edges : List (List ℕ)) (labels indexes : List ℕ) (thin : List Bool)
    (part : IsPart nodes edges) (cl : AreClasses edges (length nodes) labels) (th : AreThin (length nodes) labels indexes thin) where
  abbrev E : ℕ → ℕ → Type 0
  E = NodeLeads edges

  -- what is near the class: one came to it from there, and it is in the class or has no index
  near_left : (own m x : ℕ) → m < length nodes → get_or labels m 0 ≡ own → Reaches (ThinStep edges thin) m x
      → (x < length nodes) × Left nodes edges labels indexes part cl own x × ((get_or labels x 0 ≡ own) ⊎ IsOpen labels indexes x)
  near_left own m x lt is r =
      Reaches-keeps (ThinStep edges thin) (λ w. (w < length nodes) × Left nodes edges labels indexes part cl own w × ((get_or labels w 0 ≡ own) ⊎ IsOpen labels indexes w))
      (λ w z h k. (part.in_range w z h.0, left_step nodes edges labels indexes part cl own w z k.0 k.1 h.0 k.2, inr (th.bare z (part.in_range w z h.0) h.1)))
      m x r (lt, left_self nodes edges labels indexes part cl own m is, inl is)

  module _ (rows : List (List ℕ)) (sets : List ℕ) (lists : List (List ℕ)) (count own : ℕ) (o : AreInOrder edges (length nodes) labels rows)
      (s : AreShared edges (length nodes) labels indexes thin count own sets lists) (none : row_at lists 0 ≡ []) where
    near_sound : (j : ℕ) → GathersNear edges thin sets lists count (row_at rows own) j → Leaves edges (length nodes) labels indexes own j
    near_sound j g =
        let x : ℕ = g.1.0 in
        let near = g.1.1 in
        let m = (o.members own near.0).0 near.1 in
        let q = near_left own near.0 x m.0 m.1 near.2 in
        let v : ℕ = g.1.2.0 in
        let e : E x v = g.1.2.1 in
        let vl = part.in_range x v e in
        let c = subst (λ (k : ℕ). Contains (set_at count lists k) j) (sym g.1.2.2) g.2 in
        let empty : get_or sets v 0 ≡ count → Leaves edges (length nodes) labels indexes own j = λ at.
        let d = subst (λ (k : ℕ). Contains (set_at count lists k) j) at c in
        let f = subst (λ (xs : List ℕ). Contains xs j) (set-none count lists none) d in
        absurd (omega (arith, f.1)) in
        elim (cases_lt (get_or labels v 0) own) [
          | inr later ↦ empty (s.rest v vl (inl later))
          | inl before ↦ elim (cases_Bool (get_or thin v false)) [
            | inl t ↦ empty (s.rest v vl (inr t))
            | inr f ↦ left_more nodes edges labels indexes part cl own x v j q.0 q.1 q.2 e (λ is. absurd (omega (arith, is, before))) ((s.exact v j vl before f).0 c)
          ]
        ]

    -- a walk is followed through thin nodes
    near_walk : (p v y j : ℕ) (zs : List ℕ) → IsNear edges thin (row_at rows own) p → E p v → v < length nodes → get_or labels v 0 < own
        → Walks (Passes edges labels indexes) v zs y → (IsOpen labels indexes y → ⊥) → index_at labels indexes y ≡ j → GathersNear edges thin sets lists count (row_at rows own) j
    near_walk p v y j [] near e vl before w closed at =
        elim (cases_Bool (get_or thin v false)) [
          | inl t ↦ absurd (closed (subst (λ (z : ℕ). IsOpen labels indexes z) w (th.bare v vl t)))
          | inr f ↦ (get_or sets v 0, (p, near, (v, e, refl)), (s.exact v j vl before f).1 (y, record { rows = []; walk = w }, closed, at))
        ]
    near_walk p v y j (z ∷ zs) near e vl before w closed at =
        elim (cases_Bool (get_or thin v false)) [
          | inl t ↦
              near_walk v z y j zs (near.0, near.1, Reaches-then (ThinStep edges thin) near.0 p v near.2 (e, t)) w.0.1 (part.in_range v z w.0.1)
              (omega (arith, before, o.backwards v z w.0.1)) w.1 closed at
          | inr f ↦ (get_or sets v 0, (p, near, (v, e, refl)), (s.exact v j vl before f).1 (y, record { rows = z ∷ zs; walk = w }, closed, at))
        ]

    pub near_leaves : (j : ℕ) → GathersNear edges thin sets lists count (row_at rows own) j ↔ Leaves edges (length nodes) labels indexes own j
    near_leaves j = (
      near_sound j,
      (λ t.
          let out = t.6 in
          near_walk t.0 t.1 out.0 j out.1.rows (t.0, (o.members own t.0).1 (t.2, t.3), Reaches-self (ThinStep edges thin) t.0) t.4 (part.in_range t.0 t.1 t.4)
          (omega (arith, o.backwards t.0 t.1 t.4, t.3, t.5)) out.1.walk out.2 out.3),
    )

-- the thin nodes of a row, one node after the other
pub thin_none : (thin : List Bool) (before : List ℕ) (marks : List Bool) → VisitsThin [] thin before marks before marks
thin_none thin before marks = record {
  more = [];
  appended = sym (append-nil before);
  from_row = All-nil (λ y. Contains [] y × (get_or thin y false ≡ true));
  whole = λ y c. absurd (Contains-nil y c);
  size = refl;
  count = refl;
}

pub thin_old : (row : List ℕ) (thin : List Bool) (before : List ℕ) (marks : List Bool) (after : List ℕ) (marked : List Bool) (y : ℕ) → (get_or thin y false ≡ true → Contains after y)
    → VisitsThin row thin before marks after marked → VisitsThin (row ++ y ∷ []) thin before marks after marked
thin_old row thin before marks after marked y h v = record {
  more = v.more;
  appended = v.appended;
  from_row = All-weaker (λ z. Contains row z × (get_or thin z false ≡ true)) (λ z. Contains (row ++ y ∷ []) z × (get_or thin z false ≡ true))
      (λ z c. (Contains-append_left row (y ∷ []) z c.0, c.1)) v.more v.from_row;
  whole = λ z c t. elim (Contains-push_cases row y z c) [
    | inl d ↦ v.whole z d t
    | inr e ↦ subst (λ (w : ℕ). Contains after w) e (h (subst (λ (w : ℕ). get_or thin w false ≡ true) (sym e) t))
  ];
  size = v.size;
  count = v.count;
}

pub thin_new : (row : List ℕ) (thin : List Bool) (before : List ℕ) (marks : List Bool) (after : List ℕ) (marked : List Bool) (y : ℕ) → get_or thin y false ≡ true → get_or marked y false ≡ false
    → y < length marked → VisitsThin row thin before marks after marked → VisitsThin (row ++ y ∷ []) thin before marks (after ++ y ∷ []) (set marked y true)
thin_new row thin before marks after marked y t f lt v = record {
  more = v.more ++ y ∷ [];
  appended = rw v.appended (append_assoc before v.more (y ∷ []));
  from_row = All-push (λ z. Contains (row ++ y ∷ []) z × (get_or thin z false ≡ true)) v.more y
      (All-weaker (λ z. Contains row z × (get_or thin z false ≡ true)) (λ z. Contains (row ++ y ∷ []) z × (get_or thin z false ≡ true))
      (λ z c. (Contains-append_left row (y ∷ []) z c.0, c.1)) v.more v.from_row)
      (Contains-push row y, t);
  whole = λ z c u. elim (Contains-push_cases row y z c) [
    | inl d ↦ Contains-append_left after (y ∷ []) z (v.whole z d u)
    | inr e ↦ subst (λ (w : ℕ). Contains (after ++ y ∷ []) w) e (Contains-push after y)
  ];
  size = length-set marked y true ∙ v.size;
  count = omega (arith, v.count, length_push after y, unmarked-set marked y lt f);
}

-- a marked node stands in the list, also where one more is marked and listed
pub listed_new : (marked : List Bool) (after : List ℕ) (y : ℕ) → ((z : ℕ) → get_or marked z false ≡ true → Contains after z)
    → (z : ℕ) → get_or (set marked y true) z false ≡ true → Contains (after ++ y ∷ []) z
listed_new marked after y h z t = elim (cases_eq z y) [
  | inl e ↦ subst (λ (w : ℕ). Contains (after ++ y ∷ []) w) (sym e) (Contains-push after y)
  | inr ne ↦ Contains-append_left after (y ∷ []) z (h z (sym (get_or-set_other marked y z true false ne) ∙ t))
]

-- what the search through thin nodes keeps: the first nodes of the list are done
pub record IsNearing (edges : List (List ℕ)) (count : ℕ) (thin : List Bool) (members : List ℕ) (marks : List Bool) (near : List ℕ) (at : ℕ) : Type 0 where
  pub size : length marks ≡ count
  pub done : at ≤ length near
  pub below : All (λ x. x < count) near
  pub listed : (y : ℕ) → get_or marks y false ≡ true → Contains near y
  pub members_in : All (Contains near) members
  pub sound : All (IsNear edges thin members) near
  pub closed : (k y : ℕ) → k < at → ThinStep edges thin (get_or near k 0) y → Contains near y

pub nearing-first : (edges : List (List ℕ)) (count : ℕ) (thin : List Bool) (members : List ℕ) (marks : List Bool) → length marks ≡ count → All (λ x. x < count) members
    → All (λ m. m ≡ false) marks → IsNearing edges count thin members marks members 0
nearing-first edges count thin members marks size below none = record {
  size = size;
  done = omega arith;
  below = below;
  listed = λ y t. elim (cases_lt y (length marks)) [
    | inl lt ↦ absurd (true≢false (sym t ∙ none y false lt))
    | inr ge ↦ absurd (true≢false (sym t ∙ get_or_past marks y false ge))
  ];
  members_in = All-members (Contains members) members (λ x c. c);
  sound = All-members (IsNear edges thin members) members (λ x c. (x, c, Reaches-self (ThinStep edges thin) x));
  closed = λ k y lt. absurd (omega (arith, lt));
}

pub nearing-more : (nodes : List Node) (edges : List (List ℕ)) (thin : List Bool) (members : List ℕ) (marks marks' : List Bool) (near near' : List ℕ) (at x : ℕ) → IsPart nodes edges
    → at < length near → x ≡ get_or near at 0 → ((y : ℕ) → get_or marks' y false ≡ true → Contains near' y) → VisitsThin (row_at edges x) thin near marks near' marks'
    → IsNearing edges (length nodes) thin members marks near at → IsNearing edges (length nodes) thin members marks' near' (at + 1)
nearing-more nodes edges thin members marks marks' near near' at x part lt e l v s =
    let len = ap length v.appended ∙ length-append near v.more in
    let same : (k : ℕ) → k < length near → get_or near' k 0 ≡ get_or near k 0 = λ k h. ap (λ (xs : List ℕ). get_or xs k 0) v.appended ∙ get_or_append_left near v.more 0 k h in
    let grown : (y : ℕ) → Contains near y → Contains near' y = λ y c. subst (λ (xs : List ℕ). Contains xs y) (sym v.appended) (Contains-append_left near v.more y c) in
    let here : IsNear edges thin members x = subst (λ (u : ℕ). IsNear edges thin members u) (sym e) (s.sound at 0 lt) in
    record {
      size = v.size ∙ s.size;
      done = omega (arith, len, lt);
      below = subst (λ (xs : List ℕ). All (λ y. y < length nodes) xs) (sym v.appended)
          (All-append (λ y. y < length nodes) near v.more s.below (All-weaker (λ y. Contains (row_at edges x) y × (get_or thin y false ≡ true))
          (λ y. y < length nodes) (λ y c. part.in_range x y c.0) v.more v.from_row));
      listed = l;
      members_in = All-weaker (Contains near) (Contains near') grown members s.members_in;
      sound = subst (λ (xs : List ℕ). All (IsNear edges thin members) xs) (sym v.appended)
          (All-append (IsNear edges thin members) near v.more s.sound (All-weaker (λ y. Contains (row_at edges x) y × (get_or thin y false ≡ true)) (IsNear edges thin members)
          (λ y c. (here.0, here.1, Reaches-then (ThinStep edges thin) here.0 x y here.2 c)) v.more v.from_row));
      closed = λ k y h t. elim (cases_lt k at) [
        | inl kl ↦ grown y (s.closed k y kl (subst (λ (u : ℕ). ThinStep edges thin u y) (same k (omega (arith, kl, lt))) t))
        | inr ge ↦
            let is : k ≡ at = omega (arith, h, ge) in
            let step : ThinStep edges thin x y = subst (λ (u : ℕ). ThinStep edges thin u y) (ap (λ j. get_or near' j 0) is ∙ same at lt ∙ sym e) t in
            v.whole y step.0 step.1
      ];
    }

pub nearing-found : (edges : List (List ℕ)) (count : ℕ) (thin : List Bool) (members : List ℕ) (marks : List Bool) (near : List ℕ) (at : ℕ) → length near ≤ at
    → IsNearing edges count thin members marks near at → (x : ℕ) → Contains near x ↔ IsNear edges thin members x
nearing-found edges count thin members marks near at ge s x = (
  (λ c. All-contains (IsNear edges thin members) near x s.sound c),
  (λ n. Reaches-keeps (ThinStep edges thin) (Contains near)
      (λ u v t c. s.closed c.0 v (omega (arith, c.1, ge)) (subst (λ (w : ℕ). ThinStep edges thin w v) (sym (get_or_default near c.0 0 u c.1 ∙ c.2)) t))
      n.0 x n.2 (All-contains (Contains near) members n.0 s.members_in n.1)),
)

pub if_found : {E : Type 0} (r : Result ℕ E) (P Q : ℕ → Type 0) → ((s : ℕ) → P s → Q s) → IfOk r P → IfOk r Q
if_found (Ok s) P Q f h = f s h
if_found (Err e) P Q f h = tt

-- what is gathered from a list of exactly the nodes that are near
pub near_gathers : (edges : List (List ℕ)) (thin : List Bool) (sets : List ℕ) (lists : List (List ℕ)) (count : ℕ) (members near : List ℕ)
    → ((x : ℕ) → Contains near x ↔ IsNear edges thin members x) → (j : ℕ) → Gathers edges sets lists count near j ↔ GathersNear edges thin sets lists count members j
near_gathers edges thin sets lists count members near h j = (
  (λ g. (g.0, (g.1.0, (h g.1.0).0 g.1.1, g.1.2), g.2)),
  (λ g. (g.0, (g.1.0, (h g.1.0).1 g.1.1, g.1.2), g.2)),
)

-- where no edge leads from a member to a thin node, the members alone are near
near_self : (edges : List (List ℕ)) (thin : List Bool) (m x : ℕ) (rows : List ℕ) → All (λ y. get_or thin y false ≡ false) (row_at edges m) → Walks (ThinStep edges thin) m rows x → m ≡ x
near_self edges thin m x [] h w = w
near_self edges thin m x (z ∷ rows) h w = absurd (true≢false (sym w.0.1 ∙ All-contains (λ y. get_or thin y false ≡ false) (row_at edges m) z h w.0.0))

pub near_alone : (edges : List (List ℕ)) (thin : List Bool) (members : List ℕ) → All (λ x. All (λ y. get_or thin y false ≡ false) (row_at edges x)) members
    → (x : ℕ) → Contains members x ↔ IsNear edges thin members x
near_alone edges thin members h x = (
  (λ c. (x, c, Reaches-self (ThinStep edges thin) x)),
  (λ n. subst (λ (z : ℕ). Contains members z) (near_self edges thin n.0 x n.2.rows (All-contains (λ y. All (λ z. get_or thin z false ≡ false) (row_at edges y)) members n.0 h n.1) n.2.walk) n.1),
)
