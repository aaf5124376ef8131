-- Heavy classes aside, over any contraction: one comes from one component to another over cross-references and past
-- heavy classes exactly where a walk leads from the first one's class to the second one's past classes without a bridge
-- node.
--
-- There: a cross-reference has its walk; in a heavy class, where the next one begins, one walks from node to node of
-- the class. Back: the walk is followed node by node. At each node what is reported is known that was come to last, and
-- what the walk was in since then is unreported. Whether the class of the next node is heavy can't be computed; but
-- whether the pair is listed can, so it is enough that it isn't impossible.
use Rattle.std.proofs.Common.{◌≡◌, ◌≢◌, ℕ, zero, suc, ◌+◌, ◌-◌, ◌<◌, ◌≤◌, ◌⊎◌, inl, inr, List, [], ◌∷◌, ◌++◌, length, map, get_or, refl, sym, ap, subst, ◌∙◌, arith}
use Rattle.std.specs.List.{All, Contains}
use Rattle.std.proofs.lemmas.Bool.{cases_eq, cases_lt}
use Rattle.std.proofs.lemmas.List.{get_or_append_left, get_or-append_right, length-map}
use Rattle.std.proofs.lemmas.List.Elements.{All-nil, All-cons, All-head, All-tail, All-weaker, Contains-get_or}
use Rattle.std.proofs.lemmas.Option.{slice_get_within, get_or_from_slice_get}
use Rattle.joint_machine.specs.Components.{IsContraction, IsHeavy, IsLeast, IsPlainClass, IsUnreported, Leads, LeadsIn, LeadsOut, first_at, first_of, stand_at}
use Rattle.joint_machine.specs.Walks.{Walks, Reaches, Reached, Mutual}
use Rattle.joint_machine.proofs.Members.{at-Contains, Contains-nil, Contains-here, Contains-there, Contains-cons_cases}
use Rattle.joint_machine.proofs.WalkLemmas.{Reaches-then, Reaches-trans, Reached-keeps, Reached-start, Reached-then, Mutual-self, Mutual-sym, Mutual-trans}
use Rattle.joint_laws.proofs.Circles.{first-there}
use Rattle.joint_laws.proofs.Mirrors.{reported-apart}
use Rattle.xref_list.proofs.Rising.{same_pair}
use Rattle.pass_c.specs.Expanded.{AreExpanded, IsExpansion, IsJoined, Through}

-- it isn't impossible that something holds or doesn't
maybe : (A : Type 0) → (A ⊎ (A → ⊥) → ⊥) → ⊥
maybe A denied = denied (inr (λ a. denied (inl a)))

pairs-decided : (xs : List (ℕ × ℕ)) (p : ℕ × ℕ) → Contains xs p ⊎ (Contains xs p → ⊥)
pairs-decided [] p = inr (Contains-nil p)
pairs-decided (x ∷ xs) p = elim (pairs-decided xs p) [
  | inl c ↦ inl (Contains-there p x xs c)
  | inr denied ↦ elim (cases_eq x.0 p.0) [
    | inr ne ↦ inr (λ c. elim (Contains-cons_cases x xs p c) [ inl e ↦ ne (ap (λ (q : ℕ × ℕ). q.0) e) | inr d ↦ denied d ])
    | inl e ↦ elim (cases_eq x.1 p.1) [
      | inr ne ↦ inr (λ c. elim (Contains-cons_cases x xs p c) [ inl f ↦ ne (ap (λ (q : ℕ × ℕ). q.1) f) | inr d ↦ denied d ])
      | inl f ↦ inl (subst (λ q. Contains (x ∷ xs) q) (same_pair x p e f) (Contains-here x xs))
    ]
  ]
]

-- walks from a class, past what Q holds of, as they go on
module _ (edge : ℕ → ℕ → Type 0) (Q : ℕ → Type 0) where
  abbrev pub Going : ℕ → ℕ → Type 0
  Going a x = Reached (λ y. (from : ℕ) × Mutual edge a from × edge from y) (λ u v. Q u × edge u v) x

  pub going-on : (a x y : ℕ) → Going a x → Q x → edge x y → Going a y
  going-on a x y g q e = Reached-then (λ y. (from : ℕ) × Mutual edge a from × edge from y) (λ u v. Q u × edge u v) x y g (q, e)

  pub going-out : (a x y : ℕ) → Mutual edge a x → edge x y → Going a y
  going-out a x y m e = Reached-start (λ y. (from : ℕ) × Mutual edge a from × edge from y) (λ u v. Q u × edge u v) y (x, m, e)

  listed : (from root : ℕ) (rows : List ℕ) (x : ℕ) → edge from root → Walks (λ u v. Q u × edge u v) root rows x → (between : List ℕ) × All Q between × Walks edge from (between ++ x ∷ []) x
  listed from root [] x e w = ([], All-nil Q, (subst (λ z. edge from z) w e, refl))
  listed from root (z ∷ rows) x e w = (let r = listed root z rows x w.0.1 w.1 in (root ∷ r.0, All-cons Q root r.0 w.0.0 r.1, (e, r.2)))

  pub going-leads : (a b x : ℕ) → Going a x → Mutual edge b x → Leads edge Q a b
  going-leads a b x g m =
      let r = listed g.starts.0 g.root g.reaches.rows x g.starts.2 g.reaches.walk in
      record { from = g.starts.0; between = r.0; to = x; leaves = g.starts.1; arrives = m; walk = r.2; plain = r.1 }

  pub along : (bs : List ℕ) (a u t : ℕ) → Going a u → Q u → All Q bs → Walks edge u (bs ++ t ∷ []) t → Going a t
  along [] a u t g q al w = going-on a u t g q w.0
  along (b ∷ bs) a u t g q al w = along bs a b t (going-on a u b g q w.0) (All-head Q b bs al) (All-tail Q b bs al) w.1

  begun : (bs : List ℕ) (a from t : ℕ) → Mutual edge a from → All Q bs → Walks edge from (bs ++ t ∷ []) t → Going a t
  begun [] a from t m al w = going-out a from t m w.0
  begun (b ∷ bs) a from t m al w = along bs a b t (going-out a from b m w.0) (All-head Q b bs al) (All-tail Q b bs al) w.1

  pub leads-going : (a b : ℕ) (l : Leads edge Q a b) → Going a l.to
  leads-going a b l = begun l.between a l.from l.to l.leaves l.plain l.walk

  -- from node to node of a class that Q holds of
  inside : (h a : ℕ) → ((x : ℕ) → Mutual edge h x → Q x) → (rows : List ℕ) (u v : ℕ) → Mutual edge h u → Walks edge u rows v → Reaches edge v h → Going a u → Going a v
  inside h a q [] u v m w back g = subst (Going a) w g
  inside h a q (z ∷ rows) u v m w back g =
      inside h a q rows z v (record { there = Reaches-then edge h u z m.there w.0; back = Reaches-trans edge z v h (record { rows = rows; walk = w.1 }) back }) w.1 back (going-on a u z g (q u m) w.0)

  pub leads-join : (a h b : ℕ) → ((x : ℕ) → Mutual edge h x → Q x) → Leads edge Q a h → Leads edge Q h b → Leads edge Q a b
  leads-join a h b q l m =
      let way = Reaches-trans edge l.to h m.from l.arrives.back m.leaves.there in
      let at = inside h a q way.rows l.to m.from l.arrives way.walk m.leaves.back (leads-going a h l) in
      going-leads a b m.to (along m.between a m.from m.to at (q m.from m.leaves) m.plain m.walk) m.arrives

module _ (bridge : ℕ → Type 0) (edge : ℕ → ℕ → Type 0) (comps : List (List ℕ)) (heavy : List ℕ) (pairs : List (ℕ × ℕ)) (k : IsContraction bridge edge comps heavy pairs) where
  abbrev S : ℕ → ℕ
  S i = stand_at comps heavy i

  abbrev Count : ℕ
  Count = length comps + length heavy

  abbrev P : ℕ → Type 0
  P = IsPlainClass bridge edge

  abbrev U : ℕ → Type 0
  U = IsUnreported bridge edge

  stand-comp : (i : ℕ) → i < length comps → S i ≡ first_at comps i
  stand-comp i l = get_or_append_left (map first_of comps) heavy 0 i (omega (arith, l, length-map comps first_of))

  stand-heavy : (q : ℕ) → S (length comps + q) ≡ get_or heavy q 0
  stand-heavy q =
      let back : length comps + q - length comps ≡ q = omega arith in
      get_or-append_right (map first_of comps) heavy (length comps) (length comps + q) 0 (length-map comps first_of) (omega arith) ∙ ap (λ z. get_or heavy z 0) back

  heavy-at : (i : ℕ) → length comps ≤ i → i < Count → IsHeavy bridge edge (S i)
  heavy-at i le lt =
      let q = i - length comps in
      let at : length comps + q ≡ i = omega (arith, le) in
      let same : get_or heavy q 0 ≡ S i = sym (stand-heavy q) ∙ ap S at in
      ((k.heavies (S i)).0 (subst (Contains heavy) same (Contains-get_or heavy q 0 (omega (arith, le, lt))))).0

  plain-mutual : (x y : ℕ) → Mutual edge x y → P x → P y
  plain-mutual x y m p b bb n = p b bb (Mutual-trans edge x y b m n)

  heavy-mutual : (x y : ℕ) → Mutual edge x y → IsHeavy bridge edge x → IsHeavy bridge edge y
  heavy-mutual x y m h = record {
    plain = plain-mutual x y m h.plain;
    ins = h.ins;
    outs = h.outs;
    ins_rise = h.ins_rise;
    outs_rise = h.outs_rise;
    lead_in = All-weaker (LeadsIn bridge edge x) (LeadsIn bridge edge y)
        (λ b w. (
          w.0,
          record {
            from = w.1.from;
            between = w.1.between;
            to = w.1.to;
            leaves = w.1.leaves;
            arrives = Mutual-trans edge y x w.1.to (Mutual-sym edge x y m) w.1.arrives;
            walk = w.1.walk;
            plain = w.1.plain;
          },
        )) h.ins h.lead_in;
    lead_out = All-weaker (LeadsOut bridge edge x) (LeadsOut bridge edge y)
        (λ b w. (
          w.0,
          record {
            from = w.1.from;
            between = w.1.between;
            to = w.1.to;
            leaves = Mutual-trans edge y x w.1.from (Mutual-sym edge x y m) w.1.leaves;
            arrives = w.1.arrives;
            walk = w.1.walk;
            plain = w.1.plain;
          },
        )) h.outs h.lead_out;
    some_in = h.some_in;
    some_out = h.some_out;
    many = h.many;
  }

  -- a heavy class is listed at some index: it isn't impossible
  abbrev IsListedAs : ℕ → ℕ → Type 0
  IsListedAs x i = (length comps ≤ i) × (i < Count) × Mutual edge (S i) x

  heavy-listed : (n x : ℕ) → x < n → IsHeavy bridge edge x → ((i : ℕ) → IsListedAs x i → ⊥) → ⊥
  heavy-listed zero x l h none = absurd (omega (arith, l))
  heavy-listed (suc n) x l h none =
      let least : IsLeast edge x = λ y m. elim (cases_lt y x) [
        | inr le ↦ le
        | inl lt ↦ absurd (heavy-listed n y (omega (arith, lt, l)) (heavy-mutual x y m h) (λ i w. none i (w.0, w.1, Mutual-trans edge (S i) y x w.2 (Mutual-sym edge x y m))))
      ] in
      let a = at-Contains heavy x ((k.heavies x).1 (h, least)) in
      let within = slice_get_within heavy a.0 x a.1 in
      let is : S (length comps + a.0) ≡ x = stand-heavy a.0 ∙ get_or_from_slice_get heavy a.0 x 0 a.1 in
      none (length comps + a.0) (omega arith, omega (arith, within), subst (λ z. Mutual edge z x) (sym is) (Mutual-self edge x))

  bridge-at : (i : ℕ) → i < length comps → bridge (S i)
  bridge-at i l = subst bridge (sym (stand-comp i l)) ((k.members (first_at comps i)).0 (i, first-there comps i k.canonical.some l))

  -- there
  joined : (i j : ℕ) → i < length comps → j < length comps → i ≢ j → Through pairs (length comps) i j → IsJoined bridge edge (first_at comps i) (first_at comps j)
  joined i j li lj ne t =
      let r = Reached-keeps (λ z. Contains pairs (i, z)) (λ x z. (length comps ≤ x) × Contains pairs (x, z)) (λ y. (y < Count) × Leads edge P (S i) (S y)) first next j t in
      let apart : Mutual edge (S i) (S j) → ⊥ = λ m. ne (reported-apart bridge edge comps heavy pairs k i j (omega (arith, li)) (omega (arith, lj)) m) in
      subst (λ a. IsJoined bridge edge a (first_at comps j)) (stand-comp i li) (subst (λ b. IsJoined bridge edge (S i) b) (stand-comp j lj) (apart, r.1))
    where
      weaker : (a b : ℕ) → Leads edge U a b → Leads edge P a b
      weaker a b l = record { from = l.from; between = l.between; to = l.to; leaves = l.leaves; arrives = l.arrives; walk = l.walk; plain = All-weaker U P (λ x u. u.plain) l.between l.plain }

      first : (z : ℕ) → Contains pairs (i, z) → (z < Count) × Leads edge P (S i) (S z)
      first z c = (let r = (k.references i z).0 c in (r.1, weaker (S i) (S z) r.2.leads))

      next : (x z : ℕ) → (length comps ≤ x) × Contains pairs (x, z) → (x < Count) × Leads edge P (S i) (S x) → (z < Count) × Leads edge P (S i) (S z)
      next x z e q =
          let r = (k.references x z).0 e.1 in
          let h = heavy-at x e.0 q.0 in
          (r.1, leads-join edge P (S i) (S x) (S z) (λ y m. plain-mutual (S x) y m h.plain) q.1 (weaker (S x) (S z) r.2.leads))

  -- back, from component i to component j
  module _ (i j : ℕ) (li : i < length comps) (lj : j < length comps) (apart : Mutual edge (S i) (S j) → ⊥) where
    abbrev T : ℕ → Type 0
    T y = Through pairs (length comps) i y

    -- what is reported at an index was come to last, and a walk has led from it to x since
    pub record Came (x : ℕ) : Type 0 where
      pub index : ℕ
      pub within : index < Count
      pub here : (index ≡ i) ⊎ ((length comps ≤ index) × T index)
      pub out : Mutual edge (S index) x ⊎ (Going edge U (S index) x × U x)

    next-edge : (x y : ℕ) (a : Came x) → edge x y → Going edge U (S a.index) y
    next-edge x y a e = elim a.out [
      | inl m ↦ going-out edge U (S a.index) x y m e
      | inr g ↦ going-on edge U (S a.index) x y g.0 g.1 e
    ]

    -- on to something else that is reported
    on-to : (x y z : ℕ) (a : Came x) → z < Count → Going edge U (S a.index) y → Mutual edge (S z) y → (Mutual edge (S a.index) (S z) → ⊥) → T z
    on-to x y z a lz g m ne =
        let c : Contains pairs (a.index, z) = (k.references a.index z).1 (a.within, lz, record { apart = ne; leads = going-leads edge U (S a.index) (S z) y g m }) in
        elim a.here [
          | inl e ↦ Reached-start (λ y. Contains pairs (i, y)) (λ x y. (length comps ≤ x) × Contains pairs (x, y)) z (subst (λ s. Contains pairs (s, z)) e c)
          | inr h ↦ Reached-then (λ y. Contains pairs (i, y)) (λ x y. (length comps ≤ x) × Contains pairs (x, y)) a.index z h.1 (h.0, c)
        ]

    far : (x : ℕ) (a : Came x) → Mutual edge (S a.index) (S j) → ⊥
    far x a m = elim a.here [
      | inl e ↦ apart (subst (λ s. Mutual edge (S s) (S j)) e m)
      | inr h ↦ (heavy-at a.index h.0 a.within).plain (S j) (bridge-at j lj) m
    ]

    follow : (bs : List ℕ) (x t : ℕ) → Came x → All P bs → Mutual edge (S j) t → Walks edge x (bs ++ t ∷ []) t → (T j → ⊥) → ⊥
    follow [] x t a al m w denied = denied (on-to x t j a (omega (arith, lj)) (next-edge x t a w.0) m (far x a))
    follow (b ∷ bs) x t a al m w denied =
        let g = next-edge x b a w.0 in
        let rest = All-tail P b bs al in
        maybe (IsHeavy bridge edge b) (λ d. elim d [
          | inr light ↦ follow bs b t (record { index = a.index; within = a.within; here = a.here; out = inr (g, record { plain = All-head P b bs al; light = light }) }) rest m w.1 denied
          | inl h ↦ heavy-listed (suc b) b (omega arith) h (λ z l.
              maybe (Mutual edge (S a.index) b) (λ q. elim q [
                | inl same ↦ follow bs b t (record { index = a.index; within = a.within; here = a.here; out = inl same }) rest m w.1 denied
                | inr other ↦ follow bs b t (record {
                  index = z;
                  within = l.1;
                  here = inr (l.0, on-to x b z a l.1 g l.2 (λ r. other (Mutual-trans edge (S a.index) (S z) b r l.2)));
                  out = inl l.2;
                }) rest m w.1 denied
              ]))
        ])

    pub followed : Leads edge P (S i) (S j) → (T j → ⊥) → ⊥
    followed l denied = follow l.between l.from l.to (record { index = i; within = omega (arith, li); here = inl refl; out = inl l.leaves }) l.plain l.arrives l.walk denied

  pub expansion : (out : List (ℕ × ℕ)) → AreExpanded pairs (length comps) out → IsExpansion bridge edge comps out
  expansion out a = record {
    canonical = record { members = k.canonical.members; some = k.canonical.some; order = k.canonical.order; rising = a.rising };
    members = k.members;
    together = k.together;
    references = λ i j. (forth i j, back i j);
  }
    where
      forth : (i j : ℕ) → Contains out (i, j) → (i < length comps) × (j < length comps) × IsJoined bridge edge (first_at comps i) (first_at comps j)
      forth i j c = (let e = (a.exact i j).0 c in (e.0, e.1, joined i j e.0 e.1 e.2 e.3))

      back : (i j : ℕ) → (i < length comps) × (j < length comps) × IsJoined bridge edge (first_at comps i) (first_at comps j) → Contains out (i, j)
      back i j w =
          let si = stand-comp i w.0 in
          let sj = stand-comp j w.1 in
          let q : IsJoined bridge edge (S i) (S j) = subst (λ x. IsJoined bridge edge x (S j)) (sym si) (subst (λ y. IsJoined bridge edge (first_at comps i) y) (sym sj) w.2) in
          elim (pairs-decided out (i, j)) [
            | inl c ↦ c
            | inr denied ↦ absurd (followed i j w.0 w.1 q.0 q.1
                (λ t. denied ((a.exact i j).1 (w.0, w.1, (λ e. q.0 (subst (λ x. Mutual edge (S i) (S x)) e (Mutual-self edge (S i)))), t))))
          ]
