-- Going through the nodes in order, a class is listed at the first of its nodes that is come by, which is its least;
-- and classes with many components on either side, by exact counts, are exactly the heavy ones.
use Rattle.std.proofs.Common.{◌≡◌, ◌≢◌, ◌⊎◌, ℕ, suc, ◌+◌, ◌-◌, ◌<◌, ◌≤◌, List, [], ◌∷◌, ◌++◌, length, map, get_or, set, refl, sym, ◌∙◌, ap, subst, arith, inl, inr}
use Rattle.std.proofs.lemmas.List.{length_push, length-map, length-set, get_or_default, get_or_append_left, get_or-append_right, get_or_push, get_or-set_same, get_or-set_other}
use Rattle.std.proofs.lemmas.List.Elements.{All-nil, All-push, All-weaker, All-head, All-tail, All-contains, Contains-get_or, Contains-push_cases}
use Rattle.std.proofs.lemmas.Bool.{cases_lt, cases_eq, cases_order}
use Rattle.std.specs.List.{All, Contains}
use Rattle.joint_machine.specs.Walks.{Walks}
use Rattle.joint_machine.specs.Components.{Rises, first_of, first_at, stand_at, IsHeavy, LeadsOut}
use Rattle.joint_machine.proofs.Members.{All-members, Rises-push}
use Rattle.joint_machine.proofs.WalkLemmas.{Reaches-keeps, Mutual-sym}
use Rattle.xref_list.proofs.Comps.{few_rising}
use Rattle.bridge_graph.specs.declared.graph.Node.{Node}
use Rattle.bridge_graph.specs.declared.packing.Link.{Link}
use Rattle.bridge_graph.specs.Parts.{IsBridgeNode, IsPart, NodeLeads}
use Rattle.component_pass.specs.Classes.{AreClasses, AreInOrder}
use Rattle.component_pass.specs.Counting.{IsCount, IsWide, ComesIn, cap}
use Rattle.component_pass.specs.Grouping.{AreListed, group, links_of}
use Rattle.component_pass.specs.Reporting.{AreReported, AreHeavyBelow, AreLight, AreMany}
use Rattle.component_pass.specs.Sharing.{index_at, IsOpen, AreNumbered, Leaves, ComesOut}
use Rattle.component_pass.proofs.Capped.{heavy_of, light_of, count_least}
use Rattle.component_pass.proofs.Converse.{AreFirsts, count_in, count_out}
use Rattle.component_pass.proofs.Crossing.{Setting, at_label, comp_at, firsts_are, index_of}
use Rattle.component_pass.proofs.Grouped.{group-has, group-members, bridge-below}
use Rattle.component_pass.proofs.Leaving.{open_leaves}
use Rattle.component_pass.proofs.Listed.{rises_at}
use Rattle.component_pass.proofs.Rows.{links-grouped}

-- two rising lists of different numbers from a on, below n, have at most n - a together
two_rising : (xs ys : List ℕ) (a n : ℕ) → a ≤ n → Rises xs → Rises ys → All (λ x. a ≤ x) xs → All (λ y. a ≤ y) ys → All (λ x. x < n) xs → All (λ y. y < n) ys
    → ((z : ℕ) → Contains xs z → Contains ys z → ⊥) → a + length xs + length ys ≤ n
two_rising [] ys a n le rx ry ax ay bx by apart = omega (arith, few_rising ys a n ry ay by, le)
two_rising (x ∷ xs) [] a n le rx ry ax ay bx by apart = omega (arith, few_rising (x ∷ xs) a n rx ax bx, le)
two_rising (x ∷ xs) (y ∷ ys) a n le rx ry ax ay bx by apart =
    let xa : a ≤ x = All-head (λ z. a ≤ z) x xs ax in
    let ya : a ≤ y = All-head (λ z. a ≤ z) y ys ay in
    let xb : x < n = All-head (λ z. z < n) x xs bx in
    let yb : y < n = All-head (λ z. z < n) y ys by in
    elim (cases_order x y) [
      | inl e ↦ absurd (apart x (0, omega arith, refl) (0, omega arith, sym e))
      | inr o ↦ elim o [
        | inl lt ↦
            let above : All (λ z. suc x ≤ z) (y ∷ ys) = λ k d kl. elim (cases_eq k 0) [
              | inl z ↦ let e : get_or (y ∷ ys) k d ≡ y = ap (λ (i : ℕ). get_or (y ∷ ys) i d) z in omega (arith, e, lt)
              | inr ne ↦ let g = rises_at (y ∷ ys) 0 k ry (omega (arith, ne)) kl in let e : get_or (y ∷ ys) k d ≡ get_or (y ∷ ys) k 0 = get_or_default (y ∷ ys) k d 0 kl in omega (arith, g, lt, e)
            ] in
            let r = two_rising xs (y ∷ ys) (suc x) n (omega (arith, xb)) rx.1 ry rx.0 above (All-tail (λ z. z < n) x xs bx) by (λ z c. apart z (suc c.0, omega (arith, c.1), c.2)) in
            omega (arith, r, xa)
        | inr gt ↦
            let above : All (λ z. suc y ≤ z) (x ∷ xs) = λ k d kl. elim (cases_eq k 0) [
              | inl z ↦ let e : get_or (x ∷ xs) k d ≡ x = ap (λ (i : ℕ). get_or (x ∷ xs) i d) z in omega (arith, e, gt)
              | inr ne ↦ let g = rises_at (x ∷ xs) 0 k rx (omega (arith, ne)) kl in let e : get_or (x ∷ xs) k d ≡ get_or (x ∷ xs) k 0 = get_or_default (x ∷ xs) k d 0 kl in omega (arith, g, gt, e)
            ] in
            let r = two_rising (x ∷ xs) ys (suc y) n (omega (arith, yb)) rx ry.1 above ry.0 bx (All-tail (λ z. z < n) y ys by) (λ z c d. apart z c (suc d.0, omega (arith, d.1), d.2)) in
            omega (arith, r, ya)
      ]
    ]

module _ (labels before outs ins : List ℕ) (count : ℕ) where
  abbrev So : ℕ → List ℕ → List ℕ → Type 0
  So x indexes heavy = AreHeavyBelow labels before outs ins count x indexes heavy

  abbrev Many : ℕ → Type 0
  Many l = AreMany (get_or ins l 0) (get_or outs l 0)

  pub heavy-none : So 0 before []
  heavy-none = record {
    size = refl;
    kept = λ l e. refl;
    rise = tt;
    below = All-nil (λ h. h < 0);
    each = All-nil (λ h. (get_or before (get_or labels h 0) 0 ≡ 4294967295) × Many (get_or labels h 0));
    least = λ h y c e. absurd (omega (arith, c.1));
    stand = λ k lt. absurd (omega (arith, lt));
    found = λ l e ne. absurd (ne e);
    light = λ y lt. absurd (omega (arith, lt));
  }

  -- a node whose class has an index, or not so many, is passed by
  pub heavy-skip : (x : ℕ) (indexes heavy : List ℕ) → ((get_or indexes (get_or labels x 0) 0 ≡ 4294967295) → Many (get_or labels x 0) → ⊥) → So x indexes heavy → So (x + 1) indexes heavy
  heavy-skip x indexes heavy other h = record {
    size = h.size;
    kept = h.kept;
    rise = h.rise;
    below = All-weaker (λ z. z < x) (λ z. z < x + 1) (λ z lt. omega (arith, lt)) heavy h.below;
    each = h.each;
    least = h.least;
    stand = h.stand;
    found = h.found;
    light = λ y lt e m. elim (cases_lt y x) [
      | inl l ↦ h.light y l e m
      | inr ge ↦
          let is : y ≡ x = omega (arith, ge, lt) in
          other (subst (λ (z : ℕ). get_or indexes (get_or labels z 0) 0 ≡ 4294967295) is e) (subst (λ (z : ℕ). Many (get_or labels z 0)) is m)
    ];
  }

  -- the classes listed so far and one more without an index are different ones that had none before
  pub heavy-next : (x : ℕ) (indexes heavy : List ℕ) → get_or indexes (get_or labels x 0) 0 ≡ 4294967295 → So x indexes heavy
      → Rises (heavy ++ x ∷ []) × All (λ h. h < x + 1) (heavy ++ x ∷ []) × All (λ h. get_or before (get_or labels h 0) 0 ≡ 4294967295) (heavy ++ x ∷ [])
  heavy-next x indexes heavy bare h = (
    Rises-push heavy x h.rise h.below,
    All-push (λ z. z < x + 1) heavy x (All-weaker (λ z. z < x) (λ z. z < x + 1) (λ z zl. omega (arith, zl)) heavy h.below) (omega arith),
    All-push (λ z. get_or before (get_or labels z 0) 0 ≡ 4294967295) heavy x (λ k d lt. (h.each k d lt).0) (elim (cases_eq (get_or before (get_or labels x 0) 0) 4294967295) [
      | inl e ↦ e
      | inr ne ↦ absurd (ne (sym (h.kept (get_or labels x 0) ne) ∙ bare))
    ]),
  )

  -- another is listed
  pub heavy-more : (x : ℕ) (indexes heavy : List ℕ) → get_or labels x 0 < length before
      → get_or indexes (get_or labels x 0) 0 ≡ 4294967295 → Many (get_or labels x 0) → count + length heavy < 4294967295
      → So x indexes heavy → So (x + 1) (set indexes (get_or labels x 0) (count + length heavy)) (heavy ++ x ∷ [])
  heavy-more x indexes heavy lt bare many few h =
      let own : ℕ = get_or labels x 0 in
      let after = set indexes own (count + length heavy) in
      let before_bare : get_or before own 0 ≡ 4294967295 = elim (cases_eq (get_or before own 0) 4294967295) [
        | inl e ↦ e
        | inr ne ↦ absurd (ne (sym (h.kept own ne) ∙ bare))
      ] in
      let here : get_or after own 0 ≡ count + length heavy = get_or-set_same indexes own (count + length heavy) 0 (omega (arith, lt, h.size)) in
      let there : (l : ℕ) → l ≢ own → get_or after l 0 ≡ get_or indexes l 0 = λ l ne. get_or-set_other indexes own l (count + length heavy) 0 ne in
      let away : (k : ℕ) → k < length heavy → get_or labels (get_or heavy k 0) 0 ≢ own = λ k kl e.
      omega (arith, h.stand k kl, ap (λ (l : ℕ). get_or indexes l 0) e, bare, few, kl) in
      let old : (k : ℕ) → k < length heavy → get_or (heavy ++ x ∷ []) k 0 ≡ get_or heavy k 0 = λ k kl. get_or_append_left heavy (x ∷ []) 0 k kl in
      let new : get_or (heavy ++ x ∷ []) (length heavy) 0 ≡ x = get_or_push heavy x 0 (length heavy) refl in
      record {
        size = length-set indexes own (count + length heavy) ∙ h.size;
        kept = λ l ne. there l (λ e. ne (ap (λ (k : ℕ). get_or before k 0) e ∙ before_bare)) ∙ h.kept l ne;
        rise = Rises-push heavy x h.rise h.below;
        below = All-push (λ z. z < x + 1) heavy x (All-weaker (λ z. z < x) (λ z. z < x + 1) (λ z zl. omega (arith, zl)) heavy h.below) (omega arith);
        each = All-push (λ z. (get_or before (get_or labels z 0) 0 ≡ 4294967295) × Many (get_or labels z 0)) heavy x h.each (before_bare, many);
        least = λ z y c e. elim (Contains-push_cases heavy x z c) [
          | inl d ↦ h.least z y d e
          | inr is ↦ elim (cases_lt y x) [
            | inl yl ↦
                let same : get_or labels y 0 ≡ own = e ∙ ap (λ (w : ℕ). get_or labels w 0) (sym is) in
                absurd (h.light y yl (ap (λ (l : ℕ). get_or indexes l 0) same ∙ bare) (subst (λ (l : ℕ). Many l) (sym same) many))
            | inr ge ↦ omega (arith, ge, is)
          ]
        ];
        stand = λ k kl. elim (cases_lt k (length heavy)) [
          | inl l ↦ ap (λ (z : ℕ). get_or after (get_or labels z 0) 0) (old k l) ∙ there (get_or labels (get_or heavy k 0) 0) (away k l) ∙ h.stand k l
          | inr ge ↦
              let is : k ≡ length heavy = omega (arith, ge, kl, length_push heavy x) in
              ap (λ (i : ℕ). get_or after (get_or labels (get_or (heavy ++ x ∷ []) i 0) 0) 0) is ∙ ap (λ (z : ℕ). get_or after (get_or labels z 0) 0) new ∙ here ∙ ap (λ (i : ℕ). count + i) (sym is)
        ];
        found = λ l e ne. elim (cases_eq l own) [
          | inl is ↦ (length heavy, omega (arith, length_push heavy x), ap (λ (z : ℕ). get_or labels z 0) new ∙ sym is)
          | inr far ↦
              let t = h.found l e (λ b. ne (there l far ∙ b)) in
              (t.0, omega (arith, t.1, length_push heavy x), ap (λ (z : ℕ). get_or labels z 0) (old t.0 t.1) ∙ t.2)
        ];
        light = λ y yl e m. elim (cases_eq (get_or labels y 0) own) [
          | inl is ↦ absurd (omega (arith, ap (λ (l : ℕ). get_or after l 0) is, here, e, few))
          | inr far ↦ elim (cases_lt y x) [
            | inl l ↦ h.light y l (sym (there (get_or labels y 0) far) ∙ e) m
            | inr ge ↦ let is : y ≡ x = omega (arith, ge, yl) in absurd (far (ap (λ (z : ℕ). get_or labels z 0) is))
          ]
        ];
      }

  -- where none has so many, nothing is to be listed
  pub heavy-light : (x : ℕ) → All (λ l. l < length before) labels → x ≤ length labels → AreLight before outs ins → So x before []
  heavy-light x small le light =
      let n = heavy-none in
      record {
        size = n.size;
        kept = n.kept;
        rise = n.rise;
        below = All-nil (λ h. h < x);
        each = n.each;
        least = n.least;
        stand = n.stand;
        found = n.found;
        light = λ y lt e m. light (get_or labels y 0) (small y 0 (omega (arith, lt, le))) e m;
      }

module _ (nodes : List Node) (edges : List (List ℕ)) (labels : List ℕ) (links : List Link) (comps : List (List ℕ)) (indexes : List ℕ)
    (s : Setting nodes edges labels links comps indexes) (rows : ℕ) (labelled : (x : ℕ) → x < length nodes → get_or labels x 0 < rows)
    (few : length comps ≤ 4294967294) (none : (l : ℕ) → l < rows → length (group links l) ≡ 0 → get_or indexes l 0 ≡ 4294967295) where
  abbrev B : ℕ → Type 0
  B = IsBridgeNode nodes

  abbrev E : ℕ → ℕ → Type 0
  E = NodeLeads edges

  firsts : AreFirsts nodes edges labels indexes (length comps) (first_at comps)
  firsts = firsts_are nodes edges labels links comps indexes s rows labelled few none

  -- a class with an index has a bridge node
  bridge_in : (l : ℕ) → l < rows → get_or indexes l 0 ≢ 4294967295 → (b : ℕ) × IsBridgeNode nodes b × (get_or labels b 0 ≡ l)
  bridge_in l lt ne = elim (cases_eq (length (group links l)) 0) [
    | inl z ↦ absurd (ne (none l lt z))
    | inr some ↦
        let m = group-members nodes labels (length nodes) links l s.grouped 0 0 (omega (arith, some)) in
        (get_or (group links l) 0 0, m.2, m.1)
  ]

  -- the indexes of the components, before any heavy class is listed
  pub numbered_first : AreNumbered (length nodes) labels rows indexes (length comps)
  numbered_first = record {
    below = λ l lt ne. let b = bridge_in l lt ne in subst (λ (k : ℕ). get_or indexes k 0 < length comps) b.2 (index_of nodes edges labels links comps indexes s b.0 b.1).0;
    apart = λ l m ll ml ne e.
        let b = bridge_in l ll ne in
        let d = bridge_in m ml (λ z. ne (e ∙ z)) in
        let i = index_of nodes edges labels links comps indexes s b.0 b.1 in
        let k = index_of nodes edges labels links comps indexes s d.0 d.1 in
        let same : group links l ≡ group links m =
        ap (λ (z : ℕ). group links z) (sym b.2) ∙ sym i.1 ∙ ap (λ (z : ℕ). get_or comps z []) (ap (λ (z : ℕ). get_or indexes z 0) b.2 ∙ e ∙ ap (λ (z : ℕ). get_or indexes z 0) (sym d.2))
        ∙ k.1 ∙ ap (λ (z : ℕ). group links z) d.2 in
        let has = subst (λ (z : ℕ). Contains (group links z) b.0) b.2 (group-has nodes labels (length nodes) links b.0 s.grouped (bridge-below nodes b.0 b.1) b.1) in
        let mem = All-contains (λ z. (z < length nodes) × (get_or labels z 0 ≡ m) × IsBridgeNode nodes z) (group links m) b.0
        (group-members nodes labels (length nodes) links m s.grouped) (subst (λ (xs : List ℕ). Contains xs b.0) same has) in
        sym b.2 ∙ mem.1;
    onto = λ i lt. (first_at comps i, bridge-below nodes (first_at comps i) (comp_at nodes edges labels links comps indexes s i lt).0, at_label nodes edges labels links comps indexes s i lt);
  }

  first_below : All (λ z. z < length nodes) (map first_of comps)
  first_below = λ k d lt.
      let kl : k < length comps = omega (arith, lt, length-map comps first_of) in
      omega (arith, get_or_default (map first_of comps) k d 0 lt, bridge-below nodes (first_at comps k) (comp_at nodes edges labels links comps indexes s k kl).0)

  -- components and different classes without an index are at most as many as there are nodes
  pub room_for : (heavy : List ℕ) → Rises heavy → All (λ h. (h < length nodes) × (get_or indexes (get_or labels h 0) 0 ≡ 4294967295)) heavy → length comps + length heavy ≤ length nodes
  room_for heavy r a =
      omega (
        arith,
        length-map comps first_of,
        two_rising (map first_of comps) heavy 0 (length nodes) (omega arith) s.listed.order r (λ k d lt. omega arith) (λ k d lt. omega arith) first_below (λ k d lt. (a k d lt).0)
            (λ z c d.
            let kl : c.0 < length comps = omega (arith, c.1, length-map comps first_of) in
            let is : first_at comps c.0 ≡ z = get_or_default (map first_of comps) c.0 0 z c.1 ∙ c.2 in
            let at = at_label nodes edges labels links comps indexes s c.0 kl in
            let h = All-contains (λ w. (w < length nodes) × (get_or indexes (get_or labels w 0) 0 ≡ 4294967295)) heavy z a d in
            omega (arith, at, ap (λ (w : ℕ). get_or indexes (get_or labels w 0) 0) is, h.1, kl, few)),
      )

  module _ (outs ins : List ℕ) (after heavy : List ℕ)
      (led_to : (l : ℕ) → l < rows → IsCount (Leaves edges (length nodes) labels indexes l) cap (get_or outs l 0))
      (lead_in : (x : ℕ) → x < length nodes → IsWide labels indexes outs x → IsCount (ComesIn edges labels indexes x) cap (get_or ins (get_or labels x 0) 0))
      (h : AreHeavyBelow labels indexes outs ins (length comps) (length nodes) after heavy) where
    abbrev K : ℕ
    K = length comps + length heavy

    abbrev at : ℕ → ℕ
    at x = get_or labels x 0

    count_of : (x : ℕ) → x < length nodes → IsOpen labels indexes x → IsCount (LeadsOut B E x) cap (get_or outs (at x) 0)
    count_of x lt o =
        let c = led_to (at x) (labelled x lt) in
        count_out nodes edges labels indexes (length comps) (first_at comps) s.part s.classes firsts cap (get_or outs (at x) 0) x lt o record {
          named = c.named;
          rise = c.rise;
          hold = All-members (ComesOut edges labels indexes x) c.named
              (λ j d. (open_leaves nodes edges labels indexes s.part s.classes x j lt o).1 (All-contains (Leaves edges (length nodes) labels indexes (at x)) c.named j c.hold d));
          least = c.least;
          most = c.most;
          whole = λ f j t. c.whole f j ((open_leaves nodes edges labels indexes s.part s.classes x j lt o).0 t);
        }

    -- the counts decide which classes are heavy
    is_heavy : (x : ℕ) → x < length nodes → IsOpen labels indexes x → AreMany (get_or ins (at x) 0) (get_or outs (at x) 0) → IsHeavy B E x
    is_heavy x lt o m =
        heavy_of B E x (get_or ins (at x) 0) (get_or outs (at x) 0)
        (count_in nodes edges labels indexes (length comps) (first_at comps) s.part s.classes firsts cap (get_or ins (at x) 0) x lt o (lead_in x lt (o, m.1)))
        (count_of x lt o) ((firsts.plain x lt).0 o) m.0 m.1 m.2

    not_heavy : (x : ℕ) → x < length nodes → IsOpen labels indexes x → (AreMany (get_or ins (at x) 0) (get_or outs (at x) 0) → ⊥) → IsHeavy B E x → ⊥
    not_heavy x lt o few_of hv = elim (cases_lt (get_or outs (at x) 0) 3) [
      | inl less ↦
          let c = count_of x lt o in
          omega (arith, less, hv.some_out, count_least (LeadsOut B E x) cap (get_or outs (at x) 0) hv.outs c (omega (arith, less)) hv.outs_rise hv.lead_out)
      | inr ge ↦
          light_of B E x (get_or ins (at x) 0) (get_or outs (at x) 0)
          (count_in nodes edges labels indexes (length comps) (first_at comps) s.part s.classes firsts cap (get_or ins (at x) 0) x lt o (lead_in x lt (o, ge)))
          (count_of x lt o) (λ a b m. few_of (a, b, m)) hv
    ]

    end_below : (from to : ℕ) (zs : List ℕ) → Walks E from (zs ++ to ∷ []) to → to < length nodes
    end_below from to [] w = s.part.in_range from to w.0
    end_below from to (z ∷ zs) w = end_below z to zs w.1

    -- what leads into a node is in a graph's range, and so is the node
    heavy_below : (x : ℕ) → IsHeavy B E x → x < length nodes
    heavy_below x hv =
        let t = hv.lead_in 0 0 (omega (arith, hv.some_in)) in
        let d = t.1 in
        Reaches-keeps E (λ v. v < length nodes) (λ u v e q. s.part.in_range u v e) d.to x d.arrives.back (end_below d.from d.to d.between d.walk)

    in_heavy : (k : ℕ) → k < length heavy → (get_or heavy k 0 < length nodes) × IsOpen labels indexes (get_or heavy k 0)
        × AreMany (get_or ins (at (get_or heavy k 0)) 0) (get_or outs (at (get_or heavy k 0)) 0)
    in_heavy k kl = let e = h.each k 0 kl in (h.below k 0 kl, e.0, e.1)

    -- an open class that got an index was listed at its least node
    listed_at : (x : ℕ) → x < length nodes → IsOpen labels indexes x → (IsOpen labels after x → ⊥) → (k : ℕ) × (k < length heavy) × (get_or labels (get_or heavy k 0) 0 ≡ at x)
    listed_at x lt o closed = h.found (at x) o closed

    stays : (x : ℕ) → IsOpen labels after x → IsOpen labels indexes x
    stays x o = elim (cases_eq (get_or indexes (at x) 0) 4294967295) [ inl e ↦ e | inr ne ↦ absurd (ne (sym (h.kept (at x) ne) ∙ o)) ]

    stand_first : (i : ℕ) → i < length comps → stand_at comps heavy i ≡ first_at comps i
    stand_first i lt = get_or_append_left (map first_of comps) heavy 0 i (omega (arith, lt, length-map comps first_of))

    stand_heavy : (k : ℕ) → stand_at comps heavy (length comps + k) ≡ get_or heavy k 0
    stand_heavy k = get_or-append_right (map first_of comps) heavy (length comps) (length comps + k) 0 (length-map comps first_of) (omega arith)
        ∙ ap (λ (i : ℕ). get_or heavy i 0) (let e : length comps + k - length comps ≡ k = omega arith in e)

    stands : (i : ℕ) → i < K → (stand_at comps heavy i < length nodes) × (index_at labels after (stand_at comps heavy i) ≡ i)
    stands i lt = elim (cases_lt i (length comps)) [
      | inl l ↦
          let z : ℕ = first_at comps i in
          let e = at_label nodes edges labels links comps indexes s i l in
          rw (stand_first i l) (bridge-below nodes z (comp_at nodes edges labels links comps indexes s i l).0, h.kept (at z) (λ o. omega (arith, o, e, l, few)) ∙ e)
      | inr ge ↦
          let k : ℕ = i - length comps in
          let kl : k < length heavy = omega (arith, ge, lt) in
          let is : i ≡ length comps + k = omega (arith, ge) in
          rw (is, stand_heavy k) ((in_heavy k kl).0, h.stand k kl)
    ]

    pub reported_of : AreReported nodes edges labels rows after comps heavy
    reported_of =
        let num = numbered_first in
        let index_is : (l : ℕ) → l < rows → get_or after l 0 ≢ 4294967295
        → ((get_or indexes l 0 ≢ 4294967295) × (get_or after l 0 ≡ get_or indexes l 0))
        ⊎ ((k : ℕ) × (k < length heavy) × (at (get_or heavy k 0) ≡ l) × (get_or after l 0 ≡ length comps + k)) = λ l lt ne.
        elim (cases_eq (get_or indexes l 0) 4294967295) [
          | inl o ↦
              let t = h.found l o ne in
              inr (t.0, t.1, t.2, ap (λ (z : ℕ). get_or after z 0) (sym t.2) ∙ h.stand t.0 t.1)
          | inr c ↦ inl (c, h.kept l c)
        ] in
        record {
          numbered = record {
            below = λ l lt ne. elim (index_is l lt ne) [ inl t ↦ omega (arith, num.below l lt t.0, t.1) | inr t ↦ omega (arith, t.1, t.3) ];
            apart = λ l m ll ml ne e. elim (index_is l ll ne) [
              | inl t ↦ elim (index_is m ml (λ z. ne (e ∙ z))) [
                | inl u ↦ num.apart l m ll ml t.0 (sym t.1 ∙ e ∙ u.1)
                | inr u ↦ absurd (omega (arith, num.below l ll t.0, t.1, e, u.3))
              ]
              | inr t ↦ elim (index_is m ml (λ z. ne (e ∙ z))) [
                | inl u ↦ absurd (omega (arith, num.below m ml u.0, u.1, e, t.3))
                | inr u ↦ let same : t.0 ≡ u.0 = omega (arith, t.3, u.3, e) in sym t.2 ∙ ap (λ (k : ℕ). at (get_or heavy k 0)) same ∙ u.2
              ]
            ];
            onto = λ i lt. (stand_at comps heavy i, (stands i lt).0, (stands i lt).1);
          };
          stand = stands;
          rise = h.rise;
          heavies = λ x. (
            (λ c.
                let e = in_heavy c.0 c.1 in
                let is : get_or heavy c.0 0 ≡ x = get_or_default heavy c.0 0 x c.1 ∙ c.2 in
                let hv = subst (λ (z : ℕ). IsHeavy B E z) is (is_heavy (get_or heavy c.0 0) e.0 e.1 e.2) in
                let xl = heavy_below x hv in (
                  hv,
                  λ y m.
                      let yl = Reaches-keeps E (λ v. v < length nodes) (λ u v g q. s.part.in_range u v g) x y m.there xl in
                      h.least x y c ((s.classes.exact y x yl xl).1 (Mutual-sym E x y m)),
                )),
            (λ t.
                let xl = heavy_below x t.0 in
                let o = (firsts.plain x xl).1 t.0.plain in
                elim (cases_eq (get_or after (at x) 0) 4294967295) [
                  | inl a ↦ absurd (not_heavy x xl o (h.light x xl a) t.0)
                  | inr ne ↦
                      let k = listed_at x xl o ne in
                      let y : ℕ = get_or heavy k.0 0 in
                      let c : Contains heavy y = Contains-get_or heavy k.0 0 k.1 in
                      let yl = (in_heavy k.0 k.1).0 in
                      let le = t.1 y ((s.classes.exact x y xl yl).0 (sym k.2)) in
                      let ge = h.least y x c (sym k.2) in
                      subst (λ (z : ℕ). Contains heavy z) (let e : y ≡ x = omega (arith, le, ge) in e) c
                ]),
          );
          bare = λ x lt. (
            (λ a. let o = stays x a in record { plain = (firsts.plain x lt).0 o; light = not_heavy x lt o (h.light x lt a) }),
            (λ u.
                let o = (firsts.plain x lt).1 u.plain in
                elim (cases_eq (get_or after (at x) 0) 4294967295) [
                  | inl a ↦ a
                  | inr ne ↦
                      let k = listed_at x lt o ne in
                      let e = in_heavy k.0 k.1 in
                      let m = subst (λ (l : ℕ). AreMany (get_or ins l 0) (get_or outs l 0)) k.2 e.2 in
                      absurd (u.light (is_heavy x lt o m))
                ]),
          );
        }

    -- the components are listed with the new indexes too
    pub listed_still : AreListed nodes labels links (length nodes) comps after
    listed_still = record {
      each = s.listed.each;
      before = s.listed.before;
      order = s.listed.order;
      found = λ y b lt.
          let i = index_of nodes edges labels links comps indexes s y b in
          let e = h.kept (at y) (λ o. omega (arith, o, i.0, few)) in
          rw e (s.listed.found y b lt);
    }

-- what is known once the components are listed
pub record AreFound (nodes : List Node) (edges : List (List ℕ)) (labels : List ℕ) (rows : List (List ℕ)) (comps : List (List ℕ)) (indexes : List ℕ) : Type 0 where
  pub part : IsPart nodes edges
  pub classes : AreClasses edges (length nodes) labels
  pub order : AreInOrder edges (length nodes) labels rows
  pub listed : AreListed nodes labels (links_of nodes labels) (length nodes) comps indexes
  pub plain : (l : ℕ) → l < length rows → length (group (links_of nodes labels) l) ≡ 0 → get_or indexes l 0 ≡ 4294967295
  pub few : length comps ≤ 4294967294

module _ (nodes : List Node) (edges : List (List ℕ)) (labels : List ℕ) (rows : List (List ℕ)) (comps : List (List ℕ)) (indexes : List ℕ) (f : AreFound nodes edges labels rows comps indexes) where
  setting : Setting nodes edges labels (links_of nodes labels) comps indexes
  setting = record { part = f.part; classes = f.classes; grouped = links-grouped nodes labels; listed = f.listed }

  pub components_numbered : AreNumbered (length nodes) labels (length rows) indexes (length comps)
  components_numbered = numbered_first nodes edges labels (links_of nodes labels) comps indexes setting (length rows) f.order.labelled f.few f.plain

  pub heavy_room : (heavy : List ℕ) → Rises heavy → All (λ h. (h < length labels) × (get_or indexes (get_or labels h 0) 0 ≡ 4294967295)) heavy → length comps + length heavy ≤ 4294967294
  heavy_room heavy r a =
      let n = room_for nodes edges labels (links_of nodes labels) comps indexes setting (length rows) f.order.labelled f.few f.plain
      heavy r (λ k d lt. (omega (arith, (a k d lt).0, f.classes.whole), (a k d lt).1)) in
      omega (arith, n, f.part.few)

  pub heavy_reported : (outs ins after heavy : List ℕ) → ((l : ℕ) → l < length rows → IsCount (Leaves edges (length nodes) labels indexes l) cap (get_or outs l 0))
      → ((x : ℕ) → x < length nodes → IsWide labels indexes outs x → IsCount (ComesIn edges labels indexes x) cap (get_or ins (get_or labels x 0) 0))
      → AreHeavyBelow labels indexes outs ins (length comps) (length labels) after heavy
      → AreReported nodes edges labels (length rows) after comps heavy × AreListed nodes labels (links_of nodes labels) (length nodes) comps after
  heavy_reported outs ins after heavy led_to lead_in h =
      let g = subst (λ (n : ℕ). AreHeavyBelow labels indexes outs ins (length comps) n after heavy) f.classes.whole h in (
        reported_of nodes edges labels (links_of nodes labels) comps indexes setting (length rows) f.order.labelled f.few f.plain outs ins after heavy led_to lead_in g,
        listed_still nodes edges labels (links_of nodes labels) comps indexes setting (length rows) f.order.labelled f.few f.plain outs ins after heavy led_to lead_in g,
      )

  -- where no class has so many on either side, there are the components alone
  pub none_reported : (outs ins : List ℕ) → ((l : ℕ) → l < length rows → IsCount (Leaves edges (length nodes) labels indexes l) cap (get_or outs l 0))
      → ((x : ℕ) → x < length nodes → IsWide labels indexes outs x → IsCount (ComesIn edges labels indexes x) cap (get_or ins (get_or labels x 0) 0))
      → length indexes ≡ length rows → AreLight indexes outs ins → AreReported nodes edges labels (length rows) indexes comps []
  none_reported outs ins led_to lead_in size light =
      (heavy_reported outs ins indexes [] led_to lead_in (heavy-light labels indexes outs ins (length comps) (length labels)
      (λ k d lt. omega (arith, get_or_default labels k d 0 lt, f.order.labelled k (omega (arith, lt, f.classes.whole)), size)) (omega arith) light)).0
