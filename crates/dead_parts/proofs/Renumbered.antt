-- A graph whose nodes are renumbered, each by a number of its own that rises with it, has the same contraction under
-- the new numbers. Walks go over node by node in both directions: an edge leads only between nodes, and each edge of
-- the renumbered graph is that of two nodes. So the components that meet in a class are the same, and a class is heavy
-- under the new numbers where it is under the old ones.
use Rattle.std.proofs.Common.{◌≡◌, ◌↔◌, ⊎_elim, ℕ, zero, suc, ◌+◌, ◌*◌, ◌<◌, ◌≤◌, length-append, List, [], ◌∷◌, ◌++◌, length, map, Some, refl, sym, ap, ◌∙◌, subst, arith}
use Rattle.std.specs.Prelude.{All, Contains, slice_get, slice_index}
use Rattle.std.proofs.lemmas.Bool.{cases_lt}
use Rattle.std.proofs.lemmas.List.{length-map, map-append}
use Rattle.std.proofs.lemmas.List.Elements.{All-contains, All-head, All-tail, Contains-append_cases}
use Rattle.std.proofs.lemmas.Option.{same_Some, slice_get-get_or}
use Rattle.joint_machine.specs.Walks.{Walks, Reaches, Mutual}
use Rattle.joint_machine.specs.Components.{IsContraction, IsCanonical, IsCrossReference, IsFirst, IsHeavy, IsLeast, IsMember, IsPlainClass, IsUnreported, Leads, LeadsIn, LeadsOut, Rises, first_of}
use Rattle.joint_machine.specs.Components.{stand_at}
use Rattle.joint_machine.proofs.Members.{All-members, Contains-at, Contains-cons_cases, Contains-here, Contains-map, Contains-map_cases, Contains-nil, Contains-there}

pub get_map : {A B : Type 0} (v : A → B) (xs : List A) (i : ℕ) (x : A) → slice_get xs i ≡ Some x → slice_get (map v xs) i ≡ Some (v x)
get_map v [] i x e = absurd (cc)
get_map v (y ∷ xs) zero x e = ap (λ z. Some (v z)) (same_Some _ _ e)
get_map v (y ∷ xs) (suc i) x e = get_map v xs i x e

pub get_back : {A B : Type 0} (v : A → B) (xs : List A) (i : ℕ) (y : B) → slice_get (map v xs) i ≡ Some y → (x : A) × (slice_get xs i ≡ Some x) × (v x ≡ y)
get_back v [] i y e = absurd (cc)
get_back v (x ∷ xs) zero y e = (x, refl, same_Some _ _ e)
get_back v (x ∷ xs) (suc i) y e = get_back v xs i y e

index_map : (v : ℕ → ℕ) (xs : List ℕ) (i : ℕ) → i < length xs → slice_index (map v xs) i ≡ v (slice_index xs i)
index_map v [] i l = absurd (omega arith)
index_map v (x ∷ xs) zero l = refl
index_map v (x ∷ xs) (suc i) l = index_map v xs i (omega arith)

map_firsts : (v : ℕ → ℕ) (cs : List (List ℕ)) → All (λ m. 0 < length m) cs → map first_of (map (map v) cs) ≡ map v (map first_of cs)
map_firsts v [] a = refl
map_firsts v ([] ∷ cs) a = absurd (let h : 0 < 0 = All-head (λ m. 0 < length m) [] cs a in omega arith)
map_firsts v ((x ∷ xs) ∷ cs) a = ap (λ zs. v x ∷ zs) (map_firsts v cs (All-tail (λ m. 0 < length m) (x ∷ xs) cs a))

snoc_map : (v : ℕ → ℕ) (xs : List ℕ) (y : ℕ) → map v (xs ++ y ∷ []) ≡ map v xs ++ v y ∷ []
snoc_map v [] y = refl
snoc_map v (x ∷ xs) y = ap (λ zs. v x ∷ zs) (snoc_map v xs y)

-- the nodes, their bridge nodes and edges, and the same under the new numbers
pub record IsRenumbered (node bridge bridge' : ℕ → Type 0) (edge edge' : ℕ → ℕ → Type 0) (f : ℕ → ℕ) : Type 0 where
  pub rising : (x y : ℕ) → node x → node y → x < y → f x < f y
  pub bridge_in : (x : ℕ) → bridge x → node x
  pub bridge_on : (x : ℕ) → bridge x → bridge' (f x)
  pub bridge_back : (x : ℕ) → node x → bridge' (f x) → bridge x
  pub bridge_from : (m : ℕ) → bridge' m → (x : ℕ) × node x × (f x ≡ m)
  pub edge_in : (x y : ℕ) → edge x y → node y
  pub edge_on : (x y : ℕ) → node x → node y → edge x y → edge' (f x) (f y)
  pub edge_back : (x y : ℕ) → node x → node y → edge' (f x) (f y) → edge x y
  pub edge_from : (m n : ℕ) → edge' m n → (y : ℕ) × node y × (f y ≡ n)

module _ (node bridge bridge' : ℕ → Type 0) (edge edge' : ℕ → ℕ → Type 0) (f : ℕ → ℕ) (r : IsRenumbered node bridge bridge' edge edge' f) where
  one : (x y : ℕ) → node x → node y → f x ≡ f y → x ≡ y
  one x y i j e = ⊎_elim
      (λ (l : x < y). let w = r.rising x y i j l in absurd (omega (arith, w, e)))
      (λ (h : y ≤ x). ⊎_elim
      (λ (l : y < x). let w = r.rising y x j i l in absurd (omega (arith, w, e)))
      (λ (g : x ≤ y). omega (arith, g, h))
      (cases_lt y x))
      (cases_lt x y)

  -- walks on and back
  walk_in : (x : ℕ) (rows : List ℕ) (y : ℕ) → node x → Walks edge x rows y → (z : ℕ) → Contains rows z → node z
  walk_in x [] y i w z c = absurd (Contains-nil z c)
  walk_in x (a ∷ rows) y i w z c = ⊎_elim
      (λ (e : a ≡ z). subst node e (r.edge_in x a w.0))
      (λ d. walk_in a rows y (r.edge_in x a w.0) w.1 z d)
      (Contains-cons_cases a rows z c)

  walk_end : (x : ℕ) (rows : List ℕ) (y : ℕ) → node x → Walks edge x rows y → node y
  walk_end x [] y i w = subst node w i
  walk_end x (a ∷ rows) y i w = walk_end a rows y (r.edge_in x a w.0) w.1

  walk_on : (x : ℕ) (rows : List ℕ) (y : ℕ) → node x → Walks edge x rows y → Walks edge' (f x) (map f rows) (f y)
  walk_on x [] y i w = ap f w
  walk_on x (a ∷ rows) y i w =
      let j = r.edge_in x a w.0 in
      (r.edge_on x a i j w.0, walk_on a rows y j w.1)

  walk_back : (x : ℕ) (rows : List ℕ) (m : ℕ) → node x → Walks edge' (f x) rows m → (y : ℕ) × node y × (f y ≡ m) × Reaches edge x y
  walk_back x [] m i w = (x, i, w, record { rows = []; walk = refl })
  walk_back x (a ∷ rows) m i w =
      let u = r.edge_from (f x) a w.0 in
      let t = walk_back u.0 rows m u.1 (subst (λ (z : ℕ). Walks edge' z rows m) (sym u.2) w.1) in
      (t.0, t.1, t.2, record { rows = u.0 ∷ t.3.rows; walk = (r.edge_back x u.0 i u.1 (subst (λ (z : ℕ). edge' (f x) z) (sym u.2) w.0), t.3.walk) })

  reach_on : (x y : ℕ) → node x → Reaches edge x y → Reaches edge' (f x) (f y)
  reach_on x y i w = record { rows = map f w.rows; walk = walk_on x w.rows y i w.walk }

  reach_back : (x y : ℕ) → node x → node y → Reaches edge' (f x) (f y) → Reaches edge x y
  reach_back x y i j w =
      let t = walk_back x w.rows (f y) i w.walk in
      subst (λ (z : ℕ). Reaches edge x z) (one t.0 y t.1 j t.2) t.3

  mutual_on : (x y : ℕ) → node x → node y → Mutual edge x y → Mutual edge' (f x) (f y)
  mutual_on x y i j m = record { there = reach_on x y i m.there; back = reach_on y x j m.back }

  mutual_back : (x y : ℕ) → node x → node y → Mutual edge' (f x) (f y) → Mutual edge x y
  mutual_back x y i j m = record { there = reach_back x y i j m.there; back = reach_back y x j i m.back }

  -- classes without a bridge node
  plain_on : (x : ℕ) → node x → IsPlainClass bridge edge x → IsPlainClass bridge' edge' (f x)
  plain_on x i p b is m =
      let t = r.bridge_from b is in
      p t.0 (r.bridge_back t.0 t.1 (subst bridge' (sym t.2) is)) (mutual_back x t.0 i t.1 (subst (λ (z : ℕ). Mutual edge' (f x) z) (sym t.2) m))

  plain_back : (x : ℕ) → node x → IsPlainClass bridge' edge' (f x) → IsPlainClass bridge edge x
  plain_back x i p b is m = p (f b) (r.bridge_on b is) (mutual_on x b i (r.bridge_in b is) m)

  -- a walk over some nodes to a last one
  path_back : (x : ℕ) (between : List ℕ) (to m : ℕ) → node x → Walks edge' (f x) (between ++ to ∷ []) m
      → (rows : List ℕ) × (y : ℕ) × node y × (f y ≡ to) × (map f rows ≡ between) × Walks edge x (rows ++ y ∷ []) y
  path_back x [] to m i w =
      let u = r.edge_from (f x) to w.0 in
      ([], u.0, u.1, u.2, refl, (r.edge_back x u.0 i u.1 (subst (λ (z : ℕ). edge' (f x) z) (sym u.2) w.0), refl))
  path_back x (a ∷ between) to m i w =
      let u = r.edge_from (f x) a w.0 in
      let t = path_back u.0 between to m u.1 (subst (λ (z : ℕ). Walks edge' z (between ++ to ∷ []) m) (sym u.2) w.1) in
      (u.0 ∷ t.0, t.1, t.2, t.3, (λ k. u.2 k ∷ t.4 k), (r.edge_back x u.0 i u.1 (subst (λ (z : ℕ). edge' (f x) z) (sym u.2) w.0), t.5))

  in_front : (xs : List ℕ) (y z : ℕ) → Contains xs z → Contains (xs ++ y ∷ []) z
  in_front [] y z c = absurd (Contains-nil z c)
  in_front (x ∷ xs) y z c = ⊎_elim
      (λ (e : x ≡ z). subst (Contains (x ∷ (xs ++ y ∷ []))) e (Contains-here x (xs ++ y ∷ [])))
      (λ d. Contains-there z x (xs ++ y ∷ []) (in_front xs y z d))
      (Contains-cons_cases x xs z c)

  -- walks between classes past rows that may be passed
  leads_on : (P Q : ℕ → Type 0) → ((z : ℕ) → node z → P z → Q (f z)) → (a b : ℕ) → node a → node b → Leads edge P a b → Leads edge' Q (f a) (f b)
  leads_on P Q on a b i j c =
      let from_in = walk_end a c.leaves.there.rows c.from i c.leaves.there.walk in
      let to_in = walk_end b c.arrives.there.rows c.to j c.arrives.there.walk in
      record {
        from = f c.from;
        between = map f c.between;
        to = f c.to;
        leaves = mutual_on a c.from i from_in c.leaves;
        arrives = mutual_on b c.to j to_in c.arrives;
        walk = subst (λ (zs : List ℕ). Walks edge' (f c.from) zs (f c.to)) (snoc_map f c.between c.to) (walk_on c.from (c.between ++ c.to ∷ []) c.to from_in c.walk);
        plain = All-members Q (map f c.between) (λ y is.
            let t = Contains-map_cases f c.between y is in
            let there = walk_in c.from (c.between ++ c.to ∷ []) c.to from_in c.walk t.0 (in_front c.between c.to t.0 t.1) in
            subst Q t.2 (on t.0 there (All-contains P c.between t.0 c.plain t.1)));
      }

  leads_back : (P Q : ℕ → Type 0) → ((z : ℕ) → node z → Q (f z) → P z) → (a b : ℕ) → node a → node b → Leads edge' Q (f a) (f b) → Leads edge P a b
  leads_back P Q back a b i j c =
      let u = walk_back a c.leaves.there.rows c.from i c.leaves.there.walk in
      let v = walk_back b c.arrives.there.rows c.to j c.arrives.there.walk in
      let p = path_back u.0 c.between c.to c.to u.1 (subst (λ (z : ℕ). Walks edge' z (c.between ++ c.to ∷ []) c.to) (sym u.2) c.walk) in
      record {
        from = u.0;
        between = p.0;
        to = p.1;
        leaves = mutual_back a u.0 i u.1 (subst (λ (z : ℕ). Mutual edge' (f a) z) (sym u.2) c.leaves);
        arrives = mutual_back b p.1 j p.2 (subst (λ (z : ℕ). Mutual edge' (f b) z) (sym p.3) c.arrives);
        walk = p.5;
        plain = All-members P p.0 (λ z is.
            let there = walk_in u.0 (p.0 ++ p.1 ∷ []) p.1 u.1 p.5 z (in_front p.0 p.1 z is) in
            back z there (All-contains Q c.between (f z) c.plain (subst (λ (zs : List ℕ). Contains zs (f z)) p.4 (Contains-map f p.0 z is))));
      }

  -- where a walk from a node's class leads is a node
  led_in : (P : ℕ → Type 0) (a b : ℕ) → node a → Leads edge P a b → node b
  led_in P a b i c =
      let from_in = walk_end a c.leaves.there.rows c.from i c.leaves.there.walk in
      let to_in = walk_end c.from (c.between ++ c.to ∷ []) c.to from_in c.walk in
      walk_end c.to c.arrives.back.rows b to_in c.arrives.back.walk

  led_from : (Q : ℕ → Type 0) (a b : ℕ) → node a → Leads edge' Q (f a) b → (x : ℕ) × node x × (f x ≡ b)
  led_from Q a b i c =
      let u = walk_back a c.leaves.there.rows c.from i c.leaves.there.walk in
      let v = walk_back u.0 (c.between ++ c.to ∷ []) c.to u.1 (subst (λ (z : ℕ). Walks edge' z (c.between ++ c.to ∷ []) c.to) (sym u.2) c.walk) in
      let w = walk_back v.0 c.arrives.back.rows b v.1 (subst (λ (z : ℕ). Walks edge' z c.arrives.back.rows b) (sym v.2) c.arrives.back.walk) in
      (w.0, w.1, w.2)

  -- the order is kept
  more_on : (x y : ℕ) → node x → node y → x ≤ y → f x ≤ f y
  more_on x y i j l = ⊎_elim
      (λ (k : x < y). let w = r.rising x y i j k in omega (arith, w))
      (λ (h : y ≤ x). (let e : x ≡ y = omega (arith, l, h) in let q = ap f e in omega (arith, q)))
      (cases_lt x y)

  more_back : (x y : ℕ) → node x → node y → f x ≤ f y → x ≤ y
  more_back x y i j l = ⊎_elim
      (λ (k : y < x). let w = r.rising y x j i k in absurd (omega (arith, w, l)))
      (λ (h : x ≤ y). h)
      (cases_lt y x)

  least_on : (x : ℕ) → node x → IsLeast edge x → IsLeast edge' (f x)
  least_on x i l y m =
      let t = walk_back x m.there.rows y i m.there.walk in
      subst (λ (z : ℕ). f x ≤ z) t.2 (more_on x t.0 i t.1 (l t.0 (mutual_back x t.0 i t.1 (subst (λ (z : ℕ). Mutual edge' (f x) z) (sym t.2) m))))

  least_back : (x : ℕ) → node x → IsLeast edge' (f x) → IsLeast edge x
  least_back x i l y m =
      let j = walk_end x m.there.rows y i m.there.walk in
      more_back x y i j (l (f y) (mutual_on x y i j m))

  first_on : (b : ℕ) → IsFirst bridge edge b → IsFirst bridge' edge' (f b)
  first_on b q = record {
    member = r.bridge_on b q.member;
    least = λ y is m.
        let t = r.bridge_from y is in
        let i = r.bridge_in b q.member in
        subst (λ (z : ℕ). f b ≤ z) t.2
        (more_on b t.0 i t.1 (q.least t.0 (r.bridge_back t.0 t.1 (subst bridge' (sym t.2) is)) (mutual_back b t.0 i t.1 (subst (λ (z : ℕ). Mutual edge' (f b) z) (sym t.2) m))));
  }

  first_back : (b : ℕ) → node b → IsFirst bridge' edge' (f b) → IsFirst bridge edge b
  first_back b i q = record {
    member = r.bridge_back b i q.member;
    least = λ y is m. (let j = r.bridge_in y is in more_back b y i j (q.least (f y) (r.bridge_on y is) (mutual_on b y i j m)));
  }

  rise_back : (xs : List ℕ) → ((x : ℕ) → Contains xs x → node x) → Rises (map f xs) → Rises xs
  rise_back [] i s = tt
  rise_back (x ∷ xs) i s = (
    All-members (λ z. x < z) xs (λ z c.
        let l = All-contains (λ z. f x < z) (map f xs) (f z) s.0 (Contains-map f xs z c) in
        ⊎_elim (λ (k : x < z). k) (λ (h : z ≤ x). let w = more_on z x (i z (Contains-there z x xs c)) (i x (Contains-here x xs)) h in absurd (omega (arith, w, l))) (cases_lt x z)),
    rise_back xs (λ z c. i z (Contains-there z x xs c)) s.1,
  )

  -- bridge nodes under the new numbers are those of some
  bridges_back : (ys : List ℕ) → All bridge' ys → (xs : List ℕ) × ((x : ℕ) → Contains xs x → node x) × (map f xs ≡ ys)
  bridges_back [] a = ([], (λ x c. absurd (Contains-nil x c)), refl)
  bridges_back (y ∷ ys) a =
      let t = r.bridge_from y (All-head bridge' y ys a) in
      let rest = bridges_back ys (All-tail bridge' y ys a) in (
        t.0 ∷ rest.0,
        (λ x c. ⊎_elim (λ (e : t.0 ≡ x). subst node e t.1) (λ d. rest.1 x d) (Contains-cons_cases t.0 rest.0 x c)),
        ap (λ z. z ∷ map f rest.0) t.2 ∙ ap (λ zs. y ∷ zs) rest.2,
      )

  -- lists
  rise_on : (xs : List ℕ) → ((x : ℕ) → Contains xs x → node x) → Rises xs → Rises (map f xs)
  rise_on [] i s = tt
  rise_on (x ∷ xs) i s = (
    All-members (λ z. f x < z) (map f xs) (λ z c.
        let t = Contains-map_cases f xs z c in
        subst (λ (w : ℕ). f x < w) t.2 (r.rising x t.0 (i x (Contains-here x xs)) (i t.0 (Contains-there t.0 x xs t.1)) (All-contains (λ w. x < w) xs t.0 s.0 t.1))),
    rise_on xs (λ z c. i z (Contains-there z x xs c)) s.1,
  )

  -- heavy classes
  heavy_node : (x : ℕ) → IsHeavy bridge edge x → node x
  heavy_node x h = by h.ins h.lead_in h.some_in
    where
      by : (bs : List ℕ) → All (LeadsIn bridge edge x) bs → 3 ≤ length bs → node x
      by [] a l = absurd (omega (arith, l))
      by (b ∷ bs) a l = (let w = All-head (LeadsIn bridge edge x) b bs a in led_in (IsPlainClass bridge edge) b x (r.bridge_in b w.0.member) w.1)

  heavy_from : (y : ℕ) → IsHeavy bridge' edge' y → (x : ℕ) × node x × (f x ≡ y)
  heavy_from y h = by h.ins h.lead_in h.some_in
    where
      by : (bs : List ℕ) → All (LeadsIn bridge' edge' y) bs → 3 ≤ length bs → (x : ℕ) × node x × (f x ≡ y)
      by [] a l = absurd (omega (arith, l))
      by (b ∷ bs) a l =
          let w = All-head (LeadsIn bridge' edge' y) b bs a in
          let t = r.bridge_from b w.0.member in
          led_from (IsPlainClass bridge' edge') t.0 y t.1 (subst (λ (z : ℕ). Leads edge' (IsPlainClass bridge' edge') z y) (sym t.2) w.1)

  heavy_on : (x : ℕ) → node x → IsHeavy bridge edge x → IsHeavy bridge' edge' (f x)
  heavy_on x i h = record {
    plain = plain_on x i h.plain;
    ins = map f h.ins;
    outs = map f h.outs;
    ins_rise = rise_on h.ins (λ b c. r.bridge_in b (All-contains (LeadsIn bridge edge x) h.ins b h.lead_in c).0.member) h.ins_rise;
    outs_rise = rise_on h.outs (λ b c. r.bridge_in b (All-contains (LeadsOut bridge edge x) h.outs b h.lead_out c).0.member) h.outs_rise;
    lead_in = All-members (LeadsIn bridge' edge' (f x)) (map f h.ins) (λ y c.
        let t = Contains-map_cases f h.ins y c in
        let w = All-contains (LeadsIn bridge edge x) h.ins t.0 h.lead_in t.1 in
        subst (LeadsIn bridge' edge' (f x)) t.2 (first_on t.0 w.0, leads_on (IsPlainClass bridge edge) (IsPlainClass bridge' edge') plain_on t.0 x (r.bridge_in t.0 w.0.member) i w.1));
    lead_out = All-members (LeadsOut bridge' edge' (f x)) (map f h.outs) (λ y c.
        let t = Contains-map_cases f h.outs y c in
        let w = All-contains (LeadsOut bridge edge x) h.outs t.0 h.lead_out t.1 in
        subst (LeadsOut bridge' edge' (f x)) t.2 (first_on t.0 w.0, leads_on (IsPlainClass bridge edge) (IsPlainClass bridge' edge') plain_on x t.0 i (r.bridge_in t.0 w.0.member) w.1));
    some_in = (let e = length-map h.ins f in let l = h.some_in in omega (arith, e, l));
    some_out = (let e = length-map h.outs f in let l = h.some_out in omega (arith, e, l));
    many = subst (λ (n : ℕ). 60 ≤ n * length (map f h.outs)) (sym (length-map h.ins f)) (subst (λ (n : ℕ). 60 ≤ length h.ins * n) (sym (length-map h.outs f)) h.many);
  }

  heavy_back : (x : ℕ) → node x → IsHeavy bridge' edge' (f x) → IsHeavy bridge edge x
  heavy_back x i h =
      let ins = bridges_back h.ins (All-members bridge' h.ins (λ b c. (All-contains (LeadsIn bridge' edge' (f x)) h.ins b h.lead_in c).0.member)) in
      let outs = bridges_back h.outs (All-members bridge' h.outs (λ b c. (All-contains (LeadsOut bridge' edge' (f x)) h.outs b h.lead_out c).0.member)) in
      let in_count : length h.ins ≡ length ins.0 = sym (ap length ins.2) ∙ length-map ins.0 f in
      let out_count : length h.outs ≡ length outs.0 = sym (ap length outs.2) ∙ length-map outs.0 f in
      record {
        plain = plain_back x i h.plain;
        ins = ins.0;
        outs = outs.0;
        ins_rise = rise_back ins.0 ins.1 (subst Rises (sym ins.2) h.ins_rise);
        outs_rise = rise_back outs.0 outs.1 (subst Rises (sym outs.2) h.outs_rise);
        lead_in = All-members (LeadsIn bridge edge x) ins.0 (λ b c.
            let w = All-contains (LeadsIn bridge' edge' (f x)) h.ins (f b) h.lead_in (subst (λ (zs : List ℕ). Contains zs (f b)) ins.2 (Contains-map f ins.0 b c)) in
            (first_back b (ins.1 b c) w.0, leads_back (IsPlainClass bridge edge) (IsPlainClass bridge' edge') plain_back b x (ins.1 b c) i w.1));
        lead_out = All-members (LeadsOut bridge edge x) outs.0 (λ b c.
            let w = All-contains (LeadsOut bridge' edge' (f x)) h.outs (f b) h.lead_out (subst (λ (zs : List ℕ). Contains zs (f b)) outs.2 (Contains-map f outs.0 b c)) in
            (first_back b (outs.1 b c) w.0, leads_back (IsPlainClass bridge edge) (IsPlainClass bridge' edge') plain_back x b i (outs.1 b c) w.1));
        some_in = (let l = h.some_in in omega (arith, in_count, l));
        some_out = (let l = h.some_out in omega (arith, out_count, l));
        many = subst (λ (n : ℕ). 60 ≤ n * length outs.0) in_count (subst (λ (n : ℕ). 60 ≤ length h.ins * n) out_count h.many);
      }

  -- cross-references lead past classes that aren't reported
  unreported_on : (z : ℕ) → node z → IsUnreported bridge edge z → IsUnreported bridge' edge' (f z)
  unreported_on z i u = record { plain = plain_on z i u.plain; light = λ h. u.light (heavy_back z i h) }

  unreported_back : (z : ℕ) → node z → IsUnreported bridge' edge' (f z) → IsUnreported bridge edge z
  unreported_back z i u = record { plain = plain_back z i u.plain; light = λ h. u.light (heavy_on z i h) }

  cross_on : (a b : ℕ) → node a → node b → IsCrossReference bridge edge a b → IsCrossReference bridge' edge' (f a) (f b)
  cross_on a b i j c = record { apart = λ m. c.apart (mutual_back a b i j m); leads = leads_on (IsUnreported bridge edge) (IsUnreported bridge' edge') unreported_on a b i j c.leads }

  cross_back : (a b : ℕ) → node a → node b → IsCrossReference bridge' edge' (f a) (f b) → IsCrossReference bridge edge a b
  cross_back a b i j c = record { apart = λ m. c.apart (mutual_on a b i j m); leads = leads_back (IsUnreported bridge edge) (IsUnreported bridge' edge') unreported_back a b i j c.leads }

  module _ (comps : List (List ℕ)) (heavy : List ℕ) (pairs : List (ℕ × ℕ)) (k : IsContraction bridge edge comps heavy pairs) where
    member_in : (i x : ℕ) → IsMember comps i x → node x
    member_in i x m = r.bridge_in x ((k.members x).0 (i, m))

    within : (ms : List ℕ) → Contains comps ms → (x : ℕ) → Contains ms x → node x
    within ms c x d =
        let t = at_place comps ms c in
        member_in t.0 x (ms, t.1, d)
      where
        at_place : (xs : List (List ℕ)) (m : List ℕ) → Contains xs m → (i : ℕ) × (slice_get xs i ≡ Some m)
        at_place [] m c = absurd (Contains-nil m c)
        at_place (x ∷ xs) m c = ⊎_elim
            (λ (e : x ≡ m). (0, ap Some e))
            (λ d. let t = at_place xs m d in (suc t.0, t.1))
            (Contains-cons_cases x xs m c)

    member_on : (i x : ℕ) → IsMember comps i x → IsMember (map (map f) comps) i (f x)
    member_on i x m = (map f m.0, get_map (map f) comps i m.0 m.1, Contains-map f m.0 x m.2)

    member_back : (i y : ℕ) → IsMember (map (map f) comps) i y → (x : ℕ) × IsMember comps i x × (f x ≡ y)
    member_back i y m =
        let t = get_back (map f) comps i m.0 m.1 in
        let u = Contains-map_cases f t.0 y (subst (λ (zs : List ℕ). Contains zs y) (sym t.2) m.2) in
        (u.0, (t.0, t.1, u.1), u.2)

    count : length (map (map f) comps) + length (map f heavy) ≡ length comps + length heavy
    count = (let a = length-map comps (map f) in let b = length-map heavy f in omega (arith, a, b))

    heavy_in : (x : ℕ) → Contains heavy x → node x
    heavy_in x c = heavy_node x ((k.heavies x).0 c).0

    firsts_in : (x : ℕ) → Contains (map first_of comps) x → node x
    firsts_in x c =
        let t = Contains-map_cases first_of comps x c in
        subst node t.2 (within t.0 t.1 (first_of t.0) (head t.0 (All-contains (λ m. 0 < length m) comps t.0 k.canonical.some t.1)))
      where
        head : (m : List ℕ) → 0 < length m → Contains m (first_of m)
        head [] l = absurd (omega arith)
        head (x ∷ m) l = Contains-here x m

    -- what stands for what is reported
    within_stands : (i : ℕ) → i < length comps + length heavy → i < length (map first_of comps ++ heavy)
    within_stands i l = (let a = length-append (map first_of comps) heavy in let b = length-map comps first_of in omega (arith, a, b, l))

    stand_is : (i : ℕ) → i < length comps + length heavy → stand_at (map (map f) comps) (map f heavy) i ≡ f (stand_at comps heavy i)
    stand_is i l =
        ap (λ (zs : List ℕ). slice_index (zs ++ map f heavy) i) (map_firsts f comps k.canonical.some)
        ∙ (ap (λ (zs : List ℕ). slice_index zs i) (sym (map-append f (map first_of comps) heavy)) ∙ index_map f (map first_of comps ++ heavy) i (within_stands i l))

    stand_in : (i : ℕ) → i < length comps + length heavy → node (stand_at comps heavy i)
    stand_in i l = ⊎_elim
        (λ c. firsts_in (stand_at comps heavy i) c)
        (λ c. heavy_in (stand_at comps heavy i) c)
        (Contains-append_cases (map first_of comps) heavy (stand_at comps heavy i)
        (Contains-at (map first_of comps ++ heavy) i (stand_at comps heavy i) (slice_get-get_or (map first_of comps ++ heavy) i 0 (within_stands i l))))

    heavies_on : (y : ℕ) → Contains (map f heavy) y ↔ (IsHeavy bridge' edge' y × IsLeast edge' y)
    heavies_on y = (
      (λ c.
          let t = Contains-map_cases f heavy y c in
          let w = (k.heavies t.0).0 t.1 in
          let i = heavy_node t.0 w.0 in
          (subst (IsHeavy bridge' edge') t.2 (heavy_on t.0 i w.0), subst (IsLeast edge') t.2 (least_on t.0 i w.1))),
      (λ w.
          let t = heavy_from y w.0 in
          subst (Contains (map f heavy)) t.2
          (Contains-map f heavy t.0 ((k.heavies t.0).1 (heavy_back t.0 t.1 (subst (IsHeavy bridge' edge') (sym t.2) w.0), least_back t.0 t.1 (subst (IsLeast edge') (sym t.2) w.1))))),
    )

    canonical_on : IsCanonical (map (map f) comps) pairs
    canonical_on = record {
      members = All-members Rises (map (map f) comps) (λ ms c.
          let t = Contains-map_cases (map f) comps ms c in
          subst Rises t.2 (rise_on t.0 (within t.0 t.1) (All-contains Rises comps t.0 k.canonical.members t.1)));
      some = All-members (λ m. 0 < length m) (map (map f) comps) (λ ms c.
          let t = Contains-map_cases (map f) comps ms c in
          let l = All-contains (λ m. 0 < length m) comps t.0 k.canonical.some t.1 in
          subst (λ (m : List ℕ). 0 < length m) t.2 (let e = length-map t.0 f in omega (arith, e, l)));
      order = subst Rises (sym (map_firsts f comps k.canonical.some)) (rise_on (map first_of comps) firsts_in k.canonical.order);
      rising = k.canonical.rising;
    }

    together_on : (i j x y : ℕ) → IsMember (map (map f) comps) i x → IsMember (map (map f) comps) j y → (i ≡ j) ↔ Mutual edge' x y
    together_on i j x y m n =
        let s = member_back i x m in
        let t = member_back j y n in
        let w = k.together i j s.0 t.0 s.1 t.1 in
        let a = member_in i s.0 s.1 in
        let b = member_in j t.0 t.1 in (
          (λ e. subst (λ (z : ℕ). Mutual edge' z y) s.2 (subst (λ (z : ℕ). Mutual edge' (f s.0) z) t.2 (mutual_on s.0 t.0 a b (w.0 e)))),
          (λ q. w.1 (mutual_back s.0 t.0 a b (subst (λ (z : ℕ). Mutual edge' z (f t.0)) (sym s.2) (subst (λ (z : ℕ). Mutual edge' x z) (sym t.2) q)))),
        )

    references_on : (i j : ℕ) → Contains pairs (i, j)
        ↔ ((i < length (map (map f) comps) + length (map f heavy)) × (j < length (map (map f) comps) + length (map f heavy))
        × IsCrossReference bridge' edge' (stand_at (map (map f) comps) (map f heavy) i) (stand_at (map (map f) comps) (map f heavy) j))
    references_on i j = (
      (λ c.
          let w = (k.references i j).0 c in
          let a = w.0 in
          let b = w.1 in
          let q = cross_on (stand_at comps heavy i) (stand_at comps heavy j) (stand_in i a) (stand_in j b) w.2 in (
            omega (arith, count, a),
            omega (arith, count, b),
            subst (λ (z : ℕ). IsCrossReference bridge' edge' z (stand_at (map (map f) comps) (map f heavy) j)) (sym (stand_is i a))
                (subst (λ (z : ℕ). IsCrossReference bridge' edge' (f (stand_at comps heavy i)) z) (sym (stand_is j b)) q),
          )),
      (λ w.
          let a : i < length comps + length heavy = (let l = w.0 in omega (arith, count, l)) in
          let b : j < length comps + length heavy = (let l = w.1 in omega (arith, count, l)) in
          let q = subst (λ (z : ℕ). IsCrossReference bridge' edge' (f (stand_at comps heavy i)) z) (stand_is j b)
          (subst (λ (z : ℕ). IsCrossReference bridge' edge' z (stand_at (map (map f) comps) (map f heavy) j)) (stand_is i a) w.2) in
          (k.references i j).1 (a, b, cross_back (stand_at comps heavy i) (stand_at comps heavy j) (stand_in i a) (stand_in j b) q)),
    )

    pub contraction_renumbered : IsContraction bridge' edge' (map (map f) comps) (map f heavy) pairs
    contraction_renumbered = record {
      heavy_rise = rise_on heavy heavy_in k.heavy_rise;
      heavies = heavies_on;
      canonical = canonical_on;
      members = λ y. (
        (λ m. (let t = member_back m.0 y m.1 in subst bridge' t.2 (r.bridge_on t.0 ((k.members t.0).0 (m.0, t.1))))),
        (λ b.
            let t = r.bridge_from y b in
            let m = (k.members t.0).1 (r.bridge_back t.0 t.1 (subst bridge' (sym t.2) b)) in
            (m.0, subst (IsMember (map (map f) comps) m.0) t.2 (member_on m.0 t.0 m.1))),
      );
      together = together_on;
      references = references_on;
    }
