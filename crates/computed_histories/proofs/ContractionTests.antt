-- The tests of a graph's components, heavy classes and cross-references tell what the definitions say: the class of a
-- node is what reaches it and is reached from it, a class is heavy where many components meet in it, and a
-- cross-reference is a walk out of a class, over nodes in classes that aren't reported.
use Rattle.std.proofs.Common.{◌≡◌, ℕ, zero, suc, ◌+◌, ◌*◌, ◌<◌, ◌≤◌, ◌⊎◌, ◌↔◌, inl, inr, ⊎_elim, cond, Bool, true, false, not, List, [], ◌∷◌, ◌++◌, map, length, refl, sym, ap, subst, arith, nat_eq}
use Rattle.std.proofs.Common.{nat_lt, nat_le, ◌&&◌, Some, slice_get}
use Rattle.std.proofs.lemmas.Bool.{false≢true, cases_eq, cases_lt}
use Rattle.std.proofs.lemmas.Nat.{mul-le}
use Rattle.std.specs.List.{All, Contains, filter, list_all}
use Rattle.std.proofs.lemmas.List.Elements.{All-nil, All-cons, All-head, All-tail, Contains-append_cases, Contains-append_left, Contains-append_right}
use Rattle.joint_machine.specs.Walks.{Walks, Reaches, Reached, Mutual}
use Rattle.joint_machine.specs.Components.{IsContraction, IsCanonical, Leads, IsLeast, IsFirst, LeadsIn, LeadsOut, IsHeavy, IsUnreported, IsCrossReference, IsPlainClass, IsMember, Rises, PairsRise}
use Rattle.joint_machine.specs.Components.{PairBefore, stand_at, first_of}
use Rattle.joint_machine.specs.Cycles.{IsDeadContraction, DeadEdge}
use Rattle.joint_machine.specs.Heaps.{HasField}
use Rattle.joint_machine.specs.Managed.{Managed, IsBridge}
use Rattle.joint_machine.proofs.Members.{Contains-nil, Contains-cons_cases, Contains-map, Contains-map_cases, Contains-flat_map}
use Rattle.computed_histories.specs.Lists.{mem, has, pair_eq, implies, rises, count_from, is_exactly, rises_exactly}
use Rattle.computed_histories.specs.Rows.{heap_next, is_bridge}
use Rattle.computed_histories.specs.Contractions.{Listed, is_mutual, is_plain, passed_next, class_next, past_class, is_led, above, bridges_where, is_first, ins_of, outs_of, are_many, is_heavy}
use Rattle.computed_histories.specs.Contractions.{is_unreported, is_least, is_referred, places_from, members_of, agrees, is_split, pairs_below, is_reference, is_pair_before, pairs_rise, is_in_order}
use Rattle.computed_histories.specs.Contractions.{is_contraction, dead_graph}
use Rattle.computed_histories.proofs.Telling.{Tells, always, never, like, isn't, implied, and2, and3, and4, and5, or2, same, less, upto, same_pair, is_true, all}
use Rattle.computed_histories.proofs.Reaching.{all_in, any_in, member, member_filter, member_flat_map, filtered, where_it_holds, reached, reaches, exactly, rising, rising_exactly, counted}
use Rattle.computed_histories.proofs.RowTests.{field, bridge}

-- the numbers of a stretch that pass a test
filter_all : {A : Type 0} (test : A → Bool) (P : A → Type 0) → ((x : A) → test x ≡ true → P x) → (xs : List A) → All P (filter test xs)
filter_all test P t [] = All-nil P
filter_all {A} test P t (x ∷ xs) = go (test x) refl (filter_all test P t xs)
  where
    go : (b : Bool) → test x ≡ b → All P (filter test xs) → All P (cond b (x ∷ filter test xs) (filter test xs))
    go true e all = All-cons P x (filter test xs) (t x e) all
    go false e all = all

All-map_from : {A : Type 0} {P Q : A → Type 0} → ((x : A) → P x → Q x) → (xs : List A) → All P xs → All Q xs
All-map_from {P = P} {Q = Q} f [] all = All-nil Q
All-map_from {P = P} {Q = Q} f (x ∷ xs) all = All-cons Q x xs (f x (All-head P x xs all)) (All-map_from {P = P} {Q = Q} f xs (All-tail P x xs all))

counted_from : (test : ℕ → Bool) (k n m : ℕ) → m ≤ k → All (λ y. m ≤ y) (filter test (count_from k n))
counted_from test k zero m l = All-nil (λ y. m ≤ y)
counted_from test k (suc n) m l = go (test k) (counted_from test (suc k) n m (omega (arith, l)))
  where
    go : (b : Bool) → All (λ y. m ≤ y) (filter test (count_from (suc k) n)) → All (λ y. m ≤ y) (cond b (k ∷ filter test (count_from (suc k) n)) (filter test (count_from (suc k) n)))
    go true all = All-cons (λ y. m ≤ y) k (filter test (count_from (suc k) n)) l all
    go false all = all

counted_rise : (test : ℕ → Bool) (k n : ℕ) → Rises (filter test (count_from k n))
counted_rise test k zero = tt
counted_rise test k (suc n) = go (test k) (counted_rise test (suc k) n)
  where
    higher : (k y : ℕ) → suc k ≤ y → k < y
    higher k y l = omega (arith, l)

    go : (b : Bool) → Rises (filter test (count_from (suc k) n)) → Rises (cond b (k ∷ filter test (count_from (suc k) n)) (filter test (count_from (suc k) n)))
    go true r = (All-map_from {P = λ y. suc k ≤ y} {Q = λ y. k < y} (higher k) (filter test (count_from (suc k) n)) (counted_from test (suc k) n (suc k) (omega arith)), r)
    go false r = r

-- rising numbers of the stretch that pass the test are no more
counted_most : (test : ℕ → Bool) (k n : ℕ) (xs : List ℕ) → Rises xs → All (λ x. test x ≡ true) xs → All (λ x. (k ≤ x) × (x < k + n)) xs → length xs ≤ length (filter test (count_from k n))
counted_most test k n [] rise pass within = omega arith
counted_most test k zero (x ∷ xs) rise pass within = let w = All-head (λ x. (k ≤ x) × (x < k + zero)) x xs within in absurd (none k x w.0 w.1)
  where
    none : (k x : ℕ) → k ≤ x → x < k + zero → ⊥
    none k x a b = omega (arith, a, b)
counted_most test k (suc n) (x ∷ xs) rise pass within =
    let w = All-head (λ x. (k ≤ x) × (x < k + suc n)) x xs within in
    let ws = All-tail (λ x. (k ≤ x) × (x < k + suc n)) x xs within in
    ⊎_elim
    (λ (e : x ≡ k). taken (test k) (subst (λ z. test z ≡ true) e (All-head (λ x. test x ≡ true) x xs pass))
    (counted_most test (suc k) n xs rise.1 (All-tail (λ x. test x ≡ true) x xs pass) (both (λ y l p. (above_it k x y e l, shorter k n y p.1)) xs rise.0 ws)))
    (λ (d : x ≡ k → ⊥). skipped (test k)
    (counted_most test (suc k) n (x ∷ xs) rise pass
    (All-cons (λ y. (suc k ≤ y) × (y < suc k + n)) x xs (past_it k x d w.0, shorter k n x w.1) (both (λ y l p. (over k x y (past_it k x d w.0) l, shorter k n y p.1)) xs rise.0 ws))))
    (cases_eq x k)
  where
    both : ((y : ℕ) → x < y → (k ≤ y) × (y < k + suc n) → (suc k ≤ y) × (y < suc k + n)) → (ys : List ℕ)
        → All (λ y. x < y) ys → All (λ y. (k ≤ y) × (y < k + suc n)) ys → All (λ y. (suc k ≤ y) × (y < suc k + n)) ys
    both f [] a b = All-nil (λ y. (suc k ≤ y) × (y < suc k + n))
    both f (y ∷ ys) a b = All-cons (λ y. (suc k ≤ y) × (y < suc k + n)) y ys (f y (All-head (λ y. x < y) y ys a) (All-head (λ y. (k ≤ y) × (y < k + suc n)) y ys b))
        (both f ys (All-tail (λ y. x < y) y ys a) (All-tail (λ y. (k ≤ y) × (y < k + suc n)) y ys b))

    above_it : (k x y : ℕ) → x ≡ k → x < y → suc k ≤ y
    above_it k x y e l = omega (arith, e, l)

    past_it : (k x : ℕ) → (x ≡ k → ⊥) → k ≤ x → suc k ≤ x
    past_it k x d l = omega (arith, d, l)

    over : (k x y : ℕ) → suc k ≤ x → x < y → suc k ≤ y
    over k x y q l = omega (arith, q, l)

    shorter : (k n y : ℕ) → y < k + suc n → y < suc k + n
    shorter k n y l = omega (arith, l)

    taken : (b : Bool) → b ≡ true → length xs ≤ length (filter test (count_from (suc k) n))
        → length (x ∷ xs) ≤ length (cond b (k ∷ filter test (count_from (suc k) n)) (filter test (count_from (suc k) n)))
    taken true e l = omega (arith, l)
    taken false e l = absurd (false≢true e)

    skipped : (b : Bool) → length (x ∷ xs) ≤ length (filter test (count_from (suc k) n))
        → length (x ∷ xs) ≤ length (cond b (k ∷ filter test (count_from (suc k) n)) (filter test (count_from (suc k) n)))
    skipped true l = omega (arith, l)
    skipped false l = l

-- all of a list are below the number above them
below_above : (xs : List ℕ) (y : ℕ) → Contains xs y → y < above xs
below_above [] y c = absurd (Contains-nil y c)
below_above (x ∷ xs) y c = ⊎_elim (λ e. here x y (above xs) e) (λ d. there x y (above xs) (below_above xs y d)) (Contains-cons_cases x xs y c)
  where
    here : (x y a : ℕ) → x ≡ y → y < suc x + a
    here x y a e = omega (arith, e)

    there : (x y a : ℕ) → y < a → y < suc x + a
    there x y a l = omega (arith, l)

in_above : (xs : List ℕ) (y : ℕ) → has xs y ≡ true → (0 ≤ y) × (y < 0 + above xs)
in_above xs y h = (omega arith, from_zero y (above xs) (below_above xs y ((member nat_eq same xs y).holds h)))
  where
    from_zero : (y a : ℕ) → y < a → y < 0 + a
    from_zero y a l = omega (arith, l)

-- two counts whose product is 60 aren't both below eight
eight : (a b n : ℕ) → a ≤ n → b ≤ n → 60 ≤ a * b → 8 ≤ n
eight a b n i o m = ⊎_elim (λ (l : n < 8). let p = mul-le a b 7 7 (under a n i l) (under b n o l) in absurd (few (a * b) m p)) (λ l. l) (cases_lt n 8)
  where
    under : (a n : ℕ) → a ≤ n → n < 8 → a ≤ 7
    under a n i l = omega (arith, i, l)

    few : (p : ℕ) → 60 ≤ p → p ≤ 7 * 7 → ⊥
    few p m l = omega (arith, m, l)

-- a graph whose edges and bridge nodes are listed
pub record IsListed (bridge : ℕ → Type 0) (edge : ℕ → ℕ → Type 0) (g : Listed) : Type 0 where
  pub edges : (x y : ℕ) → Tells (mem nat_eq (g.next x) y) (edge x y)
  pub sources : (x y : ℕ) → edge x y → Contains g.nodes x
  pub targets : (x y : ℕ) → edge x y → Contains g.nodes y
  pub picks : (x : ℕ) → Tells (has g.bridges x) (bridge x)
  pub inside : (x : ℕ) → bridge x → has g.nodes x ≡ true

-- a walk that begins with an edge of its own, goes over rows that may be passed, and its last row
passed_between : (edge : ℕ → ℕ → Type 0) (Passed : ℕ → Type 0) (x y : ℕ) (rows : List ℕ) (to : ℕ) → edge x y → Walks (λ a b. Passed a × edge a b) y rows to
    → (between : List ℕ) × Walks edge x (between ++ to ∷ []) to × All Passed between
passed_between edge Passed x y [] to e w = ([], (subst (edge x) w e, refl), All-nil Passed)
passed_between edge Passed x y (z ∷ zs) to e w =
    let r = passed_between edge Passed y z zs to w.0.1 w.1 in
    (y ∷ r.0, (e, r.1), All-cons Passed y r.0 w.0.0 r.2)

-- the other way round
passed_walk : (edge : ℕ → ℕ → Type 0) (Passed : ℕ → Type 0) (z : ℕ) (zs : List ℕ) (to : ℕ) → Passed z
    → All Passed zs → Walks edge z (zs ++ to ∷ []) to → Walks (λ a b. Passed a × edge a b) z (zs ++ to ∷ []) to
passed_walk edge Passed z [] to p all w = ((p, w.0), w.1)
passed_walk edge Passed z (y ∷ ys) to p all w = ((p, w.0), passed_walk edge Passed y ys to (All-head Passed y ys all) (All-tail Passed y ys all) w.1)

-- the last row of such a walk has an edge to it
walk_arrives : (edge : ℕ → ℕ → Type 0) (P : ℕ → Type 0) → ((x y : ℕ) → edge x y → P y) → (x : ℕ) (zs : List ℕ) (to : ℕ) → Walks edge x (zs ++ to ∷ []) to → P to
walk_arrives edge P each x [] to w = each x to w.0
walk_arrives edge P each x (z ∷ zs) to w = walk_arrives edge P each z zs to w.1

module _ (bridge : ℕ → Type 0) (edge : ℕ → ℕ → Type 0) (g : Listed) (l : IsListed bridge edge g) where
  next_inside : (x y : ℕ) → mem nat_eq (g.next x) y ≡ true → Contains g.nodes y
  next_inside x y m = l.targets x y ((l.edges x y).holds m)

  pub mutually : (x y : ℕ) → Tells (is_mutual g x y) (Mutual edge x y)
  mutually x y = like {P = Reaches edge x y × Reaches edge y x} (λ p. record { there = p.0; back = p.1 }) (λ m. (m.there, m.back))
      (and2 (reaches nat_eq same g.next g.nodes next_inside edge x l.edges y) (reaches nat_eq same g.next g.nodes next_inside edge y l.edges x))

  pub plain : (x : ℕ) → Tells (is_plain g x) (IsPlainClass bridge edge x)
  plain x = like {P = (b : ℕ) → Contains g.bridges b → Mutual edge x b → ⊥}
      (λ f b i. f b ((member nat_eq same g.bridges b).holds ((l.picks b).passes i)))
      (λ f b c. f b ((l.picks b).holds ((member nat_eq same g.bridges b).passes c)))
      (all_in g.bridges (λ b. not (is_mutual g x b)) (λ b. Mutual edge x b → ⊥) (λ b. isn't (mutually x b)))

  -- an edge out of the class of a node
  abbrev LeavesClass : ℕ → ℕ → Type 0
  LeavesClass a z = (from : ℕ) × Mutual edge a from × edge from z

  leaves_class : (a z : ℕ) → Tells (mem nat_eq (class_next g a) z) (LeavesClass a z)
  leaves_class a z = like {P = (x : ℕ) × Contains (filter (is_mutual g a) g.nodes) x × (mem nat_eq (g.next x) z ≡ true)}
      (λ r. (
        r.0,
        (mutually a r.0).holds ((member_filter nat_eq same (is_mutual g a) g.nodes r.0).holds ((member nat_eq same (filter (is_mutual g a) g.nodes) r.0).passes r.1)).1,
        (l.edges r.0 z).holds r.2,
      ))
      (λ r. (
        r.0,
        (member nat_eq same (filter (is_mutual g a) g.nodes) r.0).holds
            ((member_filter nat_eq same (is_mutual g a) g.nodes r.0).passes ((member nat_eq same g.nodes r.0).passes (l.sources r.0 z r.2), (mutually a r.0).passes r.1)),
        (l.edges r.0 z).passes r.2,
      ))
      (member_flat_map nat_eq same g.next (filter (is_mutual g a) g.nodes) z)

  -- where a walk may pass some rows
  module _ (passed : ℕ → Bool) (Passed : ℕ → Type 0) (passes : (x : ℕ) → Tells (passed x) (Passed x)) where
    abbrev PassedEdge : ℕ → ℕ → Type 0
    PassedEdge x y = Passed x × edge x y

    passed_edge : (x y : ℕ) → Tells (mem nat_eq (passed_next g passed x) y) (PassedEdge x y)
    passed_edge x y = where_it_holds nat_eq same (passed x) (g.next x) y (Passed x) (edge x y) (passes x) (l.edges x y)

    past : (a y : ℕ) → Tells (has (past_class g passed a) y) (Reached (LeavesClass a) PassedEdge y)
    past a y = reached nat_eq same (passed_next g passed) g.nodes (λ x z m. l.targets x z ((passed_edge x z).holds m).1) (LeavesClass a) PassedEdge (class_next g a) (leaves_class a) passed_edge y

    past_from : (a from : ℕ) (between : List ℕ) (to : ℕ) → Mutual edge a from → Walks edge from (between ++ to ∷ []) to → All Passed between → Reached (LeavesClass a) PassedEdge to
    past_from a from [] to m w all = record { root = to; starts = (from, m, w.0); reaches = record { rows = []; walk = refl } }
    past_from a from (z ∷ zs) to m w all = record {
      root = z;
      starts = (from, m, w.0);
      reaches = record {
        rows = zs ++ to ∷ [];
        walk = passed_walk edge Passed z zs to (All-head Passed z zs all) (All-tail Passed z zs all) w.1;
      };
    }

    leads_found : (a b to : ℕ) → Mutual edge b to → Reached (LeavesClass a) PassedEdge to → Leads edge Passed a b
    leads_found a b to m r =
        let w = passed_between edge Passed r.starts.0 r.root r.reaches.rows to r.starts.2 r.reaches.walk in
        record { from = r.starts.0; between = w.0; to = to; leaves = r.starts.1; arrives = m; walk = w.1; plain = w.2 }

    pub leads : (a b : ℕ) → Tells (is_led g passed a b) (Leads edge Passed a b)
    leads a b = like {P = (to : ℕ) × Contains (filter (is_mutual g b) g.nodes) to × Reached (LeavesClass a) PassedEdge to}
        (λ p. leads_found a b p.0 ((mutually b p.0).holds ((member_filter nat_eq same (is_mutual g b) g.nodes p.0).holds ((member nat_eq same (filter (is_mutual g b) g.nodes) p.0).passes p.1)).1) p.2)
        (λ c. (
          c.to,
          (member nat_eq same (filter (is_mutual g b) g.nodes) c.to).holds ((member_filter nat_eq same (is_mutual g b) g.nodes c.to).passes
              ((member nat_eq same g.nodes c.to).passes (walk_arrives edge (Contains g.nodes) l.targets c.from c.between c.to c.walk), (mutually b c.to).passes c.arrives)),
          past_from a c.from c.between c.to c.leaves c.walk c.plain,
        ))
        (any_in (filter (is_mutual g b) g.nodes) (has (past_class g passed a)) (Reached (LeavesClass a) PassedEdge) (past a))

  -- the first members of components
  first_one : (b : ℕ) → Tells (is_first g b) ((y : ℕ) → Contains g.bridges y → Mutual edge b y → b ≤ y)
  first_one b = all_in g.bridges (λ c. implies (is_mutual g b c) (nat_le b c)) (λ y. Mutual edge b y → b ≤ y) (λ c. implied (mutually b c) (upto b c))

  in_bridges : (b : ℕ) → Tells (has g.bridges b) (Contains g.bridges b)
  in_bridges b = member nat_eq same g.bridges b

  first : (b : ℕ) → Tells (has g.bridges b && is_first g b) (IsFirst bridge edge b)
  first b = like {P = bridge b × ((y : ℕ) → Contains g.bridges y → Mutual edge b y → b ≤ y)}
      (λ p. record { member = p.0; least = λ y i m. p.1 y ((in_bridges y).holds ((l.picks y).passes i)) m })
      (λ f. (f.member, λ y c m. f.least y ((l.picks y).holds ((in_bridges y).passes c)) m))
      (and2 (l.picks b) (first_one b))

  led_by : (x : ℕ) (test : ℕ → Bool) (P : ℕ → Type 0) → ((b : ℕ) → Tells (test b) (P b)) → (b : ℕ) → Tells (has g.bridges b && (is_first g b && test b)) (IsFirst bridge edge b × P b)
  led_by x test P t b = like {P = (bridge b) × (((y : ℕ) → Contains g.bridges y → Mutual edge b y → b ≤ y) × P b)}
      (λ p. ((first b).holds ((and2 (l.picks b) (first_one b)).passes (p.0, p.1.0)), p.1.1))
      (λ p. let q = (and2 (l.picks b) (first_one b)).holds ((first b).passes p.0) in (q.0, (q.1, p.1)))
      (and2 (l.picks b) (and2 (first_one b) (t b)))

  -- so many of them
  bridges_rise : (test : ℕ → Bool) → Rises (bridges_where g test)
  bridges_rise test = counted_rise (λ b. has g.bridges b && test b) 0 (above g.bridges)

  bridges_all : (test : ℕ → Bool) (P : ℕ → Type 0) → ((b : ℕ) → Tells (has g.bridges b && test b) (P b)) → All P (bridges_where g test)
  bridges_all test P t = filter_all (λ b. has g.bridges b && test b) P (λ b. (t b).holds) (count_from 0 (above g.bridges))

  bridges_count : (test : ℕ → Bool) (P : ℕ → Type 0) → ((b : ℕ) → Tells (has g.bridges b && test b) (P b)) → (xs : List ℕ) → Rises xs → All P xs → length xs ≤ length (bridges_where g test)
  bridges_count test P t xs rise all = counted_most (λ b. has g.bridges b && test b) 0 (above g.bridges) xs rise (All-map_from (λ b. (t b).passes) xs all)
      (All-map_from (λ b p. in_above g.bridges b ((and2 (is_true (has g.bridges b)) (is_true (test b))).holds ((t b).passes p)).0) xs all)

  into : (x b : ℕ) → Tells (has g.bridges b && (is_first g b && is_led g (is_plain g) b x)) (LeadsIn bridge edge x b)
  into x b = led_by x (λ b. is_led g (is_plain g) b x) (λ b. Leads edge (IsPlainClass bridge edge) b x) (λ b. leads (is_plain g) (IsPlainClass bridge edge) plain b x) b

  out : (x b : ℕ) → Tells (has g.bridges b && (is_first g b && is_led g (is_plain g) x b)) (LeadsOut bridge edge x b)
  out x b = led_by x (λ b. is_led g (is_plain g) x b) (λ b. Leads edge (IsPlainClass bridge edge) x b) (λ b. leads (is_plain g) (IsPlainClass bridge edge) plain x b) b

  any_first : (b : ℕ) → Tells (has g.bridges b && true) (bridge b)
  any_first b = like {P = bridge b × Unit {0}} (λ p. p.0) (λ p. (p, tt)) (and2 (l.picks b) (always tt))

  heavy_many : (x : ℕ) → Tells (are_many (length (ins_of g x)) (length (outs_of g x))) ((3 ≤ length (ins_of g x)) × (3 ≤ length (outs_of g x)) × (60 ≤ length (ins_of g x) * length (outs_of g x)))
  heavy_many x = and3 (upto 3 (length (ins_of g x))) (upto 3 (length (outs_of g x))) (upto 60 (length (ins_of g x) * length (outs_of g x)))

  heavy_found : (x : ℕ) → IsPlainClass bridge edge x → (3 ≤ length (ins_of g x)) × (3 ≤ length (outs_of g x)) × (60 ≤ length (ins_of g x) * length (outs_of g x)) → IsHeavy bridge edge x
  heavy_found x p m = record {
    plain = p;
    ins = ins_of g x;
    outs = outs_of g x;
    ins_rise = bridges_rise (λ b. is_first g b && is_led g (is_plain g) b x);
    outs_rise = bridges_rise (λ b. is_first g b && is_led g (is_plain g) x b);
    lead_in = bridges_all (λ b. is_first g b && is_led g (is_plain g) b x) (LeadsIn bridge edge x) (into x);
    lead_out = bridges_all (λ b. is_first g b && is_led g (is_plain g) x b) (LeadsOut bridge edge x) (out x);
    some_in = m.0;
    some_out = m.1;
    many = m.2;
  }

  heavy_seen : (x : ℕ) → IsHeavy bridge edge x → (8 ≤ length (bridges_where g (λ b. true))) × IsPlainClass bridge edge x
      × ((3 ≤ length (ins_of g x)) × (3 ≤ length (outs_of g x)) × (60 ≤ length (ins_of g x) * length (outs_of g x)))
  heavy_seen x h =
      let i : length h.ins ≤ length (ins_of g x) = bridges_count (λ b. is_first g b && is_led g (is_plain g) b x) (LeadsIn bridge edge x) (into x) h.ins h.ins_rise h.lead_in in
      let o : length h.outs ≤ length (outs_of g x) = bridges_count (λ b. is_first g b && is_led g (is_plain g) x b) (LeadsOut bridge edge x) (out x) h.outs h.outs_rise h.lead_out in
      let i' : length h.ins ≤ length (bridges_where g (λ b. true)) = bridges_count (λ b. true) bridge any_first h.ins h.ins_rise
      (All-map_from {P = LeadsIn bridge edge x} {Q = bridge} (λ b p. p.0.member) h.ins h.lead_in) in
      let o' : length h.outs ≤ length (bridges_where g (λ b. true)) = bridges_count (λ b. true) bridge any_first h.outs h.outs_rise
      (All-map_from {P = LeadsOut bridge edge x} {Q = bridge} (λ b p. p.0.member) h.outs h.lead_out) in
      let p = mul-le (length h.ins) (length h.outs) (length (ins_of g x)) (length (outs_of g x)) i o in
      let in_some = h.some_in in
      let out_some = h.some_out in
      let m = h.many in (
        eight (length h.ins) (length h.outs) (length (bridges_where g (λ b. true))) i' o' m,
        h.plain,
        (omega (arith, in_some, i), omega (arith, out_some, o), many_more (length h.ins * length h.outs) (length (ins_of g x) * length (outs_of g x)) m p),
      )
    where
      many_more : (a b : ℕ) → 60 ≤ a → a ≤ b → 60 ≤ b
      many_more a b m p = omega (arith, m, p)

  pub heavy : (x : ℕ) → Tells (is_heavy g x) (IsHeavy bridge edge x)
  heavy x = like {P = (8 ≤ length (bridges_where g (λ b. true))) × IsPlainClass bridge edge x
      × ((3 ≤ length (ins_of g x)) × (3 ≤ length (outs_of g x)) × (60 ≤ length (ins_of g x) * length (outs_of g x)))}
      (λ p. heavy_found x p.1 p.2)
      (heavy_seen x)
      (and3 (upto 8 (length (bridges_where g (λ b. true)))) (plain x) (heavy_many x))

  pub unreported : (x : ℕ) → Tells (is_unreported g x) (IsUnreported bridge edge x)
  unreported x = like (λ p. record { plain = p.0; light = p.1 }) (λ r. (r.plain, r.light)) (and2 (plain x) (isn't (heavy x)))

  -- a row that is reached is the first one or in the graph
  reached_node : (x y : ℕ) → Reaches edge x y → (x ≡ y) ⊎ Contains g.nodes y
  reached_node x y r = along x r.rows r.walk
    where
      along : (x : ℕ) (rows : List ℕ) → Walks edge x rows y → (x ≡ y) ⊎ Contains g.nodes y
      along x [] w = inl w
      along x (z ∷ zs) w = inr (⊎_elim (λ e. subst (Contains g.nodes) e (l.targets x z w.0)) (λ c. c) (along z zs w.1))

  heavy_inside : (x : ℕ) → IsHeavy bridge edge x → Contains g.nodes x
  heavy_inside x h = arrived h.ins h.lead_in h.some_in
    where
      arrived : (ins : List ℕ) → All (LeadsIn bridge edge x) ins → 3 ≤ length ins → Contains g.nodes x
      arrived [] all some = absurd (omega (arith, some))
      arrived (b ∷ bs) all some = let c = (All-head (LeadsIn bridge edge x) b bs all).1 in
          ⊎_elim (λ e. subst (Contains g.nodes) e (walk_arrives edge (Contains g.nodes) l.targets c.from c.between c.to c.walk)) (λ i. i) (reached_node c.to x c.arrives.back)

  least : (x : ℕ) → Tells (is_least g x) (IsLeast edge x)
  least x = like {P = (y : ℕ) → Contains g.nodes y → Mutual edge x y → x ≤ y}
      (λ f y m. ⊎_elim (λ e. itself x y e) (λ c. f y c m) (reached_node x y m.there))
      (λ f y c m. f y m)
      (all_in g.nodes (λ y. implies (is_mutual g x y) (nat_le x y)) (λ y. Mutual edge x y → x ≤ y) (λ y. implied (mutually x y) (upto x y)))
    where
      itself : (x y : ℕ) → x ≡ y → x ≤ y
      itself x y e = omega (arith, e)

  pub reference : (a b : ℕ) → Tells (is_referred g a b) (IsCrossReference bridge edge a b)
  reference a b = like (λ p. record { apart = p.0; leads = p.1 }) (λ r. (r.apart, r.leads)) (and2 (isn't (mutually a b)) (leads (is_unreported g) (IsUnreported bridge edge) unreported a b))

  pub heavies : (hs : List ℕ) → Tells (rises_exactly g.nodes (λ x. is_heavy g x && is_least g x) hs) (Rises hs × ((x : ℕ) → Contains hs x ↔ (IsHeavy bridge edge x × IsLeast edge x)))
  heavies hs = rising_exactly g.nodes (λ x. is_heavy g x && is_least g x) (λ x. IsHeavy bridge edge x × IsLeast edge x) hs
      (λ x. and2 (heavy x) (least x)) (λ x p. (member nat_eq same g.nodes x).passes (heavy_inside x p.0))

-- the places of components
abbrev StandsAt : List (ℕ × ℕ) → ℕ → ℕ → Type 0
StandsAt places i x = let p : ℕ × ℕ = (i, x) in Contains places p

abbrev SamePair : ℕ × ℕ → ℕ × ℕ → Type 0
SamePair p q = p ≡ q

placed_at : (k i : ℕ) (comps : List (List ℕ)) (x : ℕ) (members : List ℕ) → slice_get comps i ≡ Some members → Contains members x → StandsAt (places_from k comps) (i + k) x
placed_at k i [] x members e c = cc
placed_at k zero (m ∷ ms) x members e c =
    let same : m ≡ members = cc in
    let at : zero + k ≡ k = omega arith in
    Contains-append_left (map (λ y. (k, y)) m) (places_from (suc k) ms) (zero + k, x)
    (subst (λ j. StandsAt (map (λ y. (k, y)) m) j x) (sym at) (Contains-map (λ y. (k, y)) m x (subst (λ q. Contains q x) (sym same) c)))
placed_at k (suc i) (m ∷ ms) x members e c =
    let at : i + suc k ≡ suc i + k = omega arith in
    Contains-append_right (map (λ y. (k, y)) m) (places_from (suc k) ms) (suc i + k, x)
    (subst (λ j. StandsAt (places_from (suc k) ms) j x) at (placed_at (suc k) i ms x members e c))

first_part : (a b c d : ℕ) → SamePair (a, b) (c, d) → a ≡ c
first_part a b c d e = ap (λ (p : ℕ × ℕ). p.0) e

second_part : (a b c d : ℕ) → SamePair (a, b) (c, d) → b ≡ d
second_part a b c d e = ap (λ (p : ℕ × ℕ). p.1) e

place_from : (k : ℕ) (comps : List (List ℕ)) (j x : ℕ) → StandsAt (places_from k comps) j x → (i : ℕ) × (j ≡ i + k) × IsMember comps i x
place_from k [] j x c = absurd (Contains-nil (j, x) c)
place_from k (m ∷ ms) j x c = ⊎_elim
    (λ d. let r = Contains-map_cases (λ y. (k, y)) m (j, x) d in (0, here k j (first_part k r.0 j x r.2), (m, refl, subst (Contains m) (second_part k r.0 j x r.2) r.1)))
    (λ d. let r = place_from (suc k) ms j x d in (suc r.0, there r.0 k j r.1, (r.2.0, r.2.1, r.2.2)))
    (Contains-append_cases (map (λ y. (k, y)) m) (places_from (suc k) ms) (j, x) c)
  where
    here : (k j : ℕ) → k ≡ j → j ≡ 0 + k
    here k j e = omega arith

    there : (i k j : ℕ) → j ≡ i + suc k → j ≡ suc i + k
    there i k j e = omega arith

place_of : (comps : List (List ℕ)) (i x : ℕ) → IsMember comps i x → StandsAt (places_from 0 comps) i x
place_of comps i x m = let at : i + 0 ≡ i = omega arith in subst (λ j. StandsAt (places_from 0 comps) j x) at (placed_at 0 i comps x m.0 m.1 m.2)

member_at : (comps : List (List ℕ)) (i x : ℕ) → StandsAt (places_from 0 comps) i x → IsMember comps i x
member_at comps i x c = let r = place_from 0 comps i x c in let at : r.0 ≡ i = omega arith in subst (λ j. IsMember comps j x) at r.2

-- whether two facts agree
pub agree : (a b : Bool) (P Q : Type 0) → Tells a P → Tells b Q → Tells (agrees a b) (P ↔ Q)
agree true b P Q p q = like (λ r. (λ x. r, λ x. p.holds refl)) (λ f. f.0 (p.holds refl)) q
agree false b P Q p q = like (λ n. (λ x. absurd (not_here x), λ x. absurd (n x))) (λ f x. not_here (f.1 x)) (isn't q)
  where
    not_here : P → ⊥
    not_here x = (never {P = ⊥} (λ e. e)).holds (p.passes x)

-- pairs
in_pairs_below : (k : ℕ) (p : ℕ × ℕ) → p.0 < k → p.1 < k → mem pair_eq (pairs_below k) p ≡ true
in_pairs_below k p a b = (member pair_eq same_pair (pairs_below k) p).passes
    (Contains-flat_map (λ i. map (λ j. (i, j)) (count_from 0 k)) (count_from 0 k) p.0 p ((member nat_eq same (count_from 0 k) p.0).holds ((counted 0 k p.0).passes (omega arith, omega arith)))
    (Contains-map (λ j. (p.0, j)) (count_from 0 k) p.1 ((member nat_eq same (count_from 0 k) p.1).holds ((counted 0 k p.1).passes (omega arith, omega arith)))))

pub pairs_rising : (ps : List (ℕ × ℕ)) → Tells (pairs_rise ps) (PairsRise ps)
pairs_rising [] = always tt
pairs_rising (p ∷ ps) = and2 (all ps (is_pair_before p) (PairBefore p) (λ q. or2 (less p.0 q.0) (and2 (same p.0 q.0) (less p.1 q.1)))) (pairs_rising ps)

pub in_order : (comps : List (List ℕ)) (xrefs : List (ℕ × ℕ)) → Tells (is_in_order comps xrefs) (IsCanonical comps xrefs)
in_order comps xrefs = like (λ p. record { members = p.0; some = p.1; order = p.2; rising = p.3 }) (λ r. (r.members, r.some, r.order, r.rising))
    (and4 (all comps rises Rises rising) (all comps (λ members. nat_lt 0 (length members)) (λ members. 0 < length members) (λ members. less 0 (length members)))
    (rising (map first_of comps)) (pairs_rising xrefs))

-- the components, heavy classes and cross-references that are computed are the graph's
pub contraction : (bridge : ℕ → Type 0) (edge : ℕ → ℕ → Type 0) (g : Listed) → IsListed bridge edge g
    → (comps : List (List ℕ)) (heavy : List ℕ) (xrefs : List (ℕ × ℕ)) → Tells (is_contraction g comps heavy xrefs) (IsContraction bridge edge comps heavy xrefs)
contraction bridge edge g l comps heavy xrefs = like
    (λ p. record {
      canonical = p.0;
      members = λ x. (λ m. (p.1 x).0 (member_in x m.0 m.1), λ b. member_of x ((p.1 x).1 b));
      together = p.2;
      heavy_rise = p.3.0;
      heavies = p.3.1;
      references = λ i j. p.4 (i, j);
    })
    (λ r. (r.canonical, λ x. (λ c. (r.members x).0 (member_of x c), λ b. let m = (r.members x).1 b in member_in x m.0 m.1), r.together, (r.heavy_rise, r.heavies), λ p. r.references p.0 p.1))
    (and5 (in_order comps xrefs) (exactly nat_eq same g.nodes (has g.bridges) bridge (members_of comps) l.picks l.inside) split (heavies bridge edge g l heavy) references)
  where
    member_in : (x i : ℕ) → IsMember comps i x → Contains (members_of comps) x
    member_in x i m = Contains-map (λ (p : ℕ × ℕ). p.1) (places_from 0 comps) (i, x) (place_of comps i x m)

    member_of : (x : ℕ) → Contains (members_of comps) x → (i : ℕ) × IsMember comps i x
    member_of x c = let r = Contains-map_cases (λ (p : ℕ × ℕ). p.1) (places_from 0 comps) x c in (r.0.0, subst (IsMember comps r.0.0) r.2 (member_at comps r.0.0 r.0.1 r.1))

    split : Tells (is_split g (places_from 0 comps)) ((i j x y : ℕ) → IsMember comps i x → IsMember comps j y → (i ≡ j) ↔ Mutual edge x y)
    split = like
        (λ f i j x y a b. f (i, x) (place_of comps i x a) (j, y) (place_of comps j y b))
        (λ f p a q b. f p.0 q.0 p.1 q.1 (member_at comps p.0 p.1 a) (member_at comps q.0 q.1 b))
        (all_in (places_from 0 comps) (λ p. list_all (λ q. agrees (nat_eq p.0 q.0) (is_mutual g p.1 q.1)) (places_from 0 comps))
        (λ p. (q : ℕ × ℕ) → Contains (places_from 0 comps) q → (p.0 ≡ q.0) ↔ Mutual edge p.1 q.1)
        (λ p. all_in (places_from 0 comps) (λ q. agrees (nat_eq p.0 q.0) (is_mutual g p.1 q.1)) (λ q. (p.0 ≡ q.0) ↔ Mutual edge p.1 q.1)
        (λ q. agree (nat_eq p.0 q.0) (is_mutual g p.1 q.1) (p.0 ≡ q.0) (Mutual edge p.1 q.1) (same p.0 q.0) (mutually bridge edge g l p.1 q.1))))

    references : Tells (is_exactly pair_eq (pairs_below (length comps + length heavy)) (is_reference g comps heavy) xrefs)
        ((p : ℕ × ℕ) → Contains xrefs p ↔ ((p.0 < length comps + length heavy) × (p.1 < length comps + length heavy)
        × IsCrossReference bridge edge (stand_at comps heavy p.0) (stand_at comps heavy p.1)))
    references = exactly pair_eq same_pair (pairs_below (length comps + length heavy)) (is_reference g comps heavy)
        (λ p. (p.0 < length comps + length heavy) × (p.1 < length comps + length heavy) × IsCrossReference bridge edge (stand_at comps heavy p.0) (stand_at comps heavy p.1)) xrefs
        (λ p. and3 (less p.0 (length comps + length heavy)) (less p.1 (length comps + length heavy)) (reference bridge edge g l (stand_at comps heavy p.0) (stand_at comps heavy p.1)))
        (λ p r. in_pairs_below (length comps + length heavy) p r.0 r.1)

-- the contraction of a dead part
dead_listed : (s : Managed) (dead : List ℕ) → IsListed (λ m. Contains dead m × IsBridge s m) (DeadEdge s dead) (dead_graph s dead)
dead_listed s dead = record {
  edges = λ x y. like {P = Contains dead x × (HasField s.heap x y × Contains dead y)} (λ p. (p.1.0, p.0, p.1.1)) (λ e. (e.1, (e.0, e.2)))
      (where_it_holds nat_eq same (has dead x) (filter (has dead) (heap_next s.heap x)) y (Contains dead x) (HasField s.heap x y × Contains dead y) (member nat_eq same dead x)
      (filtered nat_eq same (has dead) (heap_next s.heap x) y (HasField s.heap x y) (Contains dead y) (field s.heap x y) (member nat_eq same dead y)));
  sources = λ x y e. e.1;
  targets = λ x y e. e.2;
  picks = λ m. filtered nat_eq same (is_bridge s) dead m (Contains dead m) (IsBridge s m) (member nat_eq same dead m) (bridge s m);
  inside = λ m p. (member nat_eq same dead m).passes p.0;
}

pub dead_contraction : (s : Managed) (dead : List ℕ) (comps : List (List ℕ)) (heavy : List ℕ) (xrefs : List (ℕ × ℕ))
    → Tells (is_contraction (dead_graph s dead) comps heavy xrefs) (IsDeadContraction s dead comps heavy xrefs)
dead_contraction s dead comps heavy xrefs = contraction (λ m. Contains dead m × IsBridge s m) (DeadEdge s dead) (dead_graph s dead) (dead_listed s dead) comps heavy xrefs
