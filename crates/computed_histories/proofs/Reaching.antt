-- What is computed to be reached is what walks reach: each round adds where the rows so far lead, and a round that adds
-- none leaves the list as it is. Each other round leaves fewer rows outside, so as many rounds as there are rows are
-- enough.
use Rattle.std.proofs.Common.{◌≡◌, ℕ, zero, suc, ◌+◌, ◌<◌, ◌≤◌, ◌⊎◌, ◌↔◌, inl, inr, ⊎_elim, Bool, true, false, not, ◌&&◌, cond, List, [], ◌∷◌, ◌++◌, length, refl, sym, ap, subst, ◌∙◌, arith, nat_eq}
use Rattle.std.proofs.Common.{nat_lt, true≢false, Option, Some, None}
use Rattle.std.specs.List.{Contains, filter, list_any, list_all, flat_map}
use Rattle.std.proofs.lemmas.Bool.{cases_Bool, false≢true, or_cases, and_parts, not-true, cases_eq}
use Rattle.joint_machine.specs.Walks.{Reaches, Reached}
use Rattle.joint_machine.specs.Components.{Rises}
use Rattle.joint_machine.proofs.WalkLemmas.{Reached-start, Reached-then, Reached-keeps}
use Rattle.joint_machine.proofs.Members.{Contains-nil, Contains-here, Contains-there, Contains-cons_cases, Contains-flat_map, Contains-flat_map_cases}
use Rattle.std.proofs.lemmas.List.Elements.{Contains-append_cases, Contains-append_left, Contains-append_right}
use Rattle.joint_machine.proofs.Deciding.{or_left, or_right, not-from}
use Rattle.computed_histories.specs.Lists.{implies, mem, with_one, with_all, reach, count_from, rises, is_exactly, rises_exactly, where_true, somes}
use Rattle.computed_histories.proofs.Telling.{Tells, implied, always, never, like, and2, or2, same, less, all}

-- a test is true or false, beside what it is
-- each element of a list, and some element of it
pub all_in : {A : Type 0} (xs : List A) (test : A → Bool) (P : A → Type 0) → ((x : A) → Tells (test x) (P x)) → Tells (list_all test xs) ((x : A) → Contains xs x → P x)
all_in [] test P t = always (λ x c. absurd (Contains-nil x c))
all_in {A} (y ∷ ys) test P t = like {P = P y × ((x : A) → Contains ys x → P x)}
    (λ p x c. ⊎_elim (λ e. subst P e p.0) (λ d. p.1 x d) (Contains-cons_cases y ys x c))
    (λ f. (f y (Contains-here y ys), λ x c. f x (Contains-there x y ys c)))
    (and2 (t y) (all_in ys test P t))

pub any_in : {A : Type 0} (xs : List A) (test : A → Bool) (P : A → Type 0) → ((x : A) → Tells (test x) (P x)) → Tells (list_any test xs) ((x : A) × Contains xs x × P x)
any_in [] test P t = never (λ p. Contains-nil p.0 p.1)
any_in {A} (y ∷ ys) test P t = like {P = P y ⊎ ((x : A) × Contains ys x × P x)}
    (λ s. ⊎_elim (λ p. (y, Contains-here y ys, p)) (λ p. (p.0, Contains-there p.0 y ys p.1, p.2)) s)
    (λ p. ⊎_elim (λ e. inl (subst P (sym e) p.2)) (λ c. inr (p.0, c, p.2)) (Contains-cons_cases y ys p.0 p.1))
    (or2 (t y) (any_in ys test P t))

-- which elements a list has
module _ {A : Type 0} (eq : A → A → Bool) (laws : (a b : A) → Tells (eq a b) (a ≡ b)) where
  pub member : (xs : List A) (x : A) → Tells (mem eq xs x) (Contains xs x)
  member [] x = never (λ c. Contains-nil x c)
  member (y ∷ ys) x = like {P = (x ≡ y) ⊎ Contains ys x}
      (λ s. ⊎_elim (λ e. subst (λ z. Contains (z ∷ ys) x) e (Contains-here x ys)) (λ c. Contains-there x y ys c) s)
      (λ c. ⊎_elim (λ e. inl (sym e)) (λ d. inr d) (Contains-cons_cases y ys x c))
      (or2 (laws x y) (member ys x))

  pub member_append : (xs ys : List A) (x : A) (P Q : Type 0) → Tells (mem eq xs x) P → Tells (mem eq ys x) Q → Tells (mem eq (xs ++ ys) x) (P ⊎ Q)
  member_append xs ys x P Q p q = like {P = Contains (xs ++ ys) x}
      (λ c. ⊎_elim (λ d. inl (p.holds ((member xs x).passes d))) (λ d. inr (q.holds ((member ys x).passes d))) (Contains-append_cases xs ys x c))
      (λ s. ⊎_elim (λ d. Contains-append_left xs ys x ((member xs x).holds (p.passes d))) (λ d. Contains-append_right xs ys x ((member ys x).holds (q.passes d))) s)
      (member (xs ++ ys) x)

  pub member_flat_map : {B : Type 0} (next : B → List A) (xs : List B) (y : A) → Tells (mem eq (flat_map next xs) y) ((x : B) × Contains xs x × (mem eq (next x) y ≡ true))
  member_flat_map next xs y = like {P = Contains (flat_map next xs) y}
      (λ c. let r = Contains-flat_map_cases next xs y c in (r.0, r.1, (member (next r.0) y).passes r.2))
      (λ r. Contains-flat_map next xs r.0 y r.1 ((member (next r.0) y).holds r.2))
      (member (flat_map next xs) y)

  pub member_filter : (test : A → Bool) (xs : List A) (x : A) → Tells (mem eq (filter test xs) x) ((mem eq xs x ≡ true) × (test x ≡ true))
  member_filter test [] x = never (λ p. false≢true p.0)
  member_filter test (y ∷ ys) x = go (test y) refl (member_filter test ys x)
    where
      go : (b : Bool) → test y ≡ b → Tells (mem eq (filter test ys) x) ((mem eq ys x ≡ true) × (test x ≡ true))
          → Tells (mem eq (cond b (y ∷ filter test ys) (filter test ys)) x) ((mem eq (y ∷ ys) x ≡ true) × (test x ≡ true))
      go true e rest = like {P = (x ≡ y) ⊎ ((mem eq ys x ≡ true) × (test x ≡ true))}
          (λ s. ⊎_elim
          (λ i. (or_left (eq x y) (mem eq ys x) ((laws x y).passes i), subst (λ z. test z ≡ true) (sym i) e))
          (λ p. (or_right (eq x y) (mem eq ys x) p.0, p.1)) s)
          (λ p. ⊎_elim (λ i. inl ((laws x y).holds i)) (λ i. inr (i, p.1)) (or_cases (eq x y) (mem eq ys x) p.0))
          (or2 (laws x y) rest)
      go false e rest = like
          (λ p. (or_right (eq x y) (mem eq ys x) p.0, p.1))
          (λ p. ⊎_elim (λ i. absurd (true≢false (sym p.1 ∙ ap test ((laws x y).holds i) ∙ e))) (λ i. (i, p.1)) (or_cases (eq x y) (mem eq ys x) p.0))
          rest

  pub filtered : (test : A → Bool) (xs : List A) (x : A) (P Q : Type 0) → Tells (mem eq xs x) P → Tells (test x) Q → Tells (mem eq (filter test xs) x) (P × Q)
  filtered test xs x P Q p q = like (λ r. (p.holds r.0, q.holds r.1)) (λ r. (p.passes r.0, q.passes r.1)) (member_filter test xs x)

  pub where_it_holds : (b : Bool) (xs : List A) (x : A) (P Q : Type 0) → Tells b P → Tells (mem eq xs x) Q → Tells (mem eq (where_true b xs) x) (P × Q)
  where_it_holds true xs x P Q p q = like (λ e. (p.holds refl, e)) (λ r. r.1) q
  where_it_holds false xs x P Q p q = never (λ r. false≢true (p.passes r.0))

  -- a list has all elements of another
  pub has_all : (seen xs : List A) → Tells (list_all (mem eq seen) xs) ((y : A) → Contains xs y → Contains seen y)
  has_all seen [] = always (λ y c. absurd (Contains-nil y c))
  has_all seen (x ∷ xs) = like {P = Contains seen x × ((y : A) → Contains xs y → Contains seen y)}
      (λ p y c. ⊎_elim (λ e. subst (Contains seen) e p.0) (λ d. p.1 y d) (Contains-cons_cases x xs y c))
      (λ f. (f x (Contains-here x xs), λ y c. f y (Contains-there y x xs c)))
      (and2 (member seen x) (has_all seen xs))

  pub one_missing : (seen xs : List A) → list_all (mem eq seen) xs ≡ false → (y : A) × Contains xs y × (mem eq seen y ≡ false)
  one_missing seen [] e = absurd (true≢false e)
  one_missing seen (x ∷ xs) e = go (one_missing seen xs) (mem eq seen x) refl e
    where
      go : (list_all (mem eq seen) xs ≡ false → (y : A) × Contains xs y × (mem eq seen y ≡ false)) → (b : Bool)
          → mem eq seen x ≡ b → (b && list_all (mem eq seen) xs) ≡ false → (y : A) × Contains (x ∷ xs) y × (mem eq seen y ≡ false)
      go rest true i f = let r = rest f in (r.0, Contains-there r.0 x xs r.1, r.2)
      go rest false i f = (x, Contains-here x xs, i)

  -- adding
  pub in_with_one : (seen : List A) (x y : A) → Contains (with_one eq seen x) y → Contains seen y ⊎ (x ≡ y)
  in_with_one seen x y = go (mem eq seen x)
    where
      go : (b : Bool) → Contains (cond b seen (x ∷ seen)) y → Contains seen y ⊎ (x ≡ y)
      go true c = inl c
      go false c = ⊎_elim (λ e. inr e) (λ d. inl d) (Contains-cons_cases x seen y c)

  pub with_one_has : (seen : List A) (x : A) → Contains (with_one eq seen x) x
  with_one_has seen x = go (mem eq seen x) refl
    where
      go : (b : Bool) → mem eq seen x ≡ b → Contains (cond b seen (x ∷ seen)) x
      go true e = (member seen x).holds e
      go false e = Contains-here x seen

  pub with_one_keeps : (seen : List A) (x y : A) → Contains seen y → Contains (with_one eq seen x) y
  with_one_keeps seen x y c = go (mem eq seen x)
    where
      go : (b : Bool) → Contains (cond b seen (x ∷ seen)) y
      go true = c
      go false = Contains-there y x seen c

  pub in_with_all : (seen xs : List A) (y : A) → Contains (with_all eq seen xs) y → Contains seen y ⊎ Contains xs y
  in_with_all seen [] y c = inl c
  in_with_all seen (x ∷ xs) y c = ⊎_elim
      (λ d. ⊎_elim (λ i. inl i) (λ i. inr (subst (λ z. Contains (z ∷ xs) y) (sym i) (Contains-here y xs))) (in_with_one seen x y d))
      (λ d. inr (Contains-there y x xs d))
      (in_with_all (with_one eq seen x) xs y c)

  pub with_all_keeps : (seen xs : List A) (y : A) → Contains seen y → Contains (with_all eq seen xs) y
  with_all_keeps seen [] y c = c
  with_all_keeps seen (x ∷ xs) y c = with_all_keeps (with_one eq seen x) xs y (with_one_keeps seen x y c)

  pub with_all_has : (seen xs : List A) (y : A) → Contains xs y → Contains (with_all eq seen xs) y
  with_all_has seen [] y c = absurd (Contains-nil y c)
  with_all_has seen (x ∷ xs) y c = ⊎_elim
      (λ e. with_all_keeps (with_one eq seen x) xs y (subst (Contains (with_one eq seen x)) e (with_one_has seen x)))
      (λ d. with_all_has (with_one eq seen x) xs y d)
      (Contains-cons_cases x xs y c)

  pub with_all_same : (seen xs : List A) → list_all (mem eq seen) xs ≡ true → with_all eq seen xs ≡ seen
  with_all_same seen [] e = refl
  with_all_same seen (x ∷ xs) e = let p = and_parts (mem eq seen x) (list_all (mem eq seen) xs) e in
      subst (λ (b : Bool). with_all eq (cond b seen (x ∷ seen)) xs ≡ seen) (sym p.0) (with_all_same seen xs p.1)

  -- the rows outside of a list
  pub fewer : (test more : A → Bool) → ((x : A) → more x ≡ true → test x ≡ true) → (xs : List A) → length (filter more xs) ≤ length (filter test xs)
  fewer test more f [] = omega arith
  fewer test more f (x ∷ xs) = go (more x) (test x) refl refl (fewer test more f xs)
    where
      go : (a b : Bool) → more x ≡ a → test x ≡ b → length (filter more xs) ≤ length (filter test xs)
          → length (cond a (x ∷ filter more xs) (filter more xs)) ≤ length (cond b (x ∷ filter test xs) (filter test xs))
      go true true i j r = omega arith
      go true false i j r = absurd (true≢false (sym (f x i) ∙ j))
      go false true i j r = omega arith
      go false false i j r = r

  pub one_fewer : (test more : A → Bool) → ((x : A) → more x ≡ true → test x ≡ true) → (xs : List A) (y : A)
      → Contains xs y → test y ≡ true → more y ≡ false → length (filter more xs) < length (filter test xs)
  one_fewer test more f [] y c t m = absurd (Contains-nil y c)
  one_fewer test more f (x ∷ xs) y c t m = ⊎_elim
      (λ e. here (more x) (test x) (subst (λ z. more z ≡ false) (sym e) m) (subst (λ z. test z ≡ true) (sym e) t))
      (λ d. there (more x) (test x) refl refl (one_fewer test more f xs y d t m))
      (Contains-cons_cases x xs y c)
    where
      here : (a b : Bool) → a ≡ false → b ≡ true → length (cond a (x ∷ filter more xs) (filter more xs)) < length (cond b (x ∷ filter test xs) (filter test xs))
      here true b i j = absurd (true≢false i)
      here false true i j = let l = fewer test more f xs in omega arith
      here false false i j = absurd (false≢true j)

      there : (a b : Bool) → more x ≡ a → test x ≡ b → length (filter more xs) < length (filter test xs)
          → length (cond a (x ∷ filter more xs) (filter more xs)) < length (cond b (x ∷ filter test xs) (filter test xs))
      there true true i j r = omega arith
      there true false i j r = absurd (true≢false (sym (f x i) ∙ j))
      there false true i j r = omega arith
      there false false i j r = r

  -- in how many rounds, where all rows lead into one list
  module _ (next : A → List A) (rows : List A) (inside : (x y : A) → mem eq (next x) y ≡ true → Contains rows y) where
    abbrev is_outside : List A → A → Bool
    is_outside seen x = not (mem eq seen x)

    abbrev is_closed : List A → Bool
    is_closed seen = list_all (mem eq seen) (flat_map next seen)

    abbrev round : List A → List A
    round seen = with_all eq seen (flat_map next seen)

    round_adds : (seen : List A) → is_closed seen ≡ false → length (filter (is_outside (round seen)) rows) < length (filter (is_outside seen) rows)
    round_adds seen e =
        let m = one_missing seen (flat_map next seen) e in
        let f = Contains-flat_map_cases next seen m.0 m.1 in
        one_fewer (is_outside seen) (is_outside (round seen)) keeps rows m.0 (inside f.0 m.0 ((member (next f.0) m.0).passes f.2))
        (ap not m.2) (ap not ((member (round seen) m.0).passes (with_all_has seen (flat_map next seen) m.0 m.1)))
      where
        keeps : (x : A) → is_outside (round seen) x ≡ true → is_outside seen x ≡ true
        keeps x o = not-from (mem eq seen x) (λ i. true≢false (sym ((member (round seen) x).passes (with_all_keeps seen (flat_map next seen) x ((member seen x).holds i)))
            ∙ not-true (mem eq (round seen) x) o))

    stays : (n : ℕ) (seen : List A) → is_closed seen ≡ true → reach eq next n seen ≡ seen
    stays zero seen e = refl
    stays (suc n) seen e = subst (λ l. reach eq next n l ≡ seen) (sym (with_all_same seen (flat_map next seen) e)) (stays n seen e)

    closes : (n : ℕ) (seen : List A) → length (filter (is_outside seen) rows) ≤ n → is_closed (reach eq next n seen) ≡ true
    closes zero seen l = ⊎_elim (λ e. e) (λ e. let d = round_adds seen e in absurd (omega arith)) (cases_Bool (is_closed seen))
    closes (suc n) seen l = ⊎_elim
        (λ e. subst (λ s. is_closed s ≡ true) (sym (stays (suc n) seen e)) e)
        (λ e. let d = round_adds seen e in closes n (round seen) (omega arith))
        (cases_Bool (is_closed seen))

    all_outside : (test : A → Bool) (xs : List A) → length (filter test xs) ≤ length xs
    all_outside test [] = omega arith
    all_outside test (x ∷ xs) = go (test x) (all_outside test xs)
      where
        go : (b : Bool) → length (filter test xs) ≤ length xs → length (cond b (x ∷ filter test xs) (filter test xs)) ≤ length (x ∷ xs)
        go true l = omega arith
        go false l = omega arith

    reach_keeps_first : (n : ℕ) (seen : List A) (x : A) → Contains seen x → Contains (reach eq next n seen) x
    reach_keeps_first zero seen x c = c
    reach_keeps_first (suc n) seen x c = reach_keeps_first n (round seen) x (with_all_keeps seen (flat_map next seen) x c)

    -- what holds of a list, and with each row of the next ones, holds of what is reached
    reach_keeps : (P : A → Type 0) → ((x y : A) → P x → mem eq (next x) y ≡ true → P y) → (n : ℕ) (seen : List A)
        → ((y : A) → Contains seen y → P y) → (y : A) → Contains (reach eq next n seen) y → P y
    reach_keeps P step zero seen base y c = base y c
    reach_keeps P step (suc n) seen base y c = reach_keeps P step n (round seen)
        (λ z d. ⊎_elim (base z)
        (λ e. let r = Contains-flat_map_cases next seen z e in step r.0 z (base r.0 r.1) ((member (next r.0) z).passes r.2))
        (in_with_all seen (flat_map next seen) z d))
        y c

    -- reachability
    pub reached : (start : A → Type 0) (edge : A → A → Type 0) (roots : List A) → ((x : A) → Tells (mem eq roots x) (start x)) → ((x y : A) → Tells (mem eq (next x) y) (edge x y)) → (y : A)
        → Tells (mem eq (reach eq next (length rows) roots) y) (Reached start edge y)
    reached start edge roots from to y = record {
      holds = λ m. reach_keeps (Reached start edge) (λ x z r i. Reached-then start edge x z r ((to x z).holds i)) (length rows) roots
          (λ z c. Reached-start start edge z ((from z).holds ((member roots z).passes c))) y ((member (reach eq next (length rows) roots) y).holds m);
      passes = λ r. (member (reach eq next (length rows) roots) y).passes (Reached-keeps start edge (Contains (reach eq next (length rows) roots))
          (λ x s. reach_keeps_first (length rows) roots x ((member roots x).holds ((from x).passes s)))
          (λ x z e c. (has_all (reach eq next (length rows) roots) (flat_map next (reach eq next (length rows) roots))).holds (closes (length rows) roots (all_outside (is_outside roots) rows)) z
          (Contains-flat_map next (reach eq next (length rows) roots) x z c ((member (next x) z).holds ((to x z).passes e)))) y r);
    }

    -- the same from one row
    pub reaches : (edge : A → A → Type 0) (x : A) → ((x y : A) → Tells (mem eq (next x) y) (edge x y)) → (y : A) → Tells (mem eq (reach eq next (length rows) (x ∷ [])) y) (Reaches edge x y)
    reaches edge x to y = like
        (λ r. subst (λ z. Reaches edge z y) r.starts r.reaches)
        (λ r. record { root = x; starts = refl; reaches = r })
        (reached (λ z. z ≡ x) edge (x ∷ []) (λ z. like (λ s. ⊎_elim (λ e. e) (λ e. absurd e) s) (λ e. inl e) (or2 (laws z x) (never {P = ⊥} (λ e. e)))) to y)

  -- exactly what passes a test
  pub exactly : (rows : List A) (test : A → Bool) (P : A → Type 0) (xs : List A) → ((x : A) → Tells (test x) (P x))
      → ((x : A) → P x → mem eq rows x ≡ true) → Tells (is_exactly eq rows test xs) ((x : A) → Contains xs x ↔ P x)
  exactly rows test P xs t within = like {P = ((x : A) → Contains xs x → P x) × ((x : A) → mem eq rows x ≡ true → P x → Contains xs x)}
      (λ p x. (p.0 x, λ q. p.1 x (within x q) q))
      (λ f. (λ x c. (f x).0 c, λ x i q. (f x).1 q))
      (and2 (all_in xs test P t) (each_row rows))
    where
      each_row : (ys : List A) → Tells (list_all (λ x. implies (test x) (mem eq xs x)) ys) ((x : A) → mem eq ys x ≡ true → P x → Contains xs x)
      each_row [] = always (λ x i. absurd (false≢true i))
      each_row (y ∷ ys) = like {P = (P y → Contains xs y) × ((x : A) → mem eq ys x ≡ true → P x → Contains xs x)}
          (λ p x i. ⊎_elim (λ e. subst (λ z. P z → Contains xs z) (sym ((laws x y).holds e)) p.0) (λ d. p.1 x d) (or_cases (eq x y) (mem eq ys x) i))
          (λ f. (f y (or_left (eq y y) (mem eq ys y) ((laws y y).passes refl)), λ x i. f x (or_right (eq x y) (mem eq ys x) i)))
          (and2 (implied (t y) (member xs y)) (each_row ys))

-- numbers that rise
pub rising : (xs : List ℕ) → Tells (rises xs) (Rises xs)
rising [] = always tt
rising (x ∷ xs) = and2 (all xs (nat_lt x) (λ y. x < y) (less x)) (rising xs)

pub rising_exactly : (rows : List ℕ) (test : ℕ → Bool) (P : ℕ → Type 0) (xs : List ℕ) → ((x : ℕ) → Tells (test x) (P x))
    → ((x : ℕ) → P x → mem nat_eq rows x ≡ true) → Tells (rises_exactly rows test xs) (Rises xs × ((x : ℕ) → Contains xs x ↔ P x))
rising_exactly rows test P xs t within = and2 (rising xs) (exactly nat_eq same rows test P xs t within)

-- numbers that are counted
pub counted : (k n i : ℕ) → Tells (mem nat_eq (count_from k n) i) ((k ≤ i) × (i < k + n))
counted k zero i = never (λ p. let a = p.0 in let b = p.1 in omega arith)
counted k (suc n) i = like {P = (i ≡ k) ⊎ ((suc k ≤ i) × (i < suc k + n))} (from k n i) (into k n i) (or2 (same i k) (counted (suc k) n i))
  where
    from : (k n i : ℕ) → (i ≡ k) ⊎ ((suc k ≤ i) × (i < suc k + n)) → (k ≤ i) × (i < k + suc n)
    from k n i (inl e) = (omega arith, omega arith)
    from k n i (inr p) = let a = p.0 in let b = p.1 in (omega arith, omega arith)

    later : (k n i : ℕ) → (i ≡ k → ⊥) → k ≤ i → i < k + suc n → (suc k ≤ i) × (i < suc k + n)
    later k n i d a b = (omega arith, omega arith)

    into : (k n i : ℕ) → (k ≤ i) × (i < k + suc n) → (i ≡ k) ⊎ ((suc k ≤ i) × (i < suc k + n))
    into k n i p = ⊎_elim (λ e. inl e) (λ d. inr (later k n i d p.0 p.1)) (cases_eq i k)

-- what stands in places
pub in_somes : (xs : List (Option ℕ)) (x : ℕ) → Tells (mem nat_eq (somes xs) x) (Contains xs (Some x))
in_somes [] x = never (λ c. Contains-nil (Some x) c)
in_somes (None ∷ xs) x = like
    (λ c. Contains-there (Some x) None xs c)
    (λ c. ⊎_elim (λ e. absurd (none e)) (λ d. d) (Contains-cons_cases None xs (Some x) c))
    (in_somes xs x)
  where
    none : None ≡ Some x → ⊥
    none e = cc
in_somes (Some y ∷ xs) x = like {P = (x ≡ y) ⊎ Contains xs (Some x)}
    (λ s. ⊎_elim (λ e. subst (λ z. Contains (Some z ∷ xs) (Some x)) e (Contains-here (Some x) xs)) (λ c. Contains-there (Some x) (Some y) xs c) s)
    (λ c. ⊎_elim (λ e. inl (inside e)) (λ d. inr d) (Contains-cons_cases (Some y) xs (Some x) c))
    (or2 (same x y) (in_somes xs x))
  where
    inside : Some y ≡ Some x → x ≡ y
    inside e = cc
