-- Rising lists, filters and marks. What a filter keeps of a rising list rises, and a rising list of members of another
-- has no more.
use Rattle.std.proofs.Common.{◌≡◌, ℕ, suc, ◌<◌, ◌≤◌, ◌-◌, zero, map, option_map, Bool, true, false, not, List, [], ◌∷◌, length, get_or, cond, Option, Some, None, refl, sym, ap, subst, ◌∙◌, arith}
use Rattle.std.specs.Prelude.{Contains, filter, slice_get, is_some}
use Rattle.std.proofs.lemmas.Option.{slice_get-map, slice_get-get_or}
use Rattle.joint_machine.specs.declared.names.MNum.{MNum}
use Rattle.joint_machine.specs.Heaps.{numbered_at}
use Rattle.joint_machine.specs.Histories.{managed_numbers}
use Rattle.joint_machine.proofs.Members.{Contains-here, Contains-there}
use Rattle.reachability.specs.Marks.{marked, unmarked_of}
use Rattle.managed_heap.specs.declared.rows.Header.{Header}
use Rattle.managed_heap.specs.Resolving.{has_handle, has_peer}

-- tests that agree on the members of a list keep the same of it
pub filter-agree : {X : Type 0} (p q : X → Bool) (xs : List X) → ((x : X) → Contains xs x → p x ≡ q x) → filter p xs ≡ filter q xs
filter-agree p q [] h = refl
filter-agree p q (x ∷ xs) h =
    let later : filter p xs ≡ filter q xs = filter-agree p q xs (λ y c. h y (Contains-there y x xs c)) in
    ap (λ b. cond b (x ∷ filter p xs) (filter p xs)) (h x (Contains-here x xs)) ∙ ap (λ zs. cond (q x) (x ∷ zs) zs) later

-- what passes for each member keeps the list
pub filter-whole : {X : Type 0} (p : X → Bool) (xs : List X) → ((x : X) → Contains xs x → p x ≡ true) → filter p xs ≡ xs
filter-whole p [] h = refl
filter-whole p (x ∷ xs) h =
    let later : filter p xs ≡ xs = filter-whole p xs (λ y c. h y (Contains-there y x xs c)) in
    ap (λ b. cond b (x ∷ filter p xs) (filter p xs)) (h x (Contains-here x xs)) ∙ ap (λ zs. x ∷ zs) later

-- a filter by what a map makes of the elements
pub map-filter : {X Y : Type 0} (f : X → Y) (p : Y → Bool) (xs : List X) → map f (filter (λ x. p (f x)) xs) ≡ filter p (map f xs)
map-filter f p [] = refl
map-filter {X} {Y} f p (x ∷ xs) = by (p (f x)) (map-filter f p xs)
  where
    by : (b : Bool) → map f (filter (λ y. p (f y)) xs) ≡ filter p (map f xs)
        → map f (cond b (x ∷ filter (λ y. p (f y)) xs) (filter (λ y. p (f y)) xs)) ≡ cond b (f x ∷ filter p (map f xs)) (filter p (map f xs))
    by true e = ap (λ zs. f x ∷ zs) e
    by false e = e

-- the same list as numbers
pub unmarked-numbers : (marks : List Bool) (ms : List MNum) → managed_numbers (filter (λ (m : MNum). not (marked marks m.0)) ms) ≡ unmarked_of marks (managed_numbers ms)
unmarked-numbers marks ms = map-filter (λ (m : MNum). m.0) (λ m. not (marked marks m)) ms

-- what stands beside a row
pub beside-at : {A : Type 0} (f : Header → A) (headers : List Header) (m : ℕ) (d : Header) → 1 ≤ m → m ≤ length headers → numbered_at (map f headers) m ≡ Some (f (get_or headers (m - 1) d))
beside-at f headers zero d one few = absurd (omega (arith, one))
beside-at {A} f headers (suc i) d one few =
    let before : suc i - 1 ≡ i = omega arith in
    let within : i < length headers = omega (arith, few) in
    subst (λ j. slice_get (map f headers) i ≡ Some (f (get_or headers j d))) (sym before) (slice_get-map f headers i ∙ ap (option_map f) (slice_get-get_or headers i d within))

pub has_handle-at : (headers : List Header) (m : ℕ) (d : Header) → 1 ≤ m → m ≤ length headers → has_handle (map (λ (i : Header). i.handle) headers) m ≡ is_some (get_or headers (m - 1) d).handle
has_handle-at headers m d one few = ap (λ (o : Option (Option ℕ)). is_some (elim o [ None ↦ None | Some h ↦ h ])) (beside-at (λ (i : Header). i.handle) headers m d one few)

pub has_peer-at : (headers : List Header) (m : ℕ) (d : Header) → 1 ≤ m → m ≤ length headers → has_peer (map (λ (i : Header). i.peer) headers) m ≡ is_some (get_or headers (m - 1) d).peer
has_peer-at headers m d one few = ap (λ (o : Option (Option ℕ)). is_some (elim o [ None ↦ None | Some p ↦ p ])) (beside-at (λ (i : Header). i.peer) headers m d one few)
