-- Tests on lists, and what is reached from a list by following where its elements lead. (Textbook.)
use Rattle.std.specs.Prelude.{ℕ, zero, suc, Bool, true, false, not, ◌&&◌, ◌||◌, nat_eq, nat_lt, if◌then◌else◌, List, []}
use Rattle.std.specs.Prelude.{◌∷◌, Option, Some, None, flat_map}
use Rattle.std.specs.List.{list_any, list_all}

-- whether the list has the element, by a test of equality
abbrev pub mem : {A : Type 0} → (A → A → Bool) → List A → A → Bool
mem eq xs x = list_any (eq x) xs

-- whether the list has the number
abbrev pub has : List ℕ → ℕ → Bool
has xs x = mem nat_eq xs x

-- whether two pairs of numbers are the same
abbrev pub pair_eq : ℕ × ℕ → ℕ × ℕ → Bool
pair_eq p q = nat_eq p.0 q.0 && nat_eq p.1 q.1

-- whether two lists are the same, by a test of equality
abbrev pub same_list : {A : Type 0} → (A → A → Bool) → List A → List A → Bool
same_list eq [] [] = true
same_list eq [] (y ∷ ys) = false
same_list eq (x ∷ xs) [] = false
same_list eq (x ∷ xs) (y ∷ ys) = eq x y && same_list eq xs ys

-- whether a place has something that passes the test
abbrev pub has_that : {A : Type 0} → (A → Bool) → Option A → Bool
has_that test None = false
has_that test (Some x) = test x

-- whether a place is empty
abbrev pub is_empty : {A : Type 0} → Option A → Bool
is_empty None = true
is_empty (Some x) = false

-- whether two numbers that may be missing are the same
abbrev pub same_number : Option ℕ → Option ℕ → Bool
same_number None None = true
same_number None (Some b) = false
same_number (Some a) None = false
same_number (Some a) (Some b) = nat_eq a b

-- the list with an element, unless it has it, and with the elements of another list
abbrev pub with_one : {A : Type 0} → (A → A → Bool) → List A → A → List A
with_one eq seen x = if mem eq seen x then seen else x ∷ seen

abbrev pub with_all : {A : Type 0} → (A → A → Bool) → List A → List A → List A
with_all eq seen [] = seen
with_all eq seen (x ∷ xs) = with_all eq (with_one eq seen x) xs

-- what is reached from a list in so many rounds; each adds where the elements so far lead. As many rounds as there are
-- rows are enough.
abbrev pub reach : {A : Type 0} → (A → A → Bool) → (A → List A) → ℕ → List A → List A
reach eq next zero seen = seen
reach eq next (suc n) seen = reach eq next n (with_all eq seen (flat_map next seen))

-- the numbers from k on, so many
abbrev pub count_from : ℕ → ℕ → List ℕ
count_from k zero = []
count_from k (suc n) = k ∷ count_from (suc k) n

-- whether the numbers of a list rise
abbrev pub rises : List ℕ → Bool
rises [] = true
rises (x ∷ xs) = list_all (nat_lt x) xs && rises xs

-- whether one test holds where another does
abbrev pub implies : Bool → Bool → Bool
implies a b = not a || b

-- whether a list has exactly what passes a test, which only some of the rows do
abbrev pub is_exactly : {A : Type 0} → (A → A → Bool) → List A → (A → Bool) → List A → Bool
is_exactly eq rows test xs = list_all test xs && list_all (λ x. implies (test x) (mem eq xs x)) rows

-- whether a rising list has exactly the numbers that pass a test
abbrev pub rises_exactly : List ℕ → (ℕ → Bool) → List ℕ → Bool
rises_exactly rows test xs = rises xs && is_exactly nat_eq rows test xs

-- a list, where a test holds
abbrev pub where_true : {A : Type 0} → Bool → List A → List A
where_true b xs = if b then xs else []

-- what stands in a list of places
abbrev pub somes : {A : Type 0} → List (Option A) → List A
somes [] = []
somes (None ∷ xs) = somes xs
somes (Some x ∷ xs) = x ∷ somes xs
