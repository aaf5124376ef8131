-- What a managed list says of the cells.
use Rattle.std.proofs.Common.{◌≡◌, ◌⊎◌, inl, inr, ⊎_elim, ℕ, zero, suc, ◌+◌, ◌<◌, ◌≤◌, Bool, true, false, ◌||◌, List, [], ◌∷◌, ◌++◌, refl, sym, ap, ◌∙◌, arith, true≢false, Option, Some, None, eq-eqb}
use Rattle.std.specs.Prelude.{if◌then◌else◌, ◌==◌}
use Rattle.std.proofs.lemmas.Bool.{cases_Bool, eqb-true}
use mathlib.Core.Option.{some, some-injective, some-ne-none}
use lib.ListN.{get_elem?}
use Rattle.order_table.specs.declared.views.KeptEntry.{KeptEntry}
use Rattle.order_table.specs.Rows.{at}
use Rattle.order_table.specs.Owed.{marked, aims_at, target_from, target, has, is_freed, word_by, says_word, by_place}
use Rattle.order_table.specs.Rule.{Stands, SetsCell}

pub at_by_place : (n : ℕ) (f : ℕ → Bool) (i : ℕ) → i < n → at false (by_place n f) i ≡ f i
at_by_place zero f i l = absurd (omega arith)
at_by_place (suc n) f zero l = refl
at_by_place (suc n) f (suc i) l = at_by_place n (λ j. f (suc j)) i (omega arith)

pub at_row_past : (n : ℕ) (f : ℕ → Bool) (i : ℕ) → n ≤ i → at false (by_place n f) i ≡ false
at_row_past zero f i l = refl
at_row_past (suc n) f zero l = absurd (omega arith)
at_row_past (suc n) f (suc i) l = at_row_past n (λ j. f (suc j)) i (omega arith)

-- two options that are one
pub some_is : {A : Type 0} (d : A) (x y : A) → Some x ≡ Some y → x ≡ y
some_is d x y e = ap (λ o. elim o [ None ↦ d | Some z ↦ z ]) e

pub none_not : {A : Type 0} (x : A) → None ≡ Some x → ⊥
none_not x e = true≢false (ap (λ o. elim o [ None ↦ true | Some z ↦ false ]) e)

target_append : (c : ℕ) (t : Option ℕ) (ks ls : List KeptEntry) → target_from c t (ks ++ ls) ≡ target_from c (target_from c t ks) ls
target_append c t [] ls = refl
target_append c t (k ∷ ks) ls = target_append c (aims_at c t (marked k)) ks ls

pub target_more : (c : ℕ) (ks : List KeptEntry) (k : KeptEntry) → target (ks ++ k ∷ []) c ≡ aims_at c (target ks c) (marked k)
target_more c ks k = target_append c None ks (k ∷ [])

pub freed_more : (ks : List KeptEntry) (k : KeptEntry) (m : ℕ) → is_freed (ks ++ k ∷ []) m ≡ (is_freed ks m || has k.freed m)
freed_more [] k m = or_none (has k.freed m)
  where
    or_none : (b : Bool) → (b || false) ≡ (false || b)
    or_none true = refl
    or_none false = refl
freed_more (x ∷ ks) k m = ap (λ b. has x.freed m || b) (freed_more ks k m) ∙ grouped (has x.freed m) (is_freed ks m) (has k.freed m)
  where
    grouped : (a b c : Bool) → (a || (b || c)) ≡ ((a || b) || c)
    grouped true b c = refl
    grouped false b c = refl

-- once a cell has a target it has one
aims_some : (c m : ℕ) (o : Option (ℕ × ℕ)) → (n : ℕ) × (aims_at c (Some m) o ≡ Some n)
aims_some c m None = (m, refl)
aims_some c m (Some p) = by_test (p.0 == c)
  where
    by_test : (b : Bool) → (n : ℕ) × ((if b then Some p.1 else Some m) ≡ Some n)
    by_test true = (p.1, refl)
    by_test false = (m, refl)

target_stays : (c m : ℕ) (ks : List KeptEntry) → (n : ℕ) × (target_from c (Some m) ks ≡ Some n)
target_stays c m [] = (m, refl)
target_stays c m (k ∷ ks) = let a = aims_some c m (marked k) in let r = target_stays c a.0 ks in (r.0, ap (λ o. target_from c o ks) a.1 ∙ r.1)

-- the target after one more entry: as it was, or that of the entry
pub target_cases : (c m : ℕ) (ks : List KeptEntry) (k : KeptEntry) → target (ks ++ k ∷ []) c ≡ Some m → (target ks c ≡ Some m) ⊎ (marked k ≡ Some (c, m))
target_cases c m ks k e = by_mark (marked k) refl
  where
    by_mark : (o : Option (ℕ × ℕ)) → marked k ≡ o → (target ks c ≡ Some m) ⊎ (marked k ≡ Some (c, m))
    by_mark None is = inl (sym (target_more c ks k ∙ ap (aims_at c (target ks c)) is) ∙ e)
    by_mark (Some p) is = let now = sym (target_more c ks k ∙ ap (aims_at c (target ks c)) is) ∙ e in ⊎_elim
        (λ (b : (p.0 == c) ≡ true). inr (is ∙ ap (λ (z : ℕ × ℕ). Some z) (λ i. (eqb-true p.0 c b i, some_is 0 p.1 m (sym (ap (λ z. if z then Some p.1 else target ks c) b) ∙ now) i))))
        (λ (b : (p.0 == c) ≡ false). inl (sym (ap (λ z. if z then Some p.1 else target ks c) b) ∙ now))
        (cases_Bool (p.0 == c))

-- a cell that the entry doesn't set keeps its target
pub target_kept : (c : ℕ) (ks : List KeptEntry) (k : KeptEntry) → ((m : ℕ) → marked k ≡ Some (c, m) → ⊥) → target (ks ++ k ∷ []) c ≡ target ks c
target_kept c ks k other = target_more c ks k ∙ by_mark (marked k) refl
  where
    by_mark : (o : Option (ℕ × ℕ)) → marked k ≡ o → aims_at c (target ks c) (marked k) ≡ target ks c
    by_mark None is = ap (aims_at c (target ks c)) is
    by_mark (Some p) is = ap (aims_at c (target ks c)) is ∙ ⊎_elim
        (λ (b : (p.0 == c) ≡ true). absurd (other p.1 (is ∙ ap (λ (z : ℕ). Some (z, p.1)) (eqb-true p.0 c b))))
        (λ (b : (p.0 == c) ≡ false). ap (λ z. if z then Some p.1 else target ks c) b)
        (cases_Bool (p.0 == c))

pub target_aimed : (c m : ℕ) (ks : List KeptEntry) (k : KeptEntry) → marked k ≡ Some (c, m) → target (ks ++ k ∷ []) c ≡ Some m
target_aimed c m ks k is = target_more c ks k ∙ (ap (aims_at c (target ks c)) is ∙ ap (λ b. if b then Some m else target ks c) (eq-eqb c c refl))

pub says_none : (c : ℕ) (ks : List KeptEntry) → target ks c ≡ None → says_word ks c ≡ 0
says_none c ks e = ap (λ o. word_by o (is_freed ks)) e

pub says_gone : (c m : ℕ) (ks : List KeptEntry) → target ks c ≡ Some m → is_freed ks m ≡ true → says_word ks c ≡ 1
says_gone c m ks e f = ap (λ o. word_by o (is_freed ks)) e ∙ ap (λ b. if b then 1 else m + 1) f

pub says_object : (c m : ℕ) (ks : List KeptEntry) → target ks c ≡ Some m → is_freed ks m ≡ false → says_word ks c ≡ m + 1
says_object c m ks e f = ap (λ o. word_by o (is_freed ks)) e ∙ ap (λ b. if b then 1 else m + 1) f

-- a cell that an entry sets has a target
pub target_set : (c : ℕ) (ks : List KeptEntry) (a : KeptEntry) → Stands ks a → SetsCell a c → (n : ℕ) × (target ks c ≡ Some n)
target_set c ks a s e = at_place None ks s.0 s.1
  where
    at_place : (t : Option ℕ) (l : List KeptEntry) (j : ℕ) → get_elem? l j ≡ some a → (n : ℕ) × (target_from c t l ≡ Some n)
    at_place t [] j h = absurd (some-ne-none a (sym h))
    at_place t (x ∷ xs) zero h = let d : marked x ≡ Some (c, e.0) = ap marked (some-injective x a h) ∙ e.1 in
        let now : aims_at c t (marked x) ≡ Some e.0 = ap (aims_at c t) d ∙ ap (λ b. if b then Some e.0 else t) (eq-eqb c c refl) in
        let r = target_stays c e.0 xs in (r.0, ap (λ o. target_from c o xs) now ∙ r.1)
    at_place t (x ∷ xs) (suc j) h = at_place (aims_at c t (marked x)) xs j h
