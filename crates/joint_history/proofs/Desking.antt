-- How a desk is set up: one caller after another gets its lines from a seat that holds them all.
use Rattle.std.proofs.Common.{◌≡◌, inl, inr, ⊎_elim, ℕ, zero, suc, ◌+◌, ◌-◌, ◌<◌, true, false, List, [], ◌∷◌, ◌++◌, length, Option, Some, None, refl, sym, ap, ◌∙◌, subst, arith}
use Rattle.std.specs.Prelude.{◌==◌, nat_le, nat_lt, if◌then◌else◌, slice_get, replicate}
use Rattle.std.proofs.lemmas.Option.{slice_get_past}
use Rattle.std.proofs.lemmas.Bool.{cases_Bool, cases_eq, eqb-true, eqb-false, leb-true, leb-false, ltb-true, ltb-false}
use Rattle.joint_machine.specs.declared.names.Thread.{Thread}
use Rattle.joint_machine.specs.declared.names.Thread.TheVariants.{M, P, C}
use Rattle.joint_machine.specs.Control.{Doing, free, caller_place, IsDone}
use Rattle.joint_machine.specs.Linked.{opening_linkage}
use Rattle.joint_machine.specs.Lines.{IsThread}
use Rattle.order_table.specs.declared.views.View.{View}
use Rattle.order_table.specs.Tells.{IsOfCaller, Parts}
use Rattle.order_table.specs.Views.{OwnsAll}
use Rattle.joint_history.proofs.KnownViews.{no_view}
use Rattle.joint_history.specs.Callers.{CallerKnows, HasReleased, KnowsNothing, Pass}
use Rattle.joint_history.specs.Desks.{AreAll, ArePlaced, HoldsFrom, WaitsAt, thread_of}
use Rattle.joint_machine.proofs.Deciding.{some-same}

-- the thread of a place
pub thread_is : (j : ℕ) → j < 17 → IsThread (thread_of j) × (caller_place (thread_of j) ≡ j)
thread_is j l = ⊎_elim
    (λ (e : (j == 0) ≡ true). subst (λ t. IsThread t × (caller_place t ≡ j)) (sym (ap (λ b. if b then C else (if nat_le j 8 then M j else P (j - 8))) e)) (tt, sym (eqb-true j 0 e)))
    (λ (f : (j == 0) ≡ false). ⊎_elim
    (λ (s : nat_le j 8 ≡ true). subst (λ t. IsThread t × (caller_place t ≡ j))
    (sym (ap (λ b. if b then C else (if nat_le j 8 then M j else P (j - 8))) f ∙ ap (λ b. if b then M j else P (j - 8)) s))
    ((let n = eqb-false j 0 f in omega (arith, n), leb-true j 8 s), refl))
    (λ (s : nat_le j 8 ≡ false). subst (λ t. IsThread t × (caller_place t ≡ j))
    (sym (ap (λ b. if b then C else (if nat_le j 8 then M j else P (j - 8))) f ∙ ap (λ b. if b then M j else P (j - 8)) s))
    (let m = leb-false j 8 s in ((omega arith, omega arith), omega arith)))
    (cases_Bool (nat_le j 8)))
    (cases_Bool (j == 0))

-- no two threads have a line in common
pub lines_apart : (t u : Thread) (i : ℕ) → IsThread t → IsThread u → IsOfCaller t i → IsOfCaller u i → caller_place t ≡ caller_place u
lines_apart (M n) (M m) i a b (inl e) (inl f) = omega arith
lines_apart (M n) (M m) i a b (inl e) (inr f) = let x = a.0 in let y = b.1 in absurd (omega arith)
lines_apart (M n) (M m) i a b (inr e) (inl f) = let x = a.1 in let y = b.0 in absurd (omega arith)
lines_apart (M n) (M m) i a b (inr e) (inr f) = omega arith
lines_apart (M n) (P m) i a b (inl e) f = let x = a.1 in let y = b.0 in absurd (omega arith)
lines_apart (M n) (P m) i a b (inr e) f = let x = a.1 in let y = b.0 in absurd (omega arith)
lines_apart (M n) C i a b (inl e) f = let x = a.0 in absurd (omega arith)
lines_apart (M n) C i a b (inr e) f = let x = a.1 in absurd (omega arith)
lines_apart (P n) (M m) i a b e (inl f) = let x = a.0 in let y = b.1 in absurd (omega arith)
lines_apart (P n) (M m) i a b e (inr f) = let x = a.0 in let y = b.1 in absurd (omega arith)
lines_apart (P n) (P m) i a b e f = omega arith
lines_apart (P n) C i a b e f = let x = a.0 in absurd (omega arith)
lines_apart C (M m) i a b e (inl f) = let y = b.0 in absurd (omega arith)
lines_apart C (M m) i a b e (inr f) = let y = b.1 in absurd (omega arith)
lines_apart C (P m) i a b e f = let y = b.0 in absurd (omega arith)
lines_apart C C i a b e f = refl

-- the lines of a thread are among all lines
caller_within : (t : Thread) (i : ℕ) → IsThread t → IsOfCaller t i → i < 27
caller_within (M n) i a (inl e) = let x = a.1 in omega arith
caller_within (M n) i a (inr e) = let x = a.1 in omega arith
caller_within (P n) i a e = let x = a.1 in omega arith
caller_within C i a e = omega arith

-- who owns all lines holds the passes of all threads
pub holds_all : (v : View) → OwnsAll v → HoldsFrom 0 v
holds_all v all j low few i q = all i (caller_within (thread_of j) i (thread_is j few).0 q)

-- after a place's lines went, those of the later places are still held
pub holds_on : (n : ℕ) (old left right : View) → n < 17 → HoldsFrom n old → Parts (IsOfCaller (thread_of n)) old left right → HoldsFrom (n + 1) left
holds_on n old left right l h p j more few i q =
    p.stayed i (λ e. let a = thread_is n l in let b = thread_is j few in let same = lines_apart (thread_of n) (thread_of j) i a.0 b.0 e q in let x = a.1 in let y = b.1 in omega arith)
    (h j (omega arith) few i q)

pub nothing_on : (G : ℕ → Type 0) (old left right : View) → Parts G old left right → KnowsNothing old → KnowsNothing left × KnowsNothing right
nothing_on G old left right p k = (λ i. (p.know i).0 ∙ k i, λ i. (p.know i).1 ∙ k i)

-- who knows nothing has nothing to release
free_all : (k n : ℕ) → elim (slice_get (replicate k free) n) as (λ x. Doing) [ None ↦ free | Some d ↦ d ] ≡ free
free_all zero n = refl
free_all (suc k) zero = refl
free_all (suc k) (suc n) = free_all k n

pub nothing_knows : (t : Thread) (v : View) → KnowsNothing v → CallerKnows t v
nothing_knows t v k = record { known = no_view v k; released = by t }
  where
    by : (u : Thread) → HasReleased u opening_linkage
    by (M n) = subst IsDone (sym (free_all 9 n)) tt
    by (P n) = tt
    by C = tt

module _ {A : Type 0} where
  get_last : (xs : List A) (x : A) → slice_get (xs ++ x ∷ []) (length xs) ≡ Some x
  get_last [] x = refl
  get_last (y ∷ xs) x = subst (λ k. slice_get (y ∷ (xs ++ x ∷ [])) k ≡ Some x) (let e : suc (length xs) ≡ length (y ∷ xs) = refl in e) (get_last xs x)

  get_front : (xs ys : List A) (i : ℕ) → i < length xs → slice_get (xs ++ ys) i ≡ slice_get xs i
  get_front [] ys i l = absurd (omega arith)
  get_front (x ∷ xs) ys zero l = refl
  get_front (x ∷ xs) ys (suc i) l = get_front xs ys i (omega arith)

-- one caller more is placed
pub placed_more : (n : ℕ) (callers : List (Option Pass)) (p : Pass) → length callers ≡ n → p.thread ≡ thread_of n
    → KnowsNothing p.view → ArePlaced n callers → ArePlaced (n + 1) (callers ++ Some p ∷ [])
placed_more n callers p len is nothing placed i l = ⊎_elim
    (λ (e : i ≡ n). (p, subst (λ k. slice_get (callers ++ Some p ∷ []) k ≡ Some (Some p)) (len ∙ sym e) (get_last callers (Some p)), (subst (λ k. p.thread ≡ thread_of k) (sym e) is, nothing)))
    (λ (m : i ≡ n → ⊥). let q = placed i (omega (arith, m)) in (q.0, get_front callers (Some p ∷ []) i (omega (arith, m)) ∙ q.1, q.2))
    (cases_eq i n)

pub each_of : (callers : List (Option Pass)) → AreAll callers → (i : ℕ) (o : Option Pass) → slice_get callers i ≡ Some o → WaitsAt i o
each_of callers a i o e = ⊎_elim
    (λ (l : nat_lt i 17 ≡ true). let q = a.placed i (ltb-true i 17 l) in subst (WaitsAt i) (some-same (Some q.0) o (sym q.1 ∙ e)) q.2)
    (λ (g : nat_lt i 17 ≡ false). let m = ltb-false i 17 g in let n = a.places in absurd (none_some o (sym (slice_get_past callers i (omega arith)) ∙ e)))
    (cases_Bool (nat_lt i 17))
  where
    none_some : (x : Option Pass) → None ≡ Some x → ⊥
    none_some x w = cc
