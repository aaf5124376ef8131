-- What the words of cells are after an entry.
use Rattle.std.proofs.Common.{◌≡◌, ◌⊎◌, ⊎_elim, ℕ, ◌+◌, ◌<◌, Bool, true, false, ◌||◌, List, [], ◌∷◌, ◌++◌, refl, sym, ap, ◌∙◌, subst, arith}
use Rattle.std.specs.Prelude.{if◌then◌else◌, Option, Some, None}
use Rattle.std.proofs.lemmas.Bool.{both_ways, cases_eq}
use Rattle.joint_machine.specs.declared.names.MNum.{MNum}
use Rattle.order_table.specs.declared.views.KeptEntry.{KeptEntry}
use Rattle.order_table.specs.declared.views.View.{View}
use Rattle.order_table.specs.Owed.{has, is_freed, marked, says_word, target, word_by}
use Rattle.order_table.specs.Rule.{CellIs, IsFresh, IsStale}
use Rattle.order_table.specs.Views.{known}
use Rattle.seat_calls.specs.Paying.{Agrees}
use Rattle.order_table.specs.Tells.{BeginsOneHistory}
use Rattle.order_table.proofs.Gate.{if_true, if_false}
use Rattle.order_table.proofs.Says.{freed_more, some_is, target_aimed}

-- the word of a cell that was just set
pub says_set : (ml : List KeptEntry) (k : KeptEntry) (c m : ℕ) → marked k ≡ Some (c, m) → is_freed ml m ≡ false → k.freed ≡ [] → says_word (ml ++ k ∷ []) c ≡ m + 1
says_set ml k c m marks alive frees = ap (λ o. word_by o (is_freed (ml ++ k ∷ []))) (target_aimed c m ml k marks)
    ∙ if_false (is_freed (ml ++ k ∷ []) m) 1 (m + 1) (freed_more ml k m ∙ ap (λ (z : Bool × List MNum). z.0 || has z.1 m) (λ i. (alive i, frees i)))

-- what is known is of one history, whatever else a view has
pub same_history : (v w : View) → w.known ≡ v.known → BeginsOneHistory v → BeginsOneHistory w
same_history v w e h = subst (λ ls. BeginsOneHistory (record w { known = ls })) (sym e) record { whole = h.whole; numbers = h.numbers; begins = h.begins }

-- an entry of the managed side stands in the managed list
pub managed_first : (r : ℕ) (b : Bool) → r < 2 → (r ≡ 1 → b ≡ true) → b ≡ false → r ≡ 0
managed_first r b small peer e = ⊎_elim (λ z. z) (λ n. absurd (let one : r ≡ 1 = omega (arith, n) in both_ways b e (peer one))) (cases_eq r 0)

-- a word that is stored over is that of a cell whose target is freed
pub gone_word : (v : View) (live : ℕ → Type 0) (gate c w : ℕ) (owed : Bool) → Agrees v live
    → CellIs (known v 0) gate owed c w → (w ≡ 1) ⊎ ((m : ℕ) × (0 < m) × (w ≡ m + 1) × (live m → ⊥)) → says_word (known v 0) c ≡ 1
gone_word v live gate c w owed agrees cell which = ⊎_elim
    (λ (is : w ≡ says_word (known v 0) c). ⊎_elim (λ (e : w ≡ 1). sym is ∙ e)
    (λ t. absurd (let t' : w ≡ t.0 + 1 = t.2 in t.3 (living t.0 t.1 (sym is ∙ t.2)))) which)
    (λ t. ⊎_elim
    (λ (f : IsFresh (known v 0) c w). absurd (let z = f.word in ⊎_elim (λ e. omega arith) (λ u. let u' : w ≡ u.0 + 1 = u.2 in omega arith) which))
    (λ (f : IsStale (known v 0) gate c w). ap (λ o. word_by o (is_freed (known v 0))) f.aims ∙ if_true (is_freed (known v 0) f.object) 1 (f.object + 1) f.freed) t.1)
    cell
  where
    ml : List KeptEntry
    ml = known v 0

    by_freed : (b : Bool) (x m : ℕ) → 0 < m → (if b then 1 else x + 1) ≡ m + 1 → (b ≡ false) × (x ≡ m)
    by_freed true x m pos e = absurd (omega arith)
    by_freed false x m pos e = (refl, omega arith)

    by_target : (o : Option ℕ) (m : ℕ) → 0 < m → target (known v 0) c ≡ o → word_by o (is_freed (known v 0)) ≡ m + 1 → live m
    by_target None m pos e f = absurd (omega arith)
    by_target (Some x) m pos e f = let t = by_freed (is_freed (known v 0) x) x m pos f in subst live t.1 ((agrees c x e).1 t.0)

    living : (m : ℕ) → 0 < m → says_word (known v 0) c ≡ m + 1 → live m
    living m pos e = by_target (target (known v 0) c) m pos refl e

-- a word that is left is owed by nobody
pub left_word : (v : View) (live : ℕ → Type 0) (gate c w : ℕ) (owed : Bool) → Agrees v live → CellIs (known v 0) gate owed c w → (w ≡ 0) ⊎ ((m : ℕ) × (0 < m) × (w ≡ m + 1) × live m)
    → (m : ℕ) → target (known v 0) c ≡ Some m → is_freed (known v 0) m ≡ true → owed ≡ true → ⊥
left_word v live gate c w owed agrees cell which m aims freed o =
    let one : says_word (known v 0) c ≡ 1 = ap (λ z. word_by z (is_freed (known v 0))) aims ∙ if_true (is_freed (known v 0) m) 1 (m + 1) freed in ⊎_elim
    (λ (is : w ≡ says_word (known v 0) c). ⊎_elim (λ (e : w ≡ 0). omega arith) (λ u. let u' : w ≡ u.0 + 1 = u.2 in let pos = u.1 in omega arith) which)
    (λ t. ⊎_elim
    (λ (f : IsFresh (known v 0) c w). let same : f.object ≡ m = some_is 0 f.object m (sym (ap (λ l. target l c) f.whole ∙ target_aimed c f.object f.init f.last f.sets) ∙ aims) in
    both_ways (is_freed (known v 0) m) (subst (λ x. is_freed (known v 0) x ≡ false) same f.alive) freed)
    (λ (f : IsStale (known v 0) gate c w). let z = f.word in ⊎_elim (λ (e : w ≡ 0). omega arith)
    (λ u. let u' : w ≡ u.0 + 1 = u.2 in let same : u.0 ≡ f.object = omega arith in both_ways (is_freed (known v 0) f.object) ((agrees c f.object f.aims).0 (subst live same u.3)) f.freed) which) t.1)
    cell
