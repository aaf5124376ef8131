-- The lists of reads are gathered with their threads' seats: each stands at the place of its reader's line, and is what
-- the one seat knows of that line. With both sides' lists before them they are the lists of all lines from 0 to 9.
use Rattle.std.proofs.Common.{◌≡◌, inr, ⊎_elim, ℕ, ◌+◌, ◌-◌, ◌<◌, List, [], ◌∷◌, ◌++◌, length, refl, sym, ap, ◌∙◌, subst, arith}
use Rattle.std.specs.Prelude.{Contains, slice_index_or, slice_set}
use Rattle.std.proofs.lemmas.Bool.{cases_eq}
use Rattle.std.proofs.lemmas.List.{get_or-set_same, get_or-set_other, length-set}
use Rattle.std.proofs.lemmas.List.Elements.{Contains-push_cases}
use Rattle.joint_machine.specs.declared.names.Thread.{Thread}
use Rattle.joint_machine.specs.declared.names.Thread.TheVariants.{M, P, C}
use Rattle.joint_machine.specs.declared.events.Entry.{Entry}
use Rattle.joint_machine.specs.Lines.{IsThread}
use Rattle.order_table.specs.declared.views.View.{View}
use Rattle.order_table.specs.Facts.{line_entries}
use Rattle.order_table.specs.Tells.{TakesIn}
use Rattle.order_table.specs.Views.{known}
use Rattle.view_laws.specs.Knowing.{AreListsOf}
use Rattle.joint_history.specs.Callers.{HoldsPass, KeepsReads}
use Rattle.joint_history.specs.Ending.{HasGatheredReads, all_lists, with_reads}
use Rattle.joint_history.specs.Knowing.{line_known}

-- the reads of a thread that is taken in, by its seat w
reads_there : (n : ℕ) (es : List Entry) (lists : List (List Entry)) (w u : View) → IsThread (M n) → length lists ≡ 10 → KeepsReads (M n) w es → known u (1 + n) ≡ known w (1 + n)
    → slice_index_or (with_reads (M n) es lists) (1 + n) [] ≡ line_known u (1 + n)
reads_there n es lists w u is ten keeps same = let few = is.1 in get_or-set_same lists (1 + n) es [] (omega (arith, few, ten)) ∙ (sym keeps ∙ ap line_entries (sym same))

-- one thread's reads more
pub gather_reads : (t : Thread) (es : List Entry) (v w u : View) (lists : List (List Entry)) (ts : List Thread)
    → IsThread t → HoldsPass t w → KeepsReads t w es → ((s : Thread) → Contains ts s → HoldsPass s v) → TakesIn v w u
    → HasGatheredReads v lists ts → HasGatheredReads u (with_reads t es lists) (ts ++ t ∷ [])
gather_reads t es v w u lists ts is pass keeps holds k g = record {
  ten = by t;
  reads = λ n c. ⊎_elim (λ h. earlier t is pass keeps n h) (λ e. last t is pass keeps n e) (Contains-push_cases ts t (M n) c);
}
  where
    by : (t : Thread) → length (with_reads t es lists) ≡ 10
    by (M m) = length-set lists (1 + m) es ∙ g.ten
    by (P m) = g.ten
    by C = g.ten

    stays : (n : ℕ) → Contains ts (M n) → slice_index_or lists (1 + n) [] ≡ line_known u (1 + n)
    stays n h = g.reads n h ∙ ap line_entries (sym (k.owned (1 + n) (holds (M n) h (1 + n) (inr refl))))

    here : (m : ℕ) → IsThread (M m) → HoldsPass (M m) w → KeepsReads (M m) w es → slice_index_or (slice_set lists (1 + m) es) (1 + m) [] ≡ line_known u (1 + m)
    here m is pass keeps = reads_there m es lists w u is g.ten keeps (k.taken (1 + m) (pass (1 + m) (inr refl)))

    earlier : (t : Thread) → IsThread t → HoldsPass t w → KeepsReads t w es → (n : ℕ) → Contains ts (M n) → slice_index_or (with_reads t es lists) (1 + n) [] ≡ line_known u (1 + n)
    earlier (M m) is pass keeps n h = ⊎_elim
        (λ (e : m ≡ n). subst (λ j. slice_index_or (slice_set lists (1 + m) es) (1 + j) [] ≡ line_known u (1 + j)) e (here m is pass keeps))
        (λ (d : m ≡ n → ⊥). get_or-set_other lists (1 + m) (1 + n) es [] (λ q. d (omega (arith, q))) ∙ stays n h)
        (cases_eq m n)
    earlier (P m) is pass keeps n h = stays n h
    earlier C is pass keeps n h = stays n h

    last : (t : Thread) → IsThread t → HoldsPass t w → KeepsReads t w es → (n : ℕ) → t ≡ M n → slice_index_or (with_reads t es lists) (1 + n) [] ≡ line_known u (1 + n)
    last (M m) is pass keeps n e = subst (λ j. slice_index_or (slice_set lists (1 + m) es) (1 + j) [] ≡ line_known u (1 + j)) (inner e) (here m is pass keeps)
      where
        inner : M m ≡ M n → m ≡ n
        inner q = cc
    last (P m) is pass keeps n e = absurd (cc)
    last C is pass keeps n e = absurd (cc)

-- with both sides' lists, once the reads of all threads are in
pub all_lists_known : (v : View) (left right : List Entry) (lists : List (List Entry)) (ts : List Thread)
    → ((t : Thread) → IsThread t → Contains ts t) → line_known v 0 ≡ left → line_known v 1 ≡ right → HasGatheredReads v lists ts
    → AreListsOf v (all_lists left right lists)
all_lists_known v left right lists ts all first second g = record {
  ten = length-set (slice_set lists 0 left) 1 right ∙ (length-set lists 0 left ∙ g.ten);
  each = λ i few. ⊎_elim
      (λ (z : i ≡ 0). subst (λ j. slice_index_or (all_lists left right lists) j [] ≡ line_known v j) (sym z)
      (get_or-set_other (slice_set lists 0 left) 1 0 right [] (λ q. omega (arith, q)) ∙ (get_or-set_same lists 0 left [] (omega (arith, g.ten)) ∙ sym first)))
      (λ (n0 : i ≡ 0 → ⊥). ⊎_elim
      (λ (z : i ≡ 1). subst (λ j. slice_index_or (all_lists left right lists) j [] ≡ line_known v j) (sym z)
      (get_or-set_same (slice_set lists 0 left) 1 right [] (let n = length-set lists 0 left in omega (arith, g.ten, n)) ∙ sym second))
      (λ (n1 : i ≡ 1 → ⊥). get_or-set_other (slice_set lists 0 left) 1 i right [] n1 ∙ (get_or-set_other lists 0 i left [] n0 ∙ reader i few n0 n1))
      (cases_eq i 1))
      (cases_eq i 0);
}
  where
    reader : (i : ℕ) → i < 10 → (i ≡ 0 → ⊥) → (i ≡ 1 → ⊥) → slice_index_or lists i [] ≡ line_known v i
    reader i few n0 n1 =
        let n : 1 + (i - 1) ≡ i = omega (arith, n0) in
        subst (λ j. slice_index_or lists j [] ≡ line_known v j) n (g.reads (i - 1) (all (M (i - 1)) (omega (arith, n0, n1), omega arith)))
