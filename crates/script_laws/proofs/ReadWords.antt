-- What a read answers is read back from its words: of one that waits the cycle, which is bounded; that its cell is
-- unset; and every other answer is that of the managed state.
use Rattle.std.proofs.Common.{◌≡◌, ℕ, ◌≤◌, ◌<◌, ◌^◌, true, false, List, [], ◌++◌, get_or, Option, Some, None, refl, sym, ◌∙◌, ap, subst, arith}
use Rattle.joint_machine.specs.declared.names.Cycle.{Cycle}
use Rattle.joint_machine.specs.declared.events.Reply.{Reply}
use Rattle.joint_machine.specs.declared.events.Reply.TheVariants as says
use Rattle.joint_machine.specs.Heaps as heaps
use Rattle.joint_machine.specs.Heaps.{slot, is_freed}
use Rattle.joint_machine.specs.Managed.{Managed, OpenCycle, target_read, cell_read, read_cell}
use Rattle.joint_machine.specs.Readers.{is_set_aside}
use Rattle.joint_machine.proofs.Deciding.{option-cases, test-cases}
use Rattle.history_report.specs.Report.{reply_words}
use Rattle.text_words.proofs.Decimals.{decimal-one}
use Rattle.script_laws.proofs.ReadTelling.{Answered}

-- the answers of a managed state
abbrev IsAnswer : Reply → Type 0
IsAnswer (says.Pending c) = Unit {0}
IsAnswer (says.Pinned m) = Unit {0}
IsAnswer says.Unset = Unit {0}
IsAnswer says.Gone = Unit {0}
IsAnswer (says.M m) = Unit {0}
IsAnswer _ = ⊥

module _ (s : Managed) (t : ℕ) where
  target-answer : (o : Option ℕ) → IsAnswer (target_read s t o).reply
  target-answer None = tt
  target-answer (Some x) = test-cases (λ (a : heaps.Answered Managed). IsAnswer a.reply) (is_freed s.heap x) _ _ tt tt

  open-answer : (k : ℕ) (o : Option OpenCycle) → IsAnswer (cell_read s t k o).reply
  open-answer k None = target-answer (slot s.cells k)
  open-answer k (Some c) = tt

  answer-is : (k : ℕ) → IsAnswer (read_cell s t k).reply
  answer-is k = option-cases (λ (a : heaps.Answered Managed). IsAnswer a.reply) _ _ (slot s.pins t) (open-answer k s.cycle) (λ x. tt)

-- those that are never set aside
abbrev IsGiven : Reply → Type 0
IsGiven (says.Pinned m) = Unit {0}
IsGiven says.Gone = Unit {0}
IsGiven (says.M m) = Unit {0}
IsGiven _ = ⊥

given-of : (r : Reply) → is_set_aside r ≡ false → IsAnswer r → IsGiven r
given-of (says.Pending c) e a = absurd (let f : true ≡ false = e in cc)
given-of says.Unset e a = absurd (let f : true ≡ false = e in cc)
given-of (says.Pinned m) e a = tt
given-of says.Gone e a = tt
given-of (says.M m) e a = tt
given-of _ e a = absurd a

given : (s : Managed) (t k : ℕ) (r : Reply) → is_set_aside r ≡ false → r ≡ (read_cell s t k).reply → IsGiven r
given s t k r e q = given-of r e (subst IsAnswer (sym q) (answer-is s t k))

-- the first two bytes
abbrev first_of : List (List ℕ) → ℕ
first_of ws = get_or (get_or ws 0 []) 0 0

abbrev second_of : List (List ℕ) → ℕ
second_of ws = get_or (get_or ws 0 []) 1 0

not-pending : (c : Cycle) (r : Reply) (vs ws : List (List ℕ)) → IsGiven r → reply_words (says.Pending c) ++ vs ≡ reply_words r ++ ws → ⊥
not-pending c (says.Pinned m) vs ws g e = omega (arith, ap second_of e)
not-pending c says.Gone vs ws g e = omega (arith, ap first_of e)
not-pending c (says.M m) vs ws g e = omega (arith, ap first_of e)
not-pending c _ vs ws g e = g

not-unset : (r : Reply) (vs ws : List (List ℕ)) → IsGiven r → reply_words says.Unset ++ vs ≡ reply_words r ++ ws → ⊥
not-unset (says.Pinned m) vs ws g e = omega (arith, ap first_of e)
not-unset says.Gone vs ws g e = omega (arith, ap first_of e)
not-unset (says.M m) vs ws g e = omega (arith, ap first_of e)
not-unset _ vs ws g e = g

cycle-words : (c d : Cycle) (vs ws : List (List ℕ)) → d.0 < 2 ^ 64 → reply_words (says.Pending c) ++ vs ≡ reply_words (says.Pending d) ++ ws → c ≡ d
cycle-words c d vs ws l e = λ i. record { 0 = sym (decimal-one d.0 c.0 l (sym (ap (λ z. get_or z 1 []) e))) i }

-- two answers at one state with the same words
pub answers-one : (b d : ℕ) (s : Managed) (t k : ℕ) (r q : Reply) (vs ws : List (List ℕ)) → d ≤ 2 ^ 64 → Answered b s t k r → Answered d s t k q → reply_words r ++ vs ≡ reply_words q ++ ws → r ≡ q
answers-one b d s t k (says.Pending c) (says.Pending j) vs ws l x y e = ap says.Pending (cycle-words c j vs ws (omega (arith, l, y)) e)
answers-one b d s t k (says.Pending c) says.Unset vs ws l x y e = absurd (omega (arith, ap first_of e))
answers-one b d s t k says.Unset (says.Pending j) vs ws l x y e = absurd (omega (arith, ap first_of e))
answers-one b d s t k says.Unset says.Unset vs ws l x y e = refl
answers-one b d s t k (says.Pending c) q vs ws l x y e = absurd (not-pending c q vs ws (given s t k q refl y) e)
answers-one b d s t k says.Unset q vs ws l x y e = absurd (not-unset q vs ws (given s t k q refl y) e)
answers-one b d s t k r (says.Pending j) vs ws l x y e = absurd (not-pending j r ws vs (given s t k r refl x) (sym e))
answers-one b d s t k r says.Unset vs ws l x y e = absurd (not-unset r ws vs (given s t k r refl x) (sym e))
answers-one b d s t k r q vs ws l x y e = x ∙ sym y
