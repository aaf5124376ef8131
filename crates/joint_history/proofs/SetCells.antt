-- A `weak` by the managed seat: the cell's word is 0 exactly where the side's cell has no target, and to an object to
-- which the side may set the cell the seat may set it too. Its entry is plain: it does nothing to the cycles and to no
-- pin, and frees nothing.
use Rattle.std.proofs.Common.{◌≡◌, inl, inr, ⊎_elim, ℕ, ◌+◌, ◌<◌, ◌≤◌, Bool, true, false, length, Option, Some, None, refl, sym, ap, ◌∙◌, subst, arith}
use Rattle.std.specs.Prelude.{◌↔◌, if◌then◌else◌}
use Rattle.std.proofs.lemmas.Bool.{cases_Bool}
use Rattle.std.proofs.lemmas.Option.{same_Some}
use Rattle.std.proofs.lemmas.Map.Views.{Contains-from_any}
use Rattle.joint_machine.proofs.Deciding.{none_some}
use Rattle.joint_machine.specs.declared.names.Cell.{Cell}
use Rattle.joint_machine.specs.declared.names.MNum.{MNum}
use Rattle.joint_machine.specs.declared.names.Thread.{Thread}
use Rattle.joint_machine.specs.declared.names.Thread.TheVariants.{M, P, C}
use Rattle.joint_machine.specs.declared.names.Var.{Var}
use Rattle.joint_machine.specs.declared.events.Reply.{Reply}
use Rattle.joint_machine.specs.Heaps.{slot}
use Rattle.joint_machine.specs.HistoryLines.{caller_line}
use Rattle.joint_machine.specs.Lines.{IsManagedThread}
use Rattle.joint_machine.specs.ManagedReplay.{ManagedReplay}
use Rattle.joint_machine.specs.Sides.{MaySetCell, Side}
use Rattle.managed_heap.specs.Steps.{weak_op}
use Rattle.order_table.specs.declared.views.View.{View}
use Rattle.order_table.specs.Allowed.{MaySet, Settled}
use Rattle.order_table.specs.Owed.{is_freed, mark, says_word, target, target_told, word_by}
use Rattle.order_table.specs.Views.{OrderId, Shown, known, Owns}
use Rattle.seat_calls.specs.Passing.{MayAppend}
use Rattle.view_laws.specs.Knowing.{SaysState}
use Rattle.view_laws.proofs.HeldViews.{views_say_states}
use Rattle.view_laws.proofs.PinWords.{same-number}
use Rattle.joint_history.specs.Locked.{ManagedKnows}
use Rattle.joint_history.proofs.SeatDraws.{IsPlainEvent}

-- the seat's managed list says what the side has
says_side : (v : View) (s : Side ManagedReplay) → ManagedKnows v s → SaysState v s.state.managed
says_side v s ks = subst (λ (r : ManagedReplay). SaysState v r.managed) ks.state (views_say_states v ks.known)

zero_word : (o : Option ℕ) (f : ℕ → Bool) → (word_by o f ≡ 0) ↔ (o ≡ None)
zero_word None f = ((λ e. refl), λ e. refl)
zero_word (Some m) f = ((λ e. absurd (by (f m) e)), λ e. absurd (none_some m (sym e)))
  where
    by : (b : Bool) → (if b then 1 else m + 1) ≡ 0 → ⊥
    by true e = omega arith
    by false e = omega arith

pub unset_word : (v : View) (s : Side ManagedReplay) (c word : ℕ) → ManagedKnows v s → word ≡ says_word (known v 0) c → (word ≡ 0) ↔ (slot s.state.managed.cells c ≡ None)
unset_word v s c word ks is =
    let cell = (says_side v s ks).cells c in
    let w = zero_word (target (known v 0) c) (is_freed (known v 0)) in
    ((λ e. sym cell ∙ w.0 (sym is ∙ e)), λ e. is ∙ w.1 (cell ∙ e))

may_set : (n : ℕ) (v : View) (s : Side ManagedReplay) (k : Cell) (x : Var) (aim : Option MNum) → k.0 < 64 → ManagedKnows v s → length s.state.managed.heap.fields ≤ 65535
    → ((m : MNum) → aim ≡ Some m → MaySetCell s.state (weak_op k x) m) → MaySet v (mark (weak_op k x) (target_told (M n) (weak_op k x) aim))
may_set n v s k x None small ks few may c m e = absurd (none_some (c, m) e)
may_set n v s k x (Some y) small ks few may c m e =
    let says = says_side v s ks in
    let p = same_Some (k.0, y.0) (c, m) e in
    let cell : k.0 ≡ c = ap (λ z. z.0) p in
    let object : y.0 ≡ m = ap (λ z. z.1) p in
    let free = may y refl in
    let made = free.1.made in (
      omega (arith, small, cell),
      (omega (arith, made.0, object), omega (arith, made.1, few, object)),
      says.cells c ∙ (ap (slot s.state.managed.cells) (sym cell) ∙ free.0),
      ⊎_elim (λ (d : is_freed (known v 0) m ≡ true). absurd (free.1.kept
          (Contains-from_any (λ a b. same-number a b) y.0 s.state.managed.heap.freed (sym (says.freed y.0) ∙ (ap (is_freed (known v 0)) object ∙ d)))))
          (λ (d : is_freed (known v 0) m ≡ false). d) (cases_Bool (is_freed (known v 0) m)),
    )

pub weak_may : (order : OrderId) (seat : Shown) (s : Side ManagedReplay) (t : Thread) (k : Cell) (x : Var) (aim : Option MNum) → IsManagedThread t
    → k.0 < 64 → seat.order ≡ order → Owns seat.view 0 → Owns seat.view (caller_line t) → Settled seat.view → ManagedKnows seat.view s
    → length s.state.managed.heap.fields ≤ 65535 → ((m : MNum) → aim ≡ Some m → MaySetCell s.state (weak_op k x) m) → MayAppend order seat 0 t (weak_op k x) aim
weak_may order seat s (M n) k x aim is small same owns pass settled ks few may = record {
  same = same;
  thread = is;
  one = omega arith;
  managed = λ z. (refl, refl);
  peer = λ z. absurd (omega arith);
  role = owns;
  pass = pass;
  paid = λ z. (settled.paid, settled.stored.0, settled.stored.1);
  cycles = λ z. ⊎_elim (λ h. inl h.0) (λ h. inr h.1) (settled.gate owns);
  cells = λ z. may_set n seat.view s k x aim small ks few may;
}
weak_may order seat s (P n) k x aim is small same owns pass settled ks few may = absurd is
weak_may order seat s C k x aim is small same owns pass settled ks few may = absurd is

pub weak_is_plain : (t : Thread) (k : Cell) (x : Var) (r : Reply) → IsManagedThread t → IsPlainEvent t (weak_op k x) r
weak_is_plain (M n) k x r is = record { cycles = refl; pin = refl; frees = λ told. refl; pins = λ seat. refl }
weak_is_plain (P n) k x r is = absurd is
weak_is_plain C k x r is = absurd is
