-- What a read's tests answer is whether its reply is one that it may have.
use Rattle.std.proofs.Common.{◌≡◌, ℕ, ◌<◌, ◌↔◌, Bool, false, List, length, Option, Some, None, refl, sym, ap, ◌∙◌, subst, true≢false}
use Rattle.std.specs.Prelude.{IsTrue, MatchOption, is_some, slice_get}
use Rattle.joint_machine.specs.declared.names.Cycle.{Cycle}
use Rattle.joint_machine.specs.declared.names.MNum.{MNum}
use Rattle.joint_machine.specs.declared.names.Thread.{Thread}
use Rattle.joint_machine.specs.declared.events.Reply.{Reply}
use Rattle.joint_machine.specs.declared.events.Reply.TheVariants as says
use Rattle.joint_machine.specs.Heaps.{IsLive, slot}
use Rattle.joint_machine.specs.Histories.{Finished}
use Rattle.joint_machine.specs.Lines.{IsManagedThread}
use Rattle.joint_machine.specs.Managed.{OpenCycle}
use Rattle.joint_machine.specs.Readers.{MayBeUnset}
use Rattle.joint_machine.specs.Run.{thread_number}
use Rattle.joint_machine.specs.Told.{Noted}
use Rattle.check_laws.specs.Behind.{IsReplyBehind, MayBePendingBehind, in_turn, state_of}
use Rattle.managed_heap.specs.Rows.{number_or_none}
use Rattle.reader_counts.specs.Counts.{IsPendingIn, IsUnknownIn}
use Rattle.run_check.specs.declared.replays.Replay.{Replay}
use Rattle.run_check.specs.Judging.{IsBehind, IsReplyUnpinned}
use Rattle.run_check.proofs.Reading.{managed-is-thread, pending-so, pin-shown, pinned-only, unpinned-only, unset-live, unset-none}

-- whether a cycle is open
pub open-is : (o : Option Cycle) (x : Option OpenCycle) → MatchOption o (x ≡ None) (λ k. (c : OpenCycle) × (x ≡ Some c) × (c.number ≡ k.0)) → is_some o ≡ is_some x
open-is None x w = sym (ap is_some w)
open-is (Some k) x w = sym (ap is_some w.1)

pub none-open : (x : Option OpenCycle) → is_some x ≡ false → x ≡ None
none-open None e = refl
none-open (Some c) e = absurd (true≢false e)

-- one test by another
pub by-other : {P Q : Type 0} (b : Bool) → (IsTrue b ↔ P) → (P ↔ Q) → IsTrue b ↔ Q
by-other b w v = ((λ x. v.0 (w.0 x)), λ q. w.1 (v.1 q))

module _ (h : Finished) (past : List Noted) (r : Replay) (w : IsBehind h past r) (t : Thread) (thread : IsManagedThread t) where
  pub pending-answers : (k : ℕ) (b : Bool) (cycles : ℕ) (is_open : Bool) → cycles ≡ r.managed.state.managed.cycles → is_open ≡ is_some r.managed.state.managed.cycle
      → (IsTrue b ↔ IsPendingIn r.readers.counts t k cycles is_open)
      → IsTrue b ↔ MayBePendingBehind past (state_of past).managed.managed (length past) t k
  pending-answers k b cycles is_open e o v =
      by-other b (subst (λ x. IsTrue b ↔ IsPendingIn r.readers.counts t k r.managed.state.managed.cycles x) o (subst (λ n. IsTrue b ↔ IsPendingIn r.readers.counts t k n is_open) e v))
      (pending-so h past r w t k (managed-is-thread t thread))

  module _ (k : ℕ) (low : k < 64) (o : Option MNum) (there : slice_get r.readers.targets k ≡ Some o) where
    pub unset-none-answers : o ≡ None → (b : Bool) → (IsTrue b ↔ IsUnknownIn r.readers.counts t k) → IsTrue b ↔ MayBeUnset (in_turn past) (state_of past).managed.managed.cells (length past) t k
    unset-none-answers e b v = by-other b v (unset-none h past r w t k (managed-is-thread t thread) low (there ∙ ap (λ x. Some x) e))

    pub unset-live-answers : (m : MNum) → o ≡ Some m → IsLive r.managed.state.managed.heap m.0 → (b : Bool) → (IsTrue b ↔ IsUnknownIn r.readers.counts t k)
        → IsTrue b ↔ MayBeUnset (in_turn past) (state_of past).managed.managed.cells (length past) t k
    unset-live-answers m e l b v = (let u = unset-live h past r w t k m (managed-is-thread t thread) low (there ∙ ap (λ x. Some x) e) in by-other b v ((λ x. u.0 (l, x)), λ x. (u.1 x).1))

    pub unset-gone-answers : (m : MNum) → o ≡ Some m → (IsLive r.managed.state.managed.heap m.0 → ⊥) → (b : Bool) → b ≡ false
        → IsTrue b ↔ MayBeUnset (in_turn past) (state_of past).managed.managed.cells (length past) t k
    unset-gone-answers m e l b f =
        (let u = unset-live h past r w t k m (managed-is-thread t thread) low (there ∙ ap (λ x. Some x) e) in ((λ x. absurd (true≢false (sym x ∙ f))), λ x. absurd (l (u.1 x).0)))

  module _ (k : ℕ) (q : Reply) (o : Option MNum) (there : slice_get r.readers.pins (thread_number t) ≡ Some o) where
    pin-is : slot (state_of past).managed.managed.pins (thread_number t) ≡ number_or_none o
    pin-is = ap (λ ps. slot ps (thread_number t)) (sym w.follows.sides.stores.pins) ∙ pin-shown r.readers.pins t o thread there

    pub pinned-answers : (m : MNum) → o ≡ Some m → (b : Bool) → (IsTrue b ↔ (q ≡ says.Pinned m)) → IsTrue b ↔ IsReplyBehind past (state_of past).managed.managed (length past) t k q
    pinned-answers m e b v = (let p = pinned-only past (state_of past).managed.managed (length past) t k q m (pin-is ∙ ap number_or_none e) in by-other b v (p.1, p.0))

    pub unpinned-answers : o ≡ None → (b : Bool) → (IsTrue b ↔ IsReplyUnpinned past t k q) → IsTrue b ↔ IsReplyBehind past (state_of past).managed.managed (length past) t k q
    unpinned-answers e b v = (let p = unpinned-only past t k q (pin-is ∙ ap number_or_none e) in by-other b v (p.1, p.0))

-- a reply is compared with the one that there is
pub set-answers : (reply one said : Reply) (b : Bool) → (IsTrue b ↔ (reply ≡ one)) → one ≡ said → (other : Reply) → other ≡ said → IsTrue b ↔ (reply ≡ other)
set-answers reply one said b v e other f = ((λ x. v.0 x ∙ (e ∙ sym f)), λ x. v.1 (x ∙ (f ∙ sym e)))
