-- An operation that is one step of its thread's own side.
use Rattle.std.proofs.Common.{◌≡◌, ℕ, true, false, refl, sym, subst}
use Rattle.joint_machine.specs.declared.names.Thread.{Thread}
use Rattle.joint_machine.specs.declared.names.Thread.TheVariants.{M, P, C}
use Rattle.joint_machine.specs.declared.lines.Act.{Act}
use Rattle.joint_machine.specs.declared.lines.Act.TheVariants as act
use Rattle.joint_machine.specs.declared.events.Op.TheVariants as op
use Rattle.joint_machine.specs.declared.events.Reply.{Reply}
use Rattle.joint_machine.specs.Lines.{is_peer_event}
use Rattle.managed_heap.specs.Steps.{IsManagedStep}
use Rattle.order_table.specs.declared.views.View.{View}
use Rattle.weak_wait.specs.Reads.{IsRead}
use Rattle.joint_history.specs.declared.operations.ManagedCall.TheVariants as call
use Rattle.joint_history.specs.Operations.{IsCallBy, IsOwnThread, IsSideEvent, ReadsExactly, call_of}

-- a thread's line is of the peer side where the thread is, and else of the managed side
pub line_of_peer : (t : Thread) (n : ℕ) (a : Act) → t ≡ P n → is_peer_event t (op.Line a) ≡ true
line_of_peer t n a e = subst (λ u. is_peer_event u (op.Line a) ≡ true) (sym e) refl

pub line_of_other : (t : Thread) (a : Act) → IsOwnThread t → ((n : ℕ) → t ≡ P n → ⊥) → is_peer_event t (op.Line a) ≡ false
line_of_other (M n) a is w = refl
line_of_other (P n) a is w = absurd (w n refl)
line_of_other C a is w = absurd is

-- a step is what the managed side's call for steps makes
pub step_is_made : (t : Thread) (a : Act) → IsSideEvent t (op.Line a) → is_peer_event t (op.Line a) ≡ false → call_of (op.Line a) ≡ call.Step → IsManagedStep t (op.Line a)
step_is_made t a is side e = subst (λ c. IsCallBy t (op.Line a) c) e (is.managed side)

-- and it isn't a read
never_read : (a : Act) → call_of (op.Line a) ≡ call.Step → IsRead a → ⊥
never_read (act.Read k) e r = absurd (cc)
never_read (act.Await k) e r = absurd (cc)
never_read a e r = absurd r

pub step_reads_none : (t : Thread) (old new : View) (a : Act) (reply : Reply) → call_of (op.Line a) ≡ call.Step → ReadsExactly t old new a reply
step_reads_none (M n) old new a reply e = λ r. absurd (never_read a e r)
step_reads_none (P n) old new a reply e = tt
step_reads_none C old new a reply e = tt
