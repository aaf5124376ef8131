-- Each event that the peer side makes for a thread by the call that makes it: a slice, a begin or a sweep of the
-- thread's own marking, or a step.
use Rattle.std.proofs.Common.{◌≡◌, ℕ, inl, Option, Some, None, refl, sym, ap}
use Rattle.std.specs.Prelude.{IsSome}
use Rattle.std.proofs.lemmas.Option.{same_Some}
use Rattle.joint_machine.specs.declared.names.Thread.{Thread}
use Rattle.joint_machine.specs.declared.names.Thread.TheVariants.{M, P, C}
use Rattle.joint_machine.specs.declared.lines.Act.TheVariants as act
use Rattle.joint_machine.specs.declared.events.Op.{Op}
use Rattle.joint_machine.specs.declared.events.Op.TheVariants as op
use Rattle.joint_machine.specs.Lines.{IsDriver, IsPeerThread}
use Rattle.joint_machine.specs.PeerReplay.{PeerReplay, PeerAllows}
use Rattle.joint_machine.specs.Draws.{Drawing}
use Rattle.joint_machine.specs.Sides.{MayDraw, Side, peer_rules}
use Rattle.joint_machine.specs.Told.{nothing}
use Rattle.joint_machine.proofs.Deciding.{none_some}
use Rattle.peer_heap.specs.Makings.{IsSideStep, MayDrawStep, MayStep, IsMarkEvent}
use Rattle.peer_heap.specs.Steps.{IsPeerStep, IsRelease}
use Rattle.joint_history.specs.PeerCalls.{AllowsCall, IsPeerCall, slice_count}

-- a slice
pub slice_is : (o : Op) (n : ℕ) → slice_count o ≡ Some n → o ≡ op.Line (act.Slice n)
slice_is (op.Line (act.Slice m)) n e = ap (λ k. op.Line (act.Slice k)) (same_Some m n e)
slice_is o n e = absurd (none_some n e)

-- a begin or a sweep
pub mark_thread : (t : Thread) (o : Op) → IsMarkEvent o → IsPeerCall t o → IsPeerThread t
mark_thread t op.Begin m is = is
mark_thread t op.Sweep m is = is
mark_thread t o m is = absurd m

pub mark_bare : (s : PeerReplay) (t : Thread) (o : Op) (cites : Option ℕ) → IsMarkEvent o → AllowsCall s t o cites → cites ≡ None
mark_bare s t op.Begin cites m w = w
mark_bare s t op.Sweep cites m w = w
mark_bare s t o cites m w = absurd m

pub mark_side : (t : Thread) (o : Op) → IsMarkEvent o → IsPeerThread t → IsSideStep t o
mark_side t op.Begin m is = inl is
mark_side t op.Sweep m is = inl is
mark_side t o m is = absurd m

no_driver : (t : Thread) (o : Type 0) → IsPeerThread t → IsDriver t → o
no_driver (M n) o is d = absurd d
no_driver (P n) o is d = absurd d
no_driver C o is d = absurd is

pub mark_may : (s : PeerReplay) (t : Thread) (o : Op) → IsMarkEvent o → IsPeerThread t → MayStep s t o None
mark_may s t op.Begin m is = refl
mark_may s t op.Sweep m is = (refl, λ d. no_driver t (IsSome s.marking) is d)
mark_may s t o m is = absurd m

pub mark_draws : {D : Type 0} (d : Drawing D) (draw : D) (s : Side PeerReplay) (t : Thread) (o : Op) → IsMarkEvent o → MayDraw peer_rules d draw s t o → MayDrawStep d draw s t o
mark_draws d draw s t op.Begin m w = w
mark_draws d draw s t op.Sweep m w = w
mark_draws d draw s t o m w = absurd m

pub no_release : (o : Op) → IsMarkEvent o → IsRelease o → ⊥
no_release op.Begin m r = r
no_release op.Sweep m r = r
no_release o m r = m

-- any other is a step
pub else_step : (t : Thread) (o : Op) → slice_count o ≡ None → (IsMarkEvent o → ⊥) → IsPeerCall t o → IsPeerStep t o
else_step t op.Begin n m is = absurd (m tt)
else_step t op.Sweep n m is = absurd (m tt)
else_step t (op.Line (act.Slice k)) n m is = absurd (none_some k (sym n))
else_step t o n m is = is

pub else_allows : (s : PeerReplay) (t : Thread) (o : Op) (cites : Option ℕ) → slice_count o ≡ None → (IsMarkEvent o → ⊥) → AllowsCall s t o cites → PeerAllows s t o cites nothing
else_allows s t op.Begin cites n m w = absurd (m tt)
else_allows s t op.Sweep cites n m w = absurd (m tt)
else_allows s t (op.Line (act.Slice k)) cites n m w = absurd (none_some k (sym n))
else_allows s t o cites n m w = w
