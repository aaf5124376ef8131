-- A read, a `weak` and a `take` cite nothing.
use Rattle.std.proofs.Common.{ℕ, ◌<◌, ◌^◌, Option, None, sym, ◌∙◌, subst, arith}
use Rattle.std.proofs.lemmas.Result.{IfOk-weaker}
use Rattle.joint_machine.specs.declared.lines.Act.TheVariants as act
use Rattle.joint_machine.specs.declared.events.Op.{Op}
use Rattle.joint_machine.specs.declared.events.Reply.{Reply}
use Rattle.joint_machine.specs.Run.{thread_number}
use Rattle.joint_machine.specs.Told.{kept_pins, nothing}
use Rattle.known_laws.proofs.Pinned.{none_stand}
use Rattle.managed_heap.specs.Pinned.{pin_given}
use Rattle.managed_heap.specs.Sides.{as_side}
use Rattle.managed_heap.specs.Steps.{take_op, weak_op}
use Rattle.joint_history.specs.Locked.{Makes, TakesPin}
use Rattle.joint_history.specs.Operations.{IsCallBy, entry_by}
use Rattle.joint_history.proofs.EventSteps.{bare_may, event_is, managed_fits, seat_asked, step_asked}
use Rattle.joint_history.proofs.LockedSteps.{keeps_reads}
use Rattle.joint_history.proofs.shared.Shared.managed_event.Goals as goal

pub returns-in_ok-reserve-in-Read-clause-ok : goal.returns-in_ok-reserve-in-Read-clause-ok
returns-in_ok-reserve-in-Read-clause-ok g c =
    let is = subst (IsCallBy c.args.t c.args.op.now) (sym c.call_of.ensures ∙ c.in-Read.is) c.requires.event in
    let bare = bare_may c.args.t c.args.mine.now.view c.args.index c.in-Read.act c.args.op.now c.args.cites is.0 is.2 c.requires.may in
    subst (λ (z : Op × Option ℕ). Makes c.args.t c.args.mine.now.view c.read.new.mine.view (entry_by c.args.t c.args.index c.read.result.0 z.0 c.read.result.1 z.1))
    (λ i. (sym is.2 i, sym bare.0 i)) c.read.ensures.makes

pub make-requires-clause-pass : goal.make-requires-clause-pass
make-requires-clause-pass g c = (c.requires.run.0, c.requires.pass.1)

pub make-requires-clause-fits : goal.make-requires-clause-fits
make-requires-clause-fits g c =
    let is = subst (IsCallBy c.args.t c.args.op.now) (sym c.call_of.ensures ∙ c.in-Weak.is) c.requires.event in
    let bare = bare_may c.args.t c.args.mine.now.view c.args.index (act.Weak c.in-Weak.k c.in-Weak.v) c.args.op.now c.args.cites is.0 is.3 c.requires.may in
    let short : c.args.index < 2 ^ 32 = omega (arith, c.ranges.index.fits) in
    managed_fits _ c.args.t c.args.mine.now.view c.args.index (weak_op c.in-Weak.k c.in-Weak.v) None bare.1 short _ _
    (λ order lent mine1 s w. (let a = seat_asked _ c.args.t c.args.mine.now.view c.args.index (weak_op c.in-Weak.k c.in-Weak.v) None bare.1 short c.requires.run.1 order lent mine1 s w in
    (is.0, is.1, is.2, a.0, a.1)))
    (λ order lent lent2 s s2 r d. (d.0, IfOk-weaker r _ _ (λ x q. record { told = nothing; asked = none_stand s.state.managed; drew = q }) d.1, d.2))

pub returns-in-Weak-clause-reads : goal.returns-in-Weak-clause-reads
returns-in-Weak-clause-reads g c = keeps_reads c.args.t c.args.mine.now.view c.make.new.mine.view c.args.reads.now.entries c.make.ensures.makes.reads c.requires.reads

pub returns-in-Weak-clause-ok : goal.returns-in-Weak-clause-ok
returns-in-Weak-clause-ok g c =
    let is = subst (IsCallBy c.args.t c.args.op.now) (sym c.call_of.ensures ∙ c.in-Weak.is) c.requires.event in
    let bare = bare_may c.args.t c.args.mine.now.view c.args.index (act.Weak c.in-Weak.k c.in-Weak.v) c.args.op.now c.args.cites is.0 is.3 c.requires.may in
    (event_is c.args.t c.args.index c.args.op.now (weak_op c.in-Weak.k c.in-Weak.v) c.args.cites c.args.mine.now.view c.make.new.mine.view c.make.result is.3 bare.0 c.make.ensures.makes).ok

pub returns-in-Weak-clause-err : goal.returns-in-Weak-clause-err
returns-in-Weak-clause-err g c = c.make.ensures.makes.err

pub make-requires-in-Take-clause-pass : goal.make-requires-in-Take-clause-pass
make-requires-in-Take-clause-pass g c = (c.requires.run.0, c.requires.pass.1)

pub make-requires-in-Take-clause-fits : goal.make-requires-in-Take-clause-fits
make-requires-in-Take-clause-fits g c =
    let is = subst (IsCallBy c.args.t c.args.op.now) (sym c.call_of.ensures ∙ c.in-Take.is) c.requires.event in
    let bare = bare_may c.args.t c.args.mine.now.view c.args.index (act.Take c.in-Take.v) c.args.op.now c.args.cites is.0 is.2 c.requires.may in
    let short : c.args.index < 2 ^ 32 = omega (arith, c.ranges.index.fits) in
    managed_fits _ c.args.t c.args.mine.now.view c.args.index (take_op c.in-Take.v) None bare.1 short _ _
    (λ order lent mine1 s w. (let a = seat_asked _ c.args.t c.args.mine.now.view c.args.index (take_op c.in-Take.v) None bare.1 short c.requires.run.1 order lent mine1 s w in
    (is.0, is.1, a.0, a.1)))
    (λ order lent lent2 s s2 r d. (
      d.0,
      IfOk-weaker r (λ (x : ℕ × Reply). TakesPin order lent lent2 (as_side s) (as_side s2) c.args.t c.args.index c.in-Take.v x) _
          (λ x q. record { told = kept_pins (pin_given (thread_number c.args.t) q.pin) nothing; asked = q.stands; drew = q.drew }) d.1,
      d.2,
    ))

pub returns-in-Take-clause-reads : goal.returns-in-Take-clause-reads
returns-in-Take-clause-reads g c = keeps_reads c.args.t c.args.mine.now.view c.make-in-Take.new.mine.view c.args.reads.now.entries c.make-in-Take.ensures.makes.reads c.requires.reads

pub returns-in-Take-clause-ok : goal.returns-in-Take-clause-ok
returns-in-Take-clause-ok g c =
    let is = subst (IsCallBy c.args.t c.args.op.now) (sym c.call_of.ensures ∙ c.in-Take.is) c.requires.event in
    let bare = bare_may c.args.t c.args.mine.now.view c.args.index (act.Take c.in-Take.v) c.args.op.now c.args.cites is.0 is.2 c.requires.may in
    (event_is c.args.t c.args.index c.args.op.now (take_op c.in-Take.v) c.args.cites c.args.mine.now.view
    c.make-in-Take.new.mine.view c.make-in-Take.result is.2 bare.0 c.make-in-Take.ensures.makes).ok

pub returns-in-Take-clause-err : goal.returns-in-Take-clause-err
returns-in-Take-clause-err g c = c.make-in-Take.ensures.makes.err

pub make-requires-in-Step-clause-pass : goal.make-requires-in-Step-clause-pass
make-requires-in-Step-clause-pass g c = (c.requires.run.0, c.requires.pass.1)

pub make-requires-in-Step-clause-fits : goal.make-requires-in-Step-clause-fits
make-requires-in-Step-clause-fits g c =
    let is = subst (IsCallBy c.args.t c.args.op.now) (sym c.call_of.ensures ∙ c.in-Step.is) c.requires.event in
    let short : c.args.index < 2 ^ 32 = omega (arith, c.ranges.index.fits) in
    managed_fits _ c.args.t c.args.mine.now.view c.args.index c.args.op.now c.args.cites c.requires.may short _ _
    (step_asked _ c.args.t c.args.mine.now.view c.args.index c.args.op.now c.args.cites c.requires.may short is c.requires.run.1)
    (λ order lent lent2 s s2 r d. (d.0, IfOk-weaker r _ _ (λ x q. record { told = nothing; asked = none_stand s.state.managed; drew = q }) d.1, d.2))

pub returns-in-Step-clause-reads : goal.returns-in-Step-clause-reads
returns-in-Step-clause-reads g c = keeps_reads c.args.t c.args.mine.now.view c.make-in-Step.new.mine.view c.args.reads.now.entries c.make-in-Step.ensures.makes.reads c.requires.reads

pub returns-in-Step-clause-ok : goal.returns-in-Step-clause-ok
returns-in-Step-clause-ok g c = c.make-in-Step.ensures.makes.ok

pub returns-in-Step-clause-err : goal.returns-in-Step-clause-err
returns-in-Step-clause-err g c = c.make-in-Step.ensures.makes.err
