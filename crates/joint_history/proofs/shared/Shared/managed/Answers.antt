use Rattle.std.proofs.Common.{◌≤◌, sym, ap, subst}
use Rattle.std.specs.Prelude.{IfOk, OnErr}
use Rattle.joint_machine.specs.Lines.{IsLine, IsManagedThread}
use Rattle.joint_history.specs.Callers.{Pass, last_index, own}
use Rattle.joint_history.specs.Operations.{StopsWithoutMemory, Runs}
use Rattle.joint_history.proofs.Running.{beginner_is_below, beginner_knows, managed_is_own, managed_operation}
use Rattle.joint_history.proofs.Turning.{caller_begins}
use Rattle.joint_history.proofs.shared.Shared.managed.Goals as goal

pub run-requires-clause-order : goal.run-requires-clause-order
run-requires-clause-order g c = c.caller.invariant.1

pub run-requires-clause-pass : goal.run-requires-clause-pass
run-requires-clause-pass g c = (managed_is_own c.caller.inside.thread (subst (λ (p : Pass). IsManagedThread p.thread) (sym c.caller.view_is) c.requires.act.0), c.caller.invariant.2)

pub run-requires-clause-begins : goal.run-requires-clause-begins
run-requires-clause-begins g c = caller_begins c.caller.inside.thread c.caller.inside.seat.view c.args.index c.caller.invariant.0.0 c.caller.invariant.3
    (subst (λ (p : Pass). last_index (own p) ≤ c.args.index) (sym c.caller.view_is) c.requires.index)

pub run-requires-clause-act : goal.run-requires-clause-act
run-requires-clause-act g c = managed_operation c.caller.inside.thread c.args.act.now (subst (λ (p : Pass). IsManagedThread p.thread) (sym c.caller.view_is) c.requires.act.0)
    (subst (λ (p : Pass). IsLine p.thread c.args.act.now) (sym c.caller.view_is) c.requires.act.1)

pub invariant_of-caller : goal.invariant_of-caller
invariant_of-caller g c = (
  c.caller.invariant.0,
  c.run.ensures.order,
  c.run.ensures.pass,
  beginner_knows c.caller.inside.thread c.run.new.mine.view c.args.index c.run.ensures.begins,
  c.run.ensures.settled,
  c.run.ensures.reads,
)

pub returns-clause-thread : goal.returns-clause-thread
returns-clause-thread g c = ap (λ (p : Pass). p.thread) c.caller.view_is

pub returns-clause-index : goal.returns-clause-index
returns-clause-index g c = beginner_is_below c.caller.inside.thread c.run.new.mine.view c.args.index c.caller.invariant.0.0 c.run.ensures.begins

pub returns-clause-ok : goal.returns-clause-ok
returns-clause-ok g c = subst (λ (p : Pass). IfOk c.run.result (λ r. Runs p.thread p.view c.run.new.mine.view c.args.index c.args.act.now r)) c.caller.view_is c.run.ensures.ok

pub returns-clause-err : goal.returns-clause-err
returns-clause-err g c = subst (λ (p : Pass). OnErr c.run.result (StopsWithoutMemory p.thread p.view c.run.new.mine.view c.args.index c.args.act.now)) c.caller.view_is c.run.ensures.err
