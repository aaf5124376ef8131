use Rattle.std.proofs.Common.{[], ◌<◌, ◌≤◌, ◌^◌, refl, sym, ap, subst, arith, ◌∙◌}
use Rattle.std.specs.Prelude.{IfOk, OnErr}
use Rattle.joint_machine.specs.declared.lines.Act.{Act}
use Rattle.joint_machine.specs.declared.events.Op.TheVariants as op
use Rattle.joint_machine.specs.Lines.{IsLine, IsPeerThread}
use Rattle.joint_machine.specs.Sides.{TakesPeer}
use Rattle.peer_heap.specs.Sides.{seen}
use Rattle.joint_history.specs.Callers.{Pass, last_index, own}
use Rattle.joint_history.specs.Collecting.{Collects}
use Rattle.joint_history.specs.Locked.{MakesNone}
use Rattle.joint_history.specs.Operations.{MakesAll, Runs}
use Rattle.joint_history.proofs.Collecting.{all_run, collect_called, collect_further, collect_reserves, none_made}
use Rattle.joint_history.proofs.Fitting.{peer_line, peer_may}
use Rattle.joint_history.proofs.Running.{beginner_is_below, beginner_knows, breaks_none, peer_is_own, peer_keeps_none, peer_operation}
use Rattle.joint_history.proofs.Turning.{caller_begins}
use Rattle.joint_history.proofs.shared.Shared.peer.Goals as goal

pub make-requires-clause-pass : goal.make-requires-clause-pass
make-requires-clause-pass g c = (c.caller.invariant.0.0, c.caller.invariant.2)

pub make-requires-clause-fits : goal.make-requires-clause-fits
make-requires-clause-fits g c =
    let t = c.caller.inside.thread in
    let mine = c.caller.inside.seat.view in
    let index = c.args.index in
    let is = subst (λ (p : Pass). IsPeerThread p.thread) (sym c.caller.view_is) c.requires.act.0 in
    let may = caller_begins t mine index c.caller.invariant.0.0 c.caller.invariant.3 (subst (λ (p : Pass). last_index (own p) ≤ index) (sym c.caller.view_is) c.requires.index) in
    let short : index < 2 ^ 32 = omega (arith, c.ranges.index.fits) in
    record {
      side = omega arith;
      asked = λ order lent mine1 s w. (
        is,
        subst (λ n. TakesPeer n t) (sym w.known_side.2) c.caller.invariant.0.2,
        peer_may _ t order mine lent mine1 s op.Begin refl refl w,
        peer_may _ t order mine lent mine1 s op.Sweep refl refl w,
        peer_line _ t order mine lent mine1 s w,
      );
      further = λ order lent lent2 s s2 r d. collect_further order lent lent2 (seen s) (seen s2) t index r d.2 d.3;
      left = λ order lent lent2 mine1 locked2 mine2 s s2 r w d b.
          (let q = collect_called order lent lent2 (seen s) (seen s2) index t w.locked mine mine1 locked2 mine2 r is w.pass w.owns short w.known_side.0 may w.lends d.2 d.3 b in (
            (q.knows, collect_reserves t index order w.locked mine mine1 locked2 mine2 lent lent2 s s2 r is w.known_side.0 w.known_side.1 w.lends d.2 d.3 d.1 b, d.0 ∙ w.known_side.2),
            (q.begins, q.ok, q.err),
          ));
    }

pub invariant_of-caller : goal.invariant_of-caller
invariant_of-caller g c = (
  c.caller.invariant.0,
  c.make.ensures.order,
  c.make.ensures.pass,
  beginner_knows c.caller.inside.thread c.make.new.mine.view c.args.index c.make.ensures.makes.0,
  c.make.ensures.settled,
  peer_keeps_none c.caller.inside.thread c.caller.inside.seat.view c.make.new.mine.view c.caller.inside.reads.entries
      (subst (λ (p : Pass). IsPeerThread p.thread) (sym c.caller.view_is) c.requires.act.0) c.caller.invariant.5,
)

pub returns-in-Collect-clause-index : goal.returns-in-Collect-clause-index
returns-in-Collect-clause-index g c = beginner_is_below c.caller.inside.thread c.make.new.mine.view c.args.index c.caller.invariant.0.0 c.make.ensures.makes.0

pub returns-in-Collect-clause-ok : goal.returns-in-Collect-clause-ok
returns-in-Collect-clause-ok g c = subst (λ (a : Act). IfOk c.make.result (λ r. Runs c.args.caller.now.thread c.args.caller.now.view c.make.new.mine.view c.args.index a r)) (sym c.in-Collect.is)
    (all_run c.args.caller.now.thread c.args.caller.now.view c.make.new.mine.view c.args.index c.make.result
    (subst (λ (p : Pass). IfOk c.make.result (λ r. Collects p.thread p.view c.make.new.mine.view c.args.index r)) c.caller.view_is c.make.ensures.makes.1))

pub returns-in-Collect-clause-err : goal.returns-in-Collect-clause-err
returns-in-Collect-clause-err g c = none_made c.args.caller.now.thread c.args.caller.now.view c.make.new.mine.view c.make.result
    (subst (λ (p : Pass). OnErr c.make.result (MakesNone p.thread p.view c.make.new.mine.view)) c.caller.view_is c.make.ensures.makes.2)

pub run-requires-clause-order : goal.run-requires-clause-order
run-requires-clause-order g c = c.caller.invariant.1

pub run-requires-clause-pass : goal.run-requires-clause-pass
run-requires-clause-pass g c = (peer_is_own c.caller.inside.thread (subst (λ (p : Pass). IsPeerThread p.thread) (sym c.caller.view_is) c.requires.act.0), c.caller.invariant.2)

pub run-requires-clause-begins : goal.run-requires-clause-begins
run-requires-clause-begins g c = caller_begins c.caller.inside.thread c.caller.inside.seat.view c.args.index c.caller.invariant.0.0 c.caller.invariant.3
    (subst (λ (p : Pass). last_index (own p) ≤ c.args.index) (sym c.caller.view_is) c.requires.index)

pub run-requires-clause-act : goal.run-requires-clause-act
run-requires-clause-act g c = peer_operation c.caller.inside.thread c.args.act.now (subst (λ (p : Pass). IsPeerThread p.thread) (sym c.caller.view_is) c.requires.act.0)
    (subst (λ (p : Pass). IsLine p.thread c.args.act.now) (sym c.caller.view_is) c.requires.act.1) c.in_default.not-Collect

pub invariant_of-caller-2 : goal.invariant_of-caller-2
invariant_of-caller-2 g c = (
  c.caller.invariant.0,
  c.run.ensures.order,
  c.run.ensures.pass,
  beginner_knows c.caller.inside.thread c.run.new.mine.view c.args.index c.run.ensures.begins,
  c.run.ensures.settled,
  c.run.ensures.reads,
)

pub returns-clause-thread : goal.returns-clause-thread
returns-clause-thread g c = ap (λ (p : Pass). p.thread) c.caller.view_is

pub returns-clause-index : goal.returns-clause-index
returns-clause-index g c = beginner_is_below c.caller.inside.thread c.run.new.mine.view c.args.index c.caller.invariant.0.0 c.run.ensures.begins

pub returns-clause-ok : goal.returns-clause-ok
returns-clause-ok g c = subst (λ (p : Pass). IfOk c.run.result (λ r. Runs p.thread p.view c.run.new.mine.view c.args.index c.args.act.now r)) c.caller.view_is c.run.ensures.ok

pub returns-clause-err : goal.returns-clause-err
returns-clause-err g c = subst (λ (p : Pass). OnErr c.run.result (MakesAll p.thread p.view c.run.new.mine.view [])) c.caller.view_is
    (breaks_none c.caller.inside.thread c.caller.inside.seat.view c.run.new.mine.view c.args.index c.args.act.now c.run.result
    (subst (λ (p : Pass). IsPeerThread p.thread) (sym c.caller.view_is) c.requires.act.0)
    (peer_operation c.caller.inside.thread c.args.act.now (subst (λ (p : Pass). IsPeerThread p.thread) (sym c.caller.view_is) c.requires.act.0)
    (subst (λ (p : Pass). IsLine p.thread c.args.act.now) (sym c.caller.view_is) c.requires.act.1) c.in_default.not-Collect) c.run.ensures.err)
