-- Each event's verdict is the entry's.
use Rattle.std.proofs.lemmas.Result.{IfOk-weaker}
use Rattle.joint_replay.proofs.Verdicts.{judged-handles, judged-objects, judged-line, judged-abandon, judged-restore, judged-snap, judged-resolve, judged-begin, judged-sweep, judged-ok}
use Rattle.joint_replay.proofs.state.JointState.judge_step.Goals as goal

pub returns-in-Line-clause-verdict : goal.returns-in-Line-clause-verdict
returns-in-Line-clause-verdict c =
    judged-ok c.args.h.now c.args.entry.now c.args.self.now _ _
    (λ v. judged-line c.args.h.now c.args.entry.now c.args.self.now c.in-Line.act c.in-Line.is
    (c.can_make.ensures.0 c.if-not-can_make.false).0 (c.can_make.ensures.0 c.if-not-can_make.false).1 v _) c.line.result c.line.ensures.ok

pub returns-in-Abandon-clause-verdict : goal.returns-in-Abandon-clause-verdict
returns-in-Abandon-clause-verdict c =
    judged-abandon c.args.h.now c.args.entry.now c.args.self.now c.in-Abandon.cycle c.in-Abandon.is
    (c.can_make.ensures.0 c.if-not-can_make.false).0 c.abandon.result c.abandon.new.self c.abandon.ensures

pub returns-in-Restore-clause-verdict : goal.returns-in-Restore-clause-verdict
returns-in-Restore-clause-verdict c =
    judged-ok c.args.h.now c.args.entry.now c.args.self.now _ _
    (λ v. judged-restore c.args.h.now c.args.entry.now c.args.self.now c.in-Restore.h c.in-Restore.is (c.can_make.ensures.0 c.if-not-can_make.false).0 v _) c.restore.result c.restore.ensures.ok

pub returns-in-Snap-clause-verdict : goal.returns-in-Snap-clause-verdict
returns-in-Snap-clause-verdict c =
    judged-ok c.args.h.now c.args.entry.now c.args.self.now _ _
    (λ v. judged-snap c.args.h.now c.args.entry.now c.args.self.now c.in-Snap.cycle c.in-Snap.is (c.can_make.ensures.0 c.if-not-can_make.false).0 v _) c.snap.result c.snap.ensures.ok

pub returns-in-Resolve-clause-verdict : goal.returns-in-Resolve-clause-verdict
returns-in-Resolve-clause-verdict c =
    judged-ok c.args.h.now c.args.entry.now c.args.self.now _ _
    (λ v. judged-resolve c.args.h.now c.args.entry.now c.args.self.now c.in-Resolve.cycle c.in-Resolve.is (c.can_make.ensures.0 c.if-not-can_make.false).0 v _)
    c.resolve.result c.resolve.ensures.ok

pub returns-in-Begin-clause-verdict : goal.returns-in-Begin-clause-verdict
returns-in-Begin-clause-verdict c =
    judged-ok c.args.h.now c.args.entry.now c.args.self.now _ _
    (λ v. judged-begin c.args.h.now c.args.entry.now c.args.self.now c.in-Begin.is (c.can_make.ensures.0 c.if-not-can_make.false).0 v _) c.begin.result c.begin.ensures.ok

pub returns-in-Sweep-clause-verdict : goal.returns-in-Sweep-clause-verdict
returns-in-Sweep-clause-verdict c =
    judged-ok c.args.h.now c.args.entry.now c.args.self.now _ _
    (λ v. judged-sweep c.args.h.now c.args.entry.now c.args.self.now c.in-Sweep.is (c.can_make.ensures.0 c.if-not-can_make.false).0 v _) c.sweep.result c.sweep.ensures.ok

pub returns-in-Make-clause-verdict : goal.returns-in-Make-clause-verdict
returns-in-Make-clause-verdict c =
    let e = c.args.entry.now in
    IfOk-weaker c.on_handles.result _ _ (λ v w. judged-handles c.args.h.now e c.args.self.now c.in-Make.is (c.can_make.ensures.0 c.if-not-can_make.false).0 v _ (w e.made.caller))
    c.on_handles.ensures.ok

pub returns-in-Adopt-clause-verdict : goal.returns-in-Adopt-clause-verdict
returns-in-Adopt-clause-verdict c =
    IfOk-weaker c.on_objects.result _ _ (λ v w. judged-objects c.args.h.now c.args.entry.now c.args.self.now c.in-Adopt.is (c.can_make.ensures.0 c.if-not-can_make.false).0 v _ w)
    c.on_objects.ensures.ok
