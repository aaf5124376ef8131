-- Each try makes the snapshot, or no entry.
use Rattle.std.proofs.Common.{◌∙◌, rules}
use Rattle.std.proofs.lemmas.Result.{IfOk-weaker, on_err_weaker}
use Rattle.joint_history.proofs.DriverSnaps.{none_rests, none_then_none, none_then_snap}
use Rattle.joint_history.proofs.shared.Shared.snap.Goals as goal

pub try_snap-requires-clause-may : goal.try_snap-requires-clause-may
try_snap-requires-clause-may g c = none_rests c.args.driver.now.view c.loop.driver.view c.args.index c.loop.invariant.3 c.requires.may

pub loop-preserved : goal.loop-preserved
loop-preserved g c = (
  tt,
  tt,
  c.try_snap.ensures.thread ∙ c.loop.invariant.2,
  none_then_none c.args.driver.now.view c.loop.driver.view c.try_snap.new.driver.view c.loop.invariant.3 c.in-Err-NotClosed.ensures.err,
)

pub returns-in_default-clause-ok : goal.returns-in_default-clause-ok
returns-in_default-clause-ok g c =
    let w = IfOk-weaker c.try_snap.result _ _ (λ o m. none_then_snap c.args.driver.now.view c.loop.driver.view c.try_snap.new.driver.view c.args.index o c.loop.invariant.3 m) c.try_snap.ensures.ok in
    search rules

pub returns-in_default-clause-err : goal.returns-in_default-clause-err
returns-in_default-clause-err g c =
    let w = on_err_weaker c.try_snap.result (none_then_none c.args.driver.now.view c.loop.driver.view c.try_snap.new.driver.view c.loop.invariant.3) c.try_snap.ensures.err in
    search rules
