-- Each bridge node's handle is restored when its turn comes, and there is room for its answer.
use Rattle.std.proofs.Common.{◌∙◌, refl, arith}
use Rattle.bridge_cycle.proofs.Turned.{may_restore_next, restores_first, restores_last, restores_next, restores_past, room_next, room_past}
use Rattle.bridge_cycle.proofs.handles.restore_all.Goals as goal
use Rattle.bridge_cycle.proofs.handles.restore_all.Goals.{in-Some, in_default}

pub loop-i-init : goal.loop-i-init
loop-i-init g c = (refl, restores_first c.args.driver.now.view c.args.index c.args.opened.now.graph.nodes c.args.alive.now.values c.requires.none, c.requires.room)

pub restore-back-requires-clause-may : goal.restore-back-requires-clause-may
restore-back-requires-clause-may g c = may_restore_next c.args.driver.now.view c.loop-i.driver.view c.args.index
    c.args.opened.now.graph.nodes c.loop-i.i c.loop-i.alive.values c.in-Some.h c.in-Some.ensures c.requires.may c.loop-i.invariant.1

pub push-requires : goal.push-requires
push-requires g c = let r = room_next c.args.opened.now.graph.nodes c.loop-i.i c.loop-i.alive.room c.in-Some.h c.in-Some.ensures c.loop-i.invariant.2 in omega (arith, r)

pub loop-i-preserved : goal.loop-i-preserved
loop-i-preserved g c = elim c.match-handle.branch [
  | in-Some w ↦ rw (w.driver-is, w.alive-is, w.push.ensures.values) (
    w.restore-back.ensures.thread ∙ c.loop-i.invariant.0,
    restores_next c.args.driver.now.view c.loop-i.driver.view c.args.index c.args.opened.now.graph.nodes c.loop-i.i c.loop-i.alive.values w.restore-back.new.driver.view
        w.in-Some.h w.restore-back.result.1 w.given.result w.restore-back.result.0 w.in-Some.ensures w.given.ensures c.loop-i.invariant.1 w.restore-back.ensures.makes,
    (let r = room_next c.args.opened.now.graph.nodes c.loop-i.i c.loop-i.alive.room w.in-Some.h w.in-Some.ensures c.loop-i.invariant.2 in let p = w.push.ensures.room in omega (arith, r, p)),
  )
  | in_default w ↦ rw (w.driver-is, w.alive-is) (
    c.loop-i.invariant.0,
    restores_past c.args.driver.now.view c.loop-i.driver.view c.args.index c.args.opened.now.graph.nodes c.loop-i.i c.loop-i.alive.values
        (c.handle.ensures.0, c.handle.ensures.1, c.handle.ensures.2 ∙ w.in_default.is) c.loop-i.invariant.1,
    room_past c.args.opened.now.graph.nodes c.loop-i.i c.loop-i.alive.room (c.handle.ensures.0, c.handle.ensures.1, c.handle.ensures.2 ∙ w.in_default.is) c.loop-i.invariant.2,
  )
]

pub returns-clause-restores : goal.returns-clause-restores
returns-clause-restores g c = restores_last c.args.driver.now.view c.loop-i.driver.view c.args.index c.args.opened.now.graph.nodes c.loop-i.alive.values c.loop-i.i
    (omega (arith, c.nodes-i-end.ensures.count, c.loop-i-test.false)) c.loop-i.invariant.1
