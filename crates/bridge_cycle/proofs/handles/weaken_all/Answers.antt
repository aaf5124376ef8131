-- Each bridge node's handle is weakened when its turn comes.
use Rattle.std.proofs.Common.{◌∙◌, refl, arith}
use Rattle.bridge_cycle.proofs.Turned.{may_weaken_next, weakens_first, weakens_last, weakens_next, weakens_past}
use Rattle.bridge_cycle.proofs.handles.weaken_all.Goals as goal
use Rattle.bridge_cycle.proofs.handles.weaken_all.Goals.{in-Some, in_default}

pub loop-i-init : goal.loop-i-init
loop-i-init g c = (refl, weakens_first c.args.driver.now.view c.args.index c.args.opened.now.number c.args.opened.now.graph.nodes)

pub weaken-requires-clause-may : goal.weaken-requires-clause-may
weaken-requires-clause-may g c = may_weaken_next c.args.driver.now.view c.loop-i.driver.view c.args.index c.args.opened.now.number
    c.args.opened.now.graph.nodes c.loop-i.i c.in-Some.h c.in-Some.ensures c.requires.may c.loop-i.invariant.1

pub loop-i-preserved : goal.loop-i-preserved
loop-i-preserved g c = elim c.match-handle.branch [
  | in-Some w ↦ rw w.driver-is (
    w.weaken.ensures.thread ∙ c.loop-i.invariant.0,
    weakens_next c.args.driver.now.view c.loop-i.driver.view c.args.index c.args.opened.now.number c.args.opened.now.graph.nodes
        c.loop-i.i w.weaken.new.driver.view w.in-Some.h w.weaken.result w.in-Some.ensures c.loop-i.invariant.1 w.weaken.ensures.makes,
  )
  | in_default w ↦ rw w.driver-is (
    c.loop-i.invariant.0,
    weakens_past c.args.driver.now.view c.loop-i.driver.view c.args.index c.args.opened.now.number c.args.opened.now.graph.nodes c.loop-i.i
        (c.handle.ensures.0, c.handle.ensures.1, c.handle.ensures.2 ∙ w.in_default.is) c.loop-i.invariant.1,
  )
]

pub returns-clause-weakens : goal.returns-clause-weakens
returns-clause-weakens g c = weakens_last c.args.driver.now.view c.loop-i.driver.view c.args.index c.args.opened.now.number c.args.opened.now.graph.nodes c.loop-i.i
    (omega (arith, c.nodes-i-end.ensures.count, c.loop-i-test.false)) c.loop-i.invariant.1
