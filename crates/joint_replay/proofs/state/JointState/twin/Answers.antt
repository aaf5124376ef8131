-- Each turn asks one object more.
use Rattle.std.proofs.Common.{◌≡◌, ◌∙◌, length, sym, ap, arith}
use Rattle.joint_machine.specs.Joint.{Joint}
use Rattle.joint_replay.proofs.Twinning.{twin-found, twin-skip, twin-none}
use Rattle.joint_replay.proofs.state.JointState.twin.Goals as goal

pub returns-then-is_twin : goal.returns-then-is_twin
returns-then-is_twin c =
    let j = c.args.self.now in
    let rows : length c.self.inside.managed.held ≡ length j.graph.managed.held = ap (λ (z : Joint). length z.graph.managed.held) c.self.view_is in
    sym (twin-found j c.args.p c.loop-m.m j.graph.managed.held (omega (arith, c.loop-m.auto))
    (omega (arith, rows, c.loop-m-test.true, c.rows-m-end.ensures.rows)) (sym c.is_twin.ensures ∙ c.if-is_twin.true)) ∙ c.loop-m.invariant

pub loop-m-preserved : goal.loop-m-preserved
loop-m-preserved c =
    let j = c.args.self.now in
    let rows : length c.self.inside.managed.held ≡ length j.graph.managed.held = ap (λ (z : Joint). length z.graph.managed.held) c.self.view_is in
    sym (twin-skip j c.args.p c.loop-m.m j.graph.managed.held (omega (arith, c.loop-m.auto))
    (omega (arith, rows, c.loop-m-test.true, c.rows-m-end.ensures.rows)) (sym c.is_twin.ensures ∙ c.if-is_twin.false)) ∙ c.loop-m.invariant

pub returns : goal.returns
returns c =
    let j = c.args.self.now in
    let rows : length c.self.inside.managed.held ≡ length j.graph.managed.held = ap (λ (z : Joint). length z.graph.managed.held) c.self.view_is in
    sym (twin-none j c.args.p c.loop-m.m j.graph.managed.held (omega (arith, rows, c.loop-m-test.false, c.rows-m-end.ensures.rows))) ∙ c.loop-m.invariant
