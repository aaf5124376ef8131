-- Both handles may be weakened, and then both are.
use Rattle.std.proofs.Common.{Some, refl, arith}
use Rattle.joint_machine.specs.PeerReplay.{MayWeaken}
use Rattle.side_tests.proofs.Circles.{apart, circle-at, circle-stood, circle-weakened_all, each, handles-count, may-weaken}
use Rattle.side_tests.proofs.mirrors.Driven.weakens_all.Goals as goal

pub weaken_all-requires-clause-apart : goal.weaken_all-requires-clause-apart
weaken_all-requires-clause-apart c = apart c.in_ok-graph.graph.nodes c.in_ok-graph.ensures

pub weaken_all-requires-clause-left : goal.weaken_all-requires-clause-left
weaken_all-requires-clause-left c =
    let i = c.self.inside in
    let is = c.if-self-ne0.false in
    let left = (circle-at i.side i.draw i.mirrored i.standing i.kept i.weak i.back 0 i.back c.if-not-self.false (omega (arith, is)) refl c.self.invariant).left in
    let n = handles-count c.in_ok-graph.graph.nodes c.in_ok-graph.ensures in
    omega (arith, left, n)

pub weaken_all-requires-clause-weakens : goal.weaken_all-requires-clause-weakens
weaken_all-requires-clause-weakens c =
    let i = c.self.inside in
    let is = c.if-self-ne0.false in
    let at = circle-at i.side i.draw i.mirrored i.standing i.kept i.weak i.back 0 i.back c.if-not-self.false (omega (arith, is)) refl c.self.invariant in
    each c.in_ok-graph.graph.nodes c.in_ok-graph.ensures (λ h. MayWeaken i.side.state h.0 (Some 0))
    (may-weaken i.side i.draw i.mirrored i.kept 0 i.back 1 at (omega arith) (omega arith) (c.if-not-is_strong.ensures refl))
    (may-weaken i.side i.draw i.mirrored i.kept 0 i.back 2 at (omega arith) (omega arith) (c.if-not-is_strong-2.ensures refl))

pub invariant_of-self : goal.invariant_of-self
invariant_of-self c =
    let i = c.self.inside in
    let is = c.if-self-ne0.false in
    circle-stood c.weaken_all.new.side c.weaken_all.new.draw i.mirrored i.standing i.kept 2 i.back c.if-not-self.false
    (circle-weakened_all i.side c.weaken_all.new.side i.draw c.weaken_all.new.draw i.mirrored i.kept i.back
    3 c.in_ok-graph.graph.nodes c.in_ok-graph.ensures c.weaken_all.ensures.adds c.weaken_all.ensures.reserve
    (circle-at i.side i.draw i.mirrored i.standing i.kept i.weak i.back 0 i.back c.if-not-self.false (omega (arith, is)) refl c.self.invariant))
