-- The circle may be mirrored, and then it stands.
use Rattle.std.proofs.Common.{refl, subst}
use Rattle.side_tests.specs.Circles.{IsCircle}
use Rattle.side_tests.proofs.Circles.{are-strong, circle-stands, members-are}
use Rattle.side_tests.proofs.mirrors.Driven.installs.Goals as goal

pub install-requires-clause-members : goal.install-requires-clause-members
install-requires-clause-members c = members-are c.in_ok-graph.graph.nodes c.in_ok-comps.comps.comps c.in_ok-graph.ensures c.in_ok-comps.ensures.comps

pub install-requires-clause-strong_ones : goal.install-requires-clause-strong_ones
install-requires-clause-strong_ones c = are-strong c.self.inside.side.state c.in_ok-graph.graph.nodes c.in_ok-graph.ensures (c.if-not-is_strong.ensures refl) (c.if-not-is_strong-2.ensures refl)

pub invariant_of-self-2 : goal.invariant_of-self-2
invariant_of-self-2 c =
    let i = c.self.inside in
    circle-stands i.side c.install.new.side i.draw c.install.new.draw i.standing i.kept i.weak i.back 2 c.in_ok-refs.refs c.in_ok-graph.graph.nodes
    c.in_ok-comps.comps.comps c.in_ok-comps.comps.pairs c.in_ok-graph.ensures c.in_ok-comps.ensures.comps c.in_ok-comps.ensures.pairs
    c.in_ok-refs.ensures.adds c.in_ok-refs.ensures.reserve (subst (λ z. IsCircle i.side i.draw z i.standing i.kept i.weak i.back) c.if-self.false c.self.invariant)
