-- Two peers were made.
use Rattle.std.proofs.Common.{ap, ◌∙◌}
use Rattle.peer_heap.specs.Sides.{PeerModel}
use Rattle.side_tests.specs.Circles.{with_pair}
use Rattle.side_tests.proofs.Circles.{circle-first}
use Rattle.side_tests.proofs.mirrors.play_on.Goals as goal

pub invariant_of-driven : goal.invariant_of-driven
invariant_of-driven c =
    let made = c.in-Ok in
    circle-first c.make_both.new.side c.make_both.new.draw made.ensures.counted
    (made.ensures.state ∙ ap with_pair (ap with_pair (ap (λ (m : PeerModel). m.state) c.requires)))
    (c.make_both.ensures.reserve ∙ ap (λ (m : PeerModel). m.reserve) c.requires)
