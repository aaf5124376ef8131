-- All handles are restored, and those that came in their place are strong; and then no reference stands.
use Rattle.std.proofs.Common.{true, refl, subst, arith}
use Rattle.side_tests.specs.Circles.{IsCircle}
use Rattle.side_tests.proofs.Circles.{circle-at, circle-cleared, may-clear, targets-are}
use Rattle.side_tests.proofs.mirrors.Driven.clears.Goals as goal

pub clear-requires-clause-clears : goal.clear-requires-clause-clears
clear-requires-clause-clears c =
    let i = c.self.inside in
    let is = c.if-self-ne2.false in
    may-clear i.side i.draw i.mirrored i.kept i.weak (circle-at i.side i.draw i.mirrored i.standing i.kept i.weak i.back i.weak 2 c.if-not-self.false refl (omega (arith, is)) c.self.invariant)

pub clear-requires-clause-targets : goal.clear-requires-clause-targets
clear-requires-clause-targets c =
    let i = c.self.inside in
    let is = c.if-self-ne2.false in
    let at = circle-at i.side i.draw i.mirrored i.standing i.kept i.weak i.back i.weak 2 c.if-not-self.false refl (omega (arith, is)) c.self.invariant in
    targets-are i.side i.draw i.mirrored i.weak (subst (λ z. IsCircle i.side i.draw i.mirrored true z i.weak 2) c.if-not-self-2.false at)
    (c.if-not-is_strong.ensures refl) (c.if-not-is_strong-2.ensures refl)

pub invariant_of-self : goal.invariant_of-self
invariant_of-self c =
    let i = c.self.inside in
    circle-cleared i.side c.clear.new.side i.draw c.clear.new.draw i.mirrored i.kept i.weak i.back 4 c.clear.ensures.adds c.clear.ensures.reserve
    (circle-at i.side i.draw i.mirrored i.standing i.kept i.weak i.back i.weak i.back c.if-not-self.false refl refl c.self.invariant)
