-- The next handle may be weakened, and then one more is.
use Rattle.std.proofs.Common.{◌+◌, refl, arith}
use Rattle.side_tests.proofs.Circles.{circle-at, circle-stood, circle-weakened, may-weaken}
use Rattle.side_tests.proofs.mirrors.Driven.weakens.Goals as goal

pub weaken_one-requires-clause-weakens : goal.weaken_one-requires-clause-weakens
weaken_one-requires-clause-weakens c =
    let i = c.self.inside in
    may-weaken i.side i.draw i.mirrored i.kept i.weak i.back (i.weak + 1)
    (circle-at i.side i.draw i.mirrored i.standing i.kept i.weak i.back i.weak i.back c.if-not-self.false refl refl c.self.invariant)
    (omega arith) (let few = c.if-h-gt2.false in omega (arith, few)) (c.if-not-is_strong.ensures refl)

pub invariant_of-self : goal.invariant_of-self
invariant_of-self c =
    let i = c.self.inside in
    let few = c.if-h-gt2.false in
    circle-stood c.weaken_one.new.side c.weaken_one.new.draw i.mirrored i.standing i.kept (i.weak + 1) i.back c.if-not-self.false
    (circle-weakened i.side c.weaken_one.new.side i.draw c.weaken_one.new.draw i.mirrored i.kept i.weak i.back
    (i.weak + 1) 3 refl (omega (arith, few)) c.weaken_one.ensures.adds c.weaken_one.ensures.reserve
    (circle-at i.side i.draw i.mirrored i.standing i.kept i.weak i.back i.weak i.back c.if-not-self.false refl refl c.self.invariant))
