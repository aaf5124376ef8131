-- The next handle may be restored, and then one more is.
use Rattle.std.proofs.Common.{◌+◌, refl, arith}
use Rattle.side_tests.proofs.Circles.{circle-at, circle-restored, circle-stood, may-restore}
use Rattle.side_tests.proofs.mirrors.Driven.restores.Goals as goal

pub restore_one-back-requires-clause-restores : goal.restore_one-back-requires-clause-restores
restore_one-back-requires-clause-restores c =
    let i = c.self.inside in
    let few = c.if-h-self.false in
    may-restore i.side i.draw i.mirrored i.kept i.weak i.back (i.back + 1)
    (circle-at i.side i.draw i.mirrored i.standing i.kept i.weak i.back i.weak i.back c.if-not-self.false refl refl c.self.invariant)
    (omega arith) (omega (arith, few)) (c.if-not-is_tabled.ensures refl)

pub invariant_of-self : goal.invariant_of-self
invariant_of-self c =
    let i = c.self.inside in
    let few = c.if-h-self.false in
    circle-stood c.restore_one-back.new.side c.restore_one-back.new.draw i.mirrored i.standing c.keeps-self-inside.result i.weak (i.back + 1) c.if-not-self.false
    (circle-restored i.side c.restore_one-back.new.side i.draw c.restore_one-back.new.draw i.mirrored i.kept c.keeps-self-inside.result i.weak i.back
    (i.back + 1) 4 c.restore_one-back.result refl (omega (arith, few)) c.keeps-self-inside.ensures c.restore_one-back.ensures.adds c.restore_one-back.ensures.reserve
    (circle-at i.side i.draw i.mirrored i.standing i.kept i.weak i.back i.weak i.back c.if-not-self.false refl refl c.self.invariant))
