-- Each number was compared with the one before it.
use Rattle.std.proofs.Common.{arith, refl, true, false, ◌≡◌, ◌<◌, ◌-◌, get_or}
use Rattle.joint_replay.proofs.Rising.{Rises-at, Rises-below}
use Rattle.joint_replay.proofs.marking.rises.Goals as goal

pub returns-then-xs-i : goal.returns-then-xs-i
returns-then-xs-i c = (
  λ e. (let g : false ≡ true = e in cc),
  λ r. absurd (let l : get_or c.args.xs.now (c.loop-i.i - 1) 0 < get_or c.args.xs.now c.loop-i.i 0 = Rises-at c.args.xs.now c.loop-i.i r (omega arith) (omega arith) in omega (arith, l)),
)

pub returns : goal.returns
returns c = (λ e. Rises-below c.args.xs.now c.loop-i.i (omega (arith, c.loop-i-test.false)) c.loop-i.invariant, λ r. refl)
