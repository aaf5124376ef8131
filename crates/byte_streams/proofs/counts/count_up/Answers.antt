use Rattle.std.proofs.Common.{◌-◌, arith, length-set}
use Rattle.byte_streams.proofs.Counting.{carry_ends, carry_on}
use Rattle.byte_streams.proofs.counts.count_up.Goals as goal

pub returns-then-digits-i-lt57-clause-next : goal.returns-then-digits-i-lt57-clause-next
returns-then-digits-i-lt57-clause-next c = λ _. carry_ends c.args.digits.now c.loop-i.digits c.loop-i.i (c.loop-i.i - 1) (omega arith) c.loop-i.invariant.carries (omega arith) (omega arith)

pub loop-i-preserved : goal.loop-i-preserved
loop-i-preserved c =
    let i = c.loop-i.invariant in
    record {
      len = omega (arith, length-set c.loop-i.digits (c.loop-i.i - 1) 48);
      within = omega (arith, length-set c.loop-i.digits (c.loop-i.i - 1) 48);
      carries = carry_on c.args.digits.now c.loop-i.digits c.loop-i.i (c.loop-i.i - 1) (omega arith) i.carries (omega arith) (omega arith);
    }
