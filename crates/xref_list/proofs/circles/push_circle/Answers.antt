-- One more edge of the circle stands in each turn; the last one closes it.
use Rattle.std.proofs.Common.{refl, ◌∙◌, arith}
use Rattle.xref_list.proofs.Comps.{circle-alone, circle-closed, circle-next}
use Rattle.xref_list.proofs.circles.push_circle.Goals as goal

pub loop-i-init : goal.loop-i-init
loop-i-init c = record { rest = refl; count = refl; capacity = refl }

pub overflow_sub-i : goal.overflow_sub-i
overflow_sub-i c = c.loop-i.auto.i

pub bounds-members-i : goal.bounds-members-i
bounds-members-i c = omega (arith, c.loop-i-test.true)

pub bounds-members-i-in-loop-i : goal.bounds-members-i-in-loop-i
bounds-members-i-in-loop-i c = c.loop-i-test.true

pub push_reserved-requires : goal.push_reserved-requires
push_reserved-requires c = omega (arith, c.loop-i-test.true, c.loop-i.invariant.count, c.loop-i.invariant.capacity, c.requires.room)

pub loop-i-preserved : goal.loop-i-preserved
loop-i-preserved c = record {
  rest = circle-next c.args.members.now c.loop-i.circles.items _ _ c.loop-i.i c.loop-i-test.true c.loop-i.invariant.rest c.push_reserved.ensures.items;
  count = omega (arith, c.push_reserved.ensures.len, c.loop-i.invariant.count);
  capacity = c.push_reserved.ensures.capacity ∙ c.loop-i.invariant.capacity;
}

pub push_reserved-requires-then-members-gt1 : goal.push_reserved-requires-then-members-gt1
push_reserved-requires-then-members-gt1 c = omega (arith, c.loop-i.invariant.count, c.loop-i.invariant.capacity, c.requires.room, c.loop-i.auto.i-end (omega (arith, c.if-members-gt1.true)))

pub returns-after-loop-i : goal.returns-after-loop-i
returns-after-loop-i c = circle-closed c.args.members.now c.args.circles.now.items c.loop-i.circles.items _ c.loop-i.i c.if-members-gt1.true c.loop-i-test.false
    (c.loop-i.auto.i-end (omega (arith, c.if-members-gt1.true))) c.loop-i.invariant.rest c.push_reserved-then-members-gt1.ensures.items

pub returns-else-members-gt1 : goal.returns-else-members-gt1
returns-else-members-gt1 c = circle-alone c.args.members.now c.args.circles.now.items c.if-members-gt1.false
