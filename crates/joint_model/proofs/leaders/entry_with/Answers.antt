use Rattle.std.proofs.Common.{◌≡◌, ◌+◌, ◌-◌, ◌<◌, ◌≤◌, length, slice_get, subst, sym, arith}
use Rattle.joint_model.specs.declared.marks.Leader.{Leader}
use Rattle.joint_model.specs.Leaders.{led}
use Rattle.joint_model.proofs.Searching.{finds-after, finds-no-leader, leads-there}
use Rattle.joint_model.proofs.leaders.entry_with.Goals as goal

pub returns-then-at-eq0 : goal.returns-then-at-eq0
returns-then-at-eq0 c =
    finds-no-leader c.args.leaders.now.all c.args.followers.now c.args.number c.leaders_below-at.result c.leaders_below-at.ensures.above (omega (arith, c.if-at-eq0.true)) c.requires.ascends

pub overflow_sub-number : goal.overflow_sub-number
overflow_sub-number c =
    let l = c.at-leader.result in
    subst (λ (x : Leader). x.entry.number ≤ c.args.number) (c.at-leader.ensures.leader l) (c.leaders_below-at.ensures.below l (omega (arith, c.if-at-eq0.false)))

pub entry_after-requires : goal.entry_after-requires
entry_after-requires c =
    let l = c.at-leader.result in
    let some : 0 < c.leaders_below-at.result = omega (arith, c.if-at-eq0.false) in
    subst (λ (x : Leader). x.from + x.followers ≤ length c.args.followers.now) (c.at-leader.ensures.leader l)
    (leads-there c.args.leaders.now.all c.args.followers.now (c.leaders_below-at.result - 1) l c.requires.followed c.requires.starts (omega (arith, some, c.leaders_below-at.ensures.within)))

pub returns : goal.returns
returns c =
    let l = c.at-leader.result in
    let there = subst (λ (x : Leader). c.entry_after.result ≡ slice_get (led x c.args.followers.now) (c.args.number - x.entry.number)) (sym (c.at-leader.ensures.leader l)) c.entry_after.ensures in
    finds-after c.args.leaders.now.all c.args.followers.now c.args.number c.leaders_below-at.result l c.entry_after.result there c.leaders_below-at.ensures.below c.leaders_below-at.ensures.above
    c.requires.followed c.requires.starts c.requires.ascends c.ranges.number.fits (omega (arith, c.if-at-eq0.false)) c.leaders_below-at.ensures.within
