use Rattle.std.proofs.Common.{◌≡◌, ◌+◌, ◌-◌, ◌≤◌, length, slice_get, subst, arith, ◌∙◌}
use Rattle.joint_model.specs.declared.marks.Leader.{Leader}
use Rattle.joint_model.specs.Leaders.{led, spelled}
use Rattle.joint_model.proofs.Searching.{at-place, leads-there, no-later}
use Rattle.joint_model.proofs.leaders.entry_at.Goals as goal

pub overflow_sub-place : goal.overflow_sub-place
overflow_sub-place c = no-later c.args.leaders.now.all c.leader_before-at.result c.args.place c.leader_before-at.ensures.leader c.leader_before-at.ensures.before

pub overflow_sub-place-2 : goal.overflow_sub-place-2
overflow_sub-place-2 c =
    let l = c.at-leader.result in
    let start : c.leader_before-at.result + l.from ≤ c.args.place =
    subst (λ (x : Leader). c.leader_before-at.result + x.from ≤ c.args.place) (c.at-leader.ensures.leader l) (c.leader_before-at.ensures.before l) in
    omega (arith, start)

pub entry_after-requires : goal.entry_after-requires
entry_after-requires c =
    subst (λ (l : Leader). l.from + l.followers ≤ length c.args.followers.now) (c.at-leader.ensures.leader c.at-leader.result)
    (leads-there c.args.leaders.now.all c.args.followers.now c.leader_before-at.result c.at-leader.result c.requires.followed c.requires.starts c.leader_before-at.ensures.leader)

pub returns : goal.returns
returns c =
    let l = c.at-leader.result in
    c.entry_after.ensures
    ∙ subst (λ (x : Leader). slice_get (led x c.args.followers.now) (c.args.place - c.leader_before-at.result - x.from) ≡ slice_get (spelled c.args.leaders.now.all c.args.followers.now) c.args.place)
    (c.at-leader.ensures.leader l)
    (at-place c.args.leaders.now.all c.args.followers.now c.leader_before-at.result c.args.place l c.requires.followed
    c.requires.starts c.leader_before-at.ensures.leader (c.leader_before-at.ensures.before l) (c.leader_before-at.ensures.next l))
