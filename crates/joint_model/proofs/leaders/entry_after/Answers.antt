use Rattle.std.proofs.Common.{Some, ap, sym, ◌∙◌, arith}
use Rattle.joint_model.proofs.Searching.{led-follower, led-none}
use Rattle.joint_model.proofs.leaders.entry_after.Goals as goal

pub returns-then-i-leader : goal.returns-then-i-leader
returns-then-i-leader c = sym (led-none c.args.leader.now c.args.followers.now c.args.i c.requires c.if-i-leader.true)

pub returns : goal.returns
returns c = ap Some c.follower.ensures ∙ sym (led-follower c.args.leader.now c.args.followers.now c.args.i _ c.requires (omega (arith, c.if-i-eq0.false)) c.if-i-leader.false)
