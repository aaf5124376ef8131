-- There is one resolution, and the reply is its, or isn't.
use Rattle.std.proofs.Common.{sym, ◌≡◌, ◌∙◌, true, false}
use Rattle.joint_replay.specs.Answers.{AreAnswered}
use Rattle.joint_replay.specs.Snaps.{Settles}
use Rattle.joint_replay.proofs.Snapping.{resolve-no, resolve-yes}
use Rattle.joint_replay.proofs.state.JointState.resolution.Goals as goal

pub returns-then-not-lawful : goal.returns-then-not-lawful
returns-then-not-lawful c =
    let freed = c.in-Some.freed.items in
    let settles : Settles c.args.self.now c.args.k.0 freed = rw c.in-Some.is at c.in_ok-freed.ensures in
    resolve-no c.args.self.now c.args.h.now c.args.reply.now c.args.k.0 freed settles
    (λ w. (let t = c.in_ok-lawful.ensures.1 (rw c.deref.ensures.value w) in let g : true ≡ false = sym t ∙ c.if-not-lawful.true in cc))

pub returns : goal.returns
returns c =
    let freed = c.in-Some.freed.items in
    let settles : Settles c.args.self.now c.args.k.0 freed = rw c.in-Some.is at c.in_ok-freed.ensures in
    let answered : AreAnswered c.args.self.now = c.is_answered.ensures.0 c.if-not-is_answered.false in
    (resolve-yes c.args.self.now c.args.h.now c.args.reply.now c.args.k.0 freed answered settles (rw c.deref.ensures.value at (c.in_ok-lawful.ensures.0 c.if-not-lawful.false)), settles.made, answered)
