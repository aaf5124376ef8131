-- What a sweep frees was made, since nothing frees a peer while a marking is open.
use Rattle.std.proofs.Common.{subst, sym}
use Rattle.joint_machine.specs.Joint.{Joint}
use Rattle.joint_replay.specs.Answers.{answers_as}
use Rattle.joint_replay.specs.Snaps.{MaySweep}
use Rattle.joint_replay.proofs.Sweeping.{sweep-made}
use Rattle.joint_replay.proofs.state.JointState.end_marking.Goals as goal

pub free-requires : goal.free-requires
free-requires c =
    let s = c.self.inside in
    let i : Joint = record { graph = record { managed = s.managed; peers = s.peers; removed = s.removed.items }; answers = answers_as s.answers.items; marking = s.marking; markings = s.markings } in
    let freed = c.in-Some.freed.items in
    let may = rw c.in-Some.is at c.in_ok-freed.ensures in
    rw c.deref.ensures.value (sweep-made i freed c.args.reply.now c.self.invariant (subst (λ (z : Joint). MaySweep z freed c.args.reply.now) (sym c.self.view_is) may.1))
