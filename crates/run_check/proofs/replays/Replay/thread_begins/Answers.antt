-- A peer thread's begin.
use Rattle.std.proofs.Common.{refl}
use Rattle.peer_heap.specs.Makings.{gone_since}
use Rattle.run_check.specs.declared.replays.Replay.{Replay}
use Rattle.run_check.proofs.PeerMarks.{thread-begin-answers}
use Rattle.run_check.proofs.replays.Replay.thread_begins.Goals as goal

pub returns : goal.returns
returns c =
    let old = c.args.self.now in
    let new : Replay = record old { draw = c.mark_step.new.draw; peers = c.mark_step.new.self } in
    thread-begin-answers c.args.h.now c.args.made.now old c.requires.op c.requires.other new c.in_ok-reply.reply
    (gone_since old.peers.state c.mark_step.new.self.state) c.is_same.result c.in_ok-reply.ensures.adds
    record { managed = refl; readers = refl; turns = refl } refl c.mark_step.ensures.reserve c.is_same.ensures
