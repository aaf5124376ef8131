-- A slice of a peer thread.
use Rattle.std.proofs.Common.{refl}
use Rattle.run_check.specs.declared.replays.Replay.{Replay}
use Rattle.run_check.proofs.PeerSteps.{slice-answers}
use Rattle.run_check.proofs.replays.Replay.slices.Goals as goal

pub returns : goal.returns
returns c =
    let old = c.args.self.now in
    let new : Replay = record old { draw = c.thread_slice.new.draw; peers = c.thread_slice.new.self } in
    slice-answers c.args.h.now c.args.made.now old c.args.n c.requires.op c.requires.peer new c.in_ok-reply.reply c.is_same.result c.in_ok-reply.ensures.adds
    record { managed = refl; readers = refl; turns = refl } refl c.thread_slice.ensures.reserve c.is_same.ensures
