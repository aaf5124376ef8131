-- The event may be made, and its reply is compared.
use Rattle.std.proofs.Common.{refl}
use Rattle.run_check.specs.declared.replays.Replay.{Replay}
use Rattle.run_check.proofs.PeerSteps.{peer-step-allowed, peer-step-answers}
use Rattle.run_check.proofs.replays.Replay.peer_steps.Goals as goal

pub event-requires-clause-allowed : goal.event-requires-clause-allowed
event-requires-clause-allowed c = peer-step-allowed c.args.h.now c.args.made.now c.args.self.now c.requires.ready c.requires.peer c.requires.step

pub returns : goal.returns
returns c =
    let old = c.args.self.now in
    let new : Replay = record old { draw = c.event.new.draw; peers = c.event.new.self } in
    peer-step-answers c.args.h.now c.args.made.now old new c.in_ok-reply.reply c.is_same.result c.requires.peer c.requires.step c.in_ok-reply.ensures.adds
    record { managed = refl; readers = refl; turns = refl } refl c.event.ensures.reserve c.is_same.ensures
