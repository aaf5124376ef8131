-- The components that were told may be mirrored.
use Rattle.std.proofs.Common.{refl}
use Rattle.run_check.specs.declared.replays.Replay.{Replay}
use Rattle.run_check.proofs.PeerMirrors.{mirror-answers, mirror-may, mirror-members, mirror-strong}
use Rattle.run_check.proofs.replays.Replay.mirrors.Goals as goal

pub install-requires-clause-members : goal.install-requires-clause-members
install-requires-clause-members c = mirror-members c.args.h.now c.args.made.now c.args.self.now c.args.cycle c.requires.op
    c.in-Some-Some.open c.in-Some-Some.is-0 c.in-Some.comps c.in-Some.is c.in-Some-Some.cites c.in-Some-Some.is-1 c.requires.ready

pub install-requires-clause-strong_ones : goal.install-requires-clause-strong_ones
install-requires-clause-strong_ones c = mirror-strong c.args.h.now c.args.made.now c.args.self.now c.args.cycle c.requires.op
    c.in-Some-Some.open c.in-Some-Some.is-0 c.in-Some.comps c.in-Some.is c.in-Some-Some.cites c.in-Some-Some.is-1 c.requires.ready

pub install-requires-clause-mirrors : goal.install-requires-clause-mirrors
install-requires-clause-mirrors c = mirror-may c.args.h.now c.args.made.now c.args.self.now c.args.cycle c.requires.op
    c.in-Some-Some.open c.in-Some-Some.is-0 c.in-Some.comps c.in-Some.is c.in-Some-Some.cites c.in-Some-Some.is-1 c.requires.ready

pub returns : goal.returns
returns c =
    let old = c.args.self.now in
    let new : Replay = record old { draw = c.install.new.draw; peers = c.install.new.side } in
    mirror-answers c.args.h.now c.args.made.now old c.args.cycle c.requires.op c.in-Some-Some.open c.in-Some-Some.is-0
    c.in-Some.comps c.in-Some.is c.in-Some-Some.cites c.in-Some-Some.is-1 new c.in_ok-refs.refs c.is_same.result
    c.in_ok-refs.ensures.adds record { managed = refl; readers = refl; turns = refl } refl c.in_ok-refs.ensures.reserve c.is_same.ensures
