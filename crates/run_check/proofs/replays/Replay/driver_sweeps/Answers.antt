-- The driver's sweep: its reply is compared, and then what it freed.
use Rattle.std.proofs.Common.{refl, sym, length, drop, ◌∙◌, true≢false}
use Rattle.joint_machine.specs.declared.events.Reply.TheVariants as says
use Rattle.joint_machine.specs.Told.{sweep_of}
use Rattle.run_check.specs.declared.replays.Replay.{Replay}
use Rattle.run_check.proofs.PeerMarks.{MakesSweep, driver-sweeps, sweep-named, sweep-other-reply}
use Rattle.run_check.proofs.replays.Replay.driver_sweeps.Goals as goal

pub returns-then-not-is_same : goal.returns-then-not-is_same
returns-then-not-is_same c =
    let h = c.args.h.now in
    let m = c.args.made.now in
    let old = c.args.self.now in
    let new : Replay = record old { draw = c.sweep.new.draw; peers = c.sweep.new.self } in
    let reply = says.Swept c.in-Ok.swept.marking c.in-Ok.swept.freed in
    let gone = drop (length old.peers.state.peers.heap.freed) c.sweep.new.self.state.peers.heap.freed in
    let makes : MakesSweep h m old new reply (sweep_of gone) =
    driver-sweeps h m old c.requires.op c.requires.driver new c.in-Ok.swept.marking c.in-Ok.swept.freed gone c.in-Ok.ensures.swept
    record { managed = refl; readers = refl; turns = refl } refl c.sweep.ensures.reserve in
    sweep-other-reply h m old c.requires.op new reply (sweep_of gone) makes (λ e. true≢false (sym (c.is_same.ensures.1 e) ∙ c.if-not-is_same.true))

pub returns : goal.returns
returns c =
    let h = c.args.h.now in
    let m = c.args.made.now in
    let old = c.args.self.now in
    let new : Replay = record old { draw = c.sweep.new.draw; peers = c.sweep.new.self } in
    let gone = drop (length old.peers.state.peers.heap.freed) c.sweep.new.self.state.peers.heap.freed in
    let makes : MakesSweep h m old new (says.Swept c.in-Ok.swept.marking c.in-Ok.swept.freed) (sweep_of gone) =
    driver-sweeps h m old c.requires.op c.requires.driver new c.in-Ok.swept.marking c.in-Ok.swept.freed gone c.in-Ok.ensures.swept
    record { managed = refl; readers = refl; turns = refl } refl c.sweep.ensures.reserve in
    sweep-named h m old c.requires.op new c.in-Ok.swept.marking c.in-Ok.swept.freed gone makes (c.is_same.ensures.0 c.if-not-is_same.false) c.peers_freed_so.result c.peers_freed_so.ensures
