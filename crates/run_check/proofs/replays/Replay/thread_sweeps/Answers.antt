-- A peer thread's sweep: its reply is compared, and then what it freed, if it wasn't refused.
use Rattle.std.proofs.Common.{refl, sym, subst, ◌∙◌, true≢false}
use Rattle.joint_machine.specs.declared.events.Op.TheVariants as op
use Rattle.peer_heap.specs.Makings.{gone_since, told_at}
use Rattle.run_check.specs.declared.replays.Replay.{Replay}
use Rattle.run_check.proofs.PeerMarks.{MakesSweep, sweep-named, sweep-other-reply, sweep-refused, thread-sweeps}
use Rattle.run_check.proofs.replays.Replay.thread_sweeps.Goals as goal

pub returns-then-not-is_same : goal.returns-then-not-is_same
returns-then-not-is_same c =
    let h = c.args.h.now in
    let m = c.args.made.now in
    let old = c.args.self.now in
    let new : Replay = record old { draw = c.mark_step.new.draw; peers = c.mark_step.new.self } in
    let reply = c.in_ok-reply.reply in
    let gone = gone_since old.peers.state c.mark_step.new.self.state in
    let makes : MakesSweep h m old new reply (told_at op.Sweep reply gone) =
    thread-sweeps h m old c.requires.op c.requires.other new reply gone c.in_ok-reply.ensures.adds record { managed = refl; readers = refl; turns = refl } refl c.mark_step.ensures.reserve in
    sweep-other-reply h m old c.requires.op new reply (told_at op.Sweep reply gone) makes (λ e. true≢false (sym (c.is_same.ensures.1 e) ∙ c.if-not-is_same.true))

pub returns-in-Swept : goal.returns-in-Swept
returns-in-Swept c =
    let h = c.args.h.now in
    let m = c.args.made.now in
    let old = c.args.self.now in
    let new : Replay = record old { draw = c.mark_step.new.draw; peers = c.mark_step.new.self } in
    let reply = c.in_ok-reply.reply in
    let gone = gone_since old.peers.state c.mark_step.new.self.state in
    let makes : MakesSweep h m old new reply (told_at op.Sweep reply gone) =
    thread-sweeps h m old c.requires.op c.requires.other new reply gone c.in_ok-reply.ensures.adds record { managed = refl; readers = refl; turns = refl } refl c.mark_step.ensures.reserve in
    sweep-named h m old c.requires.op new c.in-Swept.field-0 c.in-Swept.span gone (subst (λ r. MakesSweep h m old new r (told_at op.Sweep r gone)) c.in-Swept.is makes)
    (c.is_same.ensures.0 c.if-not-is_same.false ∙ c.in-Swept.is) c.peers_freed_so.result c.peers_freed_so.ensures

pub returns-in_default : goal.returns-in_default
returns-in_default c =
    let h = c.args.h.now in
    let m = c.args.made.now in
    let old = c.args.self.now in
    let new : Replay = record old { draw = c.mark_step.new.draw; peers = c.mark_step.new.self } in
    let reply = c.in_ok-reply.reply in
    let gone = gone_since old.peers.state c.mark_step.new.self.state in
    let makes : MakesSweep h m old new reply (told_at op.Sweep reply gone) =
    thread-sweeps h m old c.requires.op c.requires.other new reply gone c.in_ok-reply.ensures.adds record { managed = refl; readers = refl; turns = refl } refl c.mark_step.ensures.reserve in
    sweep-refused h m old c.requires.op new reply gone makes (c.is_same.ensures.0 c.if-not-is_same.false) c.in_default.not-Swept
