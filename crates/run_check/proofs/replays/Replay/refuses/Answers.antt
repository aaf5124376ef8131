use Rattle.std.proofs.Common.{◌≡◌, List, length, None, Some, refl, sym, ap, ◌∙◌, subst, true≢false}
use Rattle.joint_machine.specs.declared.events.Op.TheVariants as op
use Rattle.joint_machine.specs.Managed.{candidates_of}
use Rattle.joint_machine.specs.Told.{Noted, phase_of}
use Rattle.check_laws.specs.Behind.{state_of}
use Rattle.caller_turns.specs.Shapes.{TellsPhase, stand_of}
use Rattle.caller_turns.specs.Turns.{Callers}
use Rattle.run_check.specs.declared.replays.Replay.{Replay}
use Rattle.run_check.specs.Judging.{MayNotReply, MayReply, Replied}
use Rattle.run_check.specs.Phases.{IsRefusedAt, told_phase}
use Rattle.run_check.proofs.PastFacts.{driver_made}
use Rattle.run_check.proofs.Pasts.{known}
use Rattle.run_check.proofs.Refusals.{may-refuse, none-right, other-wrong, refusal-replied, refusing}
use Rattle.run_check.proofs.replays.Replay.refuses.Goals as goal

pub returns-in_default-refused_in : goal.returns-in_default-refused_in
returns-in_default-refused_in c = λ past w.
    let h = c.args.h.now in
    let m = c.args.made.now in
    let old = c.args.self.now in
    let word = c.in-Refused.word in
    let s = state_of past in
    let shape : m ≡ refusing word m.index m.reply = driver_made s m (op.Refused word) None c.in-Refused.is (λ d. d) (λ x. x) w.next.turn w.next.cites in
    let stand = c.stand-stand.ensures ∙ ap (λ (z : Callers). z.stand) w.callers.turns in
    let many = (c.part-part.ensures past (known h past w.next.so_far) w.sides).candidates in
    let told : told_phase c.stand-stand.result c.part-part.result.candidates m.reply ≡ told_phase (stand_of s.control.stand)
    (length (candidates_of s.managed.managed)) m.reply = (λ i. told_phase (stand i) (many i) m.reply) in
    subst (λ z. MayNotReply h past z) (sym shape) (none-right h past old word m.index m.reply (subst (λ z. MayReply h past old z) shape w)
    (subst (λ t. IsRefusedAt word t None) told (subst (IsRefusedAt word (told_phase c.stand-stand.result c.part-part.result.candidates m.reply)) c.in_default-refused_in.is c.refused_in.ensures)))

pub refused-requires-clause-refused : goal.refused-requires-clause-refused
refused-requires-clause-refused c =
    let h = c.args.h.now in
    let m = c.args.made.now in
    let old = c.args.self.now in
    let word = c.in-Refused.word in
    let past = c.requires.ready.0 in
    let w = c.requires.ready.1 in
    let s = state_of past in
    let shape : m ≡ refusing word m.index m.reply = driver_made s m (op.Refused word) None c.in-Refused.is (λ d. d) (λ x. x) w.next.turn w.next.cites in
    let stand = c.stand-stand.ensures ∙ ap (λ (z : Callers). z.stand) w.callers.turns in
    let many = (c.part-part.ensures past (known h past w.next.so_far) w.sides).candidates in
    let told : told_phase c.stand-stand.result c.part-part.result.candidates m.reply ≡ told_phase (stand_of s.control.stand)
    (length (candidates_of s.managed.managed)) m.reply = (λ i. told_phase (stand i) (many i) m.reply) in
    let at : IsRefusedAt word (told_phase c.stand-stand.result c.part-part.result.candidates m.reply) (Some c.in-Some.phase) = subst
    (IsRefusedAt word (told_phase c.stand-stand.result c.part-part.result.candidates m.reply)) c.in-Some.is c.refused_in.ensures in
    may-refuse h past old word m.index m.reply (subst (λ z. MayReply h past old z) shape w) c.in-Some.phase (sym told ∙ at.0) at.1

pub returns-then-is_same : goal.returns-then-is_same
returns-then-is_same c = λ past w.
    let h = c.args.h.now in
    let m = c.args.made.now in
    let old = c.args.self.now in
    let word = c.in-Refused.word in
    let p = c.in-Some.phase in
    let s = state_of past in
    let shape : m ≡ refusing word m.index m.reply = driver_made s m (op.Refused word) None c.in-Refused.is (λ d. d) (λ x. x) w.next.turn w.next.cites in
    let stand = c.stand-stand.ensures ∙ ap (λ (z : Callers). z.stand) w.callers.turns in
    let many = (c.part-part.ensures past (known h past w.next.so_far) w.sides).candidates in
    let told : told_phase c.stand-stand.result c.part-part.result.candidates m.reply ≡ told_phase (stand_of s.control.stand)
    (length (candidates_of s.managed.managed)) m.reply = (λ i. told_phase (stand i) (many i) m.reply) in
    let at : IsRefusedAt word (told_phase c.stand-stand.result c.part-part.result.candidates m.reply) (Some p) = subst
    (IsRefusedAt word (told_phase c.stand-stand.result c.part-part.result.candidates m.reply)) c.in-Some.is c.refused_in.ensures in
    let after : Replay = record old { managed = c.refused.new.self; draw = c.refused.new.draw } in (
      phase_of p,
      subst (λ z. Replied h past z old after (phase_of p)) (sym shape) (refusal-replied h past old word m.index m.reply (subst (λ z. MayReply h past old z) shape w) p (sym told ∙ at.0) at.1
          c.in_ok-reply.reply c.refused.new.draw c.refused.new.self c.in_ok-reply.ensures.adds (c.is_same.ensures.0 c.if-is_same.true)),
      subst (λ o. TellsPhase o (phase_of p) p) (sym c.in-Refused.is) refl,
    )

pub returns-else-is_same : goal.returns-else-is_same
returns-else-is_same c = λ past w.
    let h = c.args.h.now in
    let m = c.args.made.now in
    let old = c.args.self.now in
    let word = c.in-Refused.word in
    let p = c.in-Some.phase in
    let s = state_of past in
    let shape : m ≡ refusing word m.index m.reply = driver_made s m (op.Refused word) None c.in-Refused.is (λ d. d) (λ x. x) w.next.turn w.next.cites in
    let stand = c.stand-stand.ensures ∙ ap (λ (z : Callers). z.stand) w.callers.turns in
    let many = (c.part-part.ensures past (known h past w.next.so_far) w.sides).candidates in
    let told : told_phase c.stand-stand.result c.part-part.result.candidates m.reply ≡ told_phase (stand_of s.control.stand)
    (length (candidates_of s.managed.managed)) m.reply = (λ i. told_phase (stand i) (many i) m.reply) in
    let at : IsRefusedAt word (told_phase c.stand-stand.result c.part-part.result.candidates m.reply) (Some p) = subst
    (IsRefusedAt word (told_phase c.stand-stand.result c.part-part.result.candidates m.reply)) c.in-Some.is c.refused_in.ensures in
    subst (λ z. MayNotReply h past z) (sym shape) (other-wrong h past old word m.index m.reply (subst (λ z. MayReply h past old z) shape w) p (sym told ∙ at.0) at.1
    c.in_ok-reply.reply c.refused.new.draw c.refused.new.self c.in_ok-reply.ensures.adds (λ q. true≢false (sym (c.is_same.ensures.1 q) ∙ c.if-is_same.false)))
