use Rattle.std.proofs.Common.{◌≡◌, None, refl, sym, subst}
use Rattle.joint_machine.specs.declared.events.Op.TheVariants as op
use Rattle.joint_machine.specs.Told.{Noted}
use Rattle.check_laws.specs.Behind.{state_of}
use Rattle.run_check.specs.declared.replays.Replay.{Replay}
use Rattle.run_check.specs.Judging.{AnswersRightly, MayReply}
use Rattle.run_check.proofs.Abandoning.{abandon_judges, abandon_may, abandon_open, abandon_other, abandon_side, abandon_some, abandoning}
use Rattle.run_check.proofs.Drawing.{may_draw}
use Rattle.run_check.proofs.OneReply.{answers_rightly}
use Rattle.run_check.proofs.PastFacts.{driver_made}
use Rattle.run_check.proofs.Resolving.{resolve_judges}
use Rattle.run_check.proofs.Contracting.{contract_judges}
use Rattle.run_check.proofs.Steps.{step_judges}
use Rattle.run_check.proofs.replays.Replay.abandons.Goals as goal

pub returns : goal.returns
returns c =
    let h = c.args.h.now in
    let m = c.args.made.now in
    let old = c.args.self.now in
    let k = c.args.cycle in
    let may = c.requires.ready.1 in
    let shape : m ≡ abandoning k m.index m.reply = driver_made (state_of c.requires.ready.0) m (op.Abandon k) None c.requires.op (λ d. d) (λ x. x) may.next.turn may.next.cites in
    let after : Replay = record old { managed = c.abandon.new.self; draw = c.abandon.new.draw; cycle = None } in
    subst (λ x. AnswersRightly h m old (record old { managed = c.abandon.new.self; draw = c.abandon.new.draw; cycle = x }) c.is_same.result) (sym c.forget.ensures)
    (subst (λ z. AnswersRightly h z old after c.is_same.result) (sym shape) (answers_rightly h (abandoning k m.index m.reply) old after c.is_same.result refl tt (λ past w.
    let adds = c.abandon.ensures.abandons (abandon_open h past old k m.index m.reply w c.in-Some.open c.in-Some.is).cycle (abandon_side h past old k m.index m.reply w c.in-Some.open c.in-Some.is) in
    abandon_judges h past old k m.index m.reply w c.in-Some.open c.in-Some.is c.if-open-cycle.false
    c.abandon.new.draw c.abandon.new.self adds c.is_same.result c.is_same.ensures.0 c.is_same.ensures.1)))
