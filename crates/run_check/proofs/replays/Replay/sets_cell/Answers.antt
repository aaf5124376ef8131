use Rattle.std.proofs.Common.{◌≡◌, None, refl, sym, ap, ◌∙◌, subst}
use Rattle.joint_machine.specs.declared.names.Thread.TheVariants.{M}
use Rattle.joint_machine.specs.declared.lines.Act.TheVariants as act
use Rattle.joint_machine.specs.declared.events.Made.{Made}
use Rattle.joint_machine.specs.Sides.{AddsLawful, managed_rules, step_made}
use Rattle.joint_machine.specs.Told.{nothing}
use Rattle.check_laws.specs.Behind.{state_of}
use Rattle.managed_heap.specs.Sides.{as_side}
use Rattle.managed_heap.specs.Steps.{weak_op}
use Rattle.run_check.specs.declared.replays.Replay.{Replay}
use Rattle.run_check.specs.Cells.{targets_after}
use Rattle.run_check.specs.Judging.{AnswersRightly}
use Rattle.run_check.proofs.Drawing.{drawing}
use Rattle.run_check.proofs.OneReply.{answers_rightly}
use Rattle.run_check.proofs.ThreadLines.{thread_line, weak_judges, weakly}
use Rattle.run_check.proofs.replays.Replay.sets_cell.Goals as goal

pub returns : goal.returns
returns c =
    let h = c.args.h.now in
    let m = c.args.made.now in
    let old = c.args.self.now in
    let k = c.args.k in
    let r = c.in_ok-reply.reply in
    let draw = c.weak.new.draw in
    let managed = c.weak.new.self in
    let b = c.is_same.result in
    let may = c.requires.ready.1 in
    let line = thread_line (state_of c.requires.ready.0) m (act.Weak k c.args.v) c.requires.op (λ x. x) (λ x. x) may.next.turn may.next.cites in
    let adds : AddsLawful managed_rules drawing old.draw draw (as_side old.managed) (as_side managed) (weakly line.thread m.index k c.args.v r) nothing =
    subst (λ t. AddsLawful managed_rules drawing old.draw draw (as_side old.managed) (as_side managed) (step_made t m.index (weak_op k c.args.v) r None) nothing)
    (ap (λ (z : Made). z.caller) line.same) c.in_ok-reply.ensures.adds in
    let after : Replay = record old { managed = managed; draw = draw; readers = record old.readers { targets = targets_after old.readers.targets k.0 r draw.target } } in
    let same : c.keep_target.new.self ≡ after =
    c.keep_target.ensures ∙ (λ i. record old { managed = managed; draw = draw; readers = record old.readers { targets = targets_after old.readers.targets k.0 r (c.target-target.ensures i) } }) in
    subst (λ n. AnswersRightly h m old n b) (sym same) (subst (λ z. AnswersRightly h z old after b) (sym line.same)
    (answers_rightly h (weakly line.thread m.index k c.args.v m.reply) old after b refl tt (λ past w.
    weak_judges h past old line.thread m.index k c.args.v m.reply w draw managed r adds b c.is_same.ensures.0 c.is_same.ensures.1)))
