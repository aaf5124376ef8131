use Rattle.std.proofs.Common.{◌≡◌, Some, None, refl, sym, ap, ◌∙◌, subst}
use Rattle.std.specs.Prelude.{slice_get, slice_set}
use Rattle.joint_machine.specs.declared.names.Thread.TheVariants.{M}
use Rattle.joint_machine.specs.declared.lines.Act.TheVariants as act
use Rattle.joint_machine.specs.declared.events.Made.{Made}
use Rattle.joint_machine.specs.Run.{thread_number}
use Rattle.joint_machine.specs.Sides.{AddsLawful, managed_rules, step_made}
use Rattle.joint_machine.specs.Told.{kept_pins, nothing}
use Rattle.known_laws.specs.Known.{PinsStand}
use Rattle.check_laws.specs.Behind.{state_of}
use Rattle.managed_heap.specs.Pinned.{pin_given}
use Rattle.managed_heap.specs.Sides.{as_side}
use Rattle.managed_heap.specs.Steps.{take_op}
use Rattle.run_check.specs.declared.replays.Replay.{Replay}
use Rattle.run_check.specs.Judging.{AnswersRightly, MayReply}
use Rattle.run_check.proofs.Drawing.{drawing}
use Rattle.run_check.proofs.OneReply.{answers_rightly}
use Rattle.run_check.proofs.ThreadLines.{take_judges, take_stands, takingly, thread_line}
use Rattle.run_check.proofs.replays.Replay.takes_pin.Goals as goal

pub take-requires-clause-stands : goal.take-requires-clause-stands
take-requires-clause-stands c =
    let h = c.args.h.now in
    let m = c.args.made.now in
    let old = c.args.self.now in
    let past = c.requires.ready.0 in
    let may = c.requires.ready.1 in
    let pin = c.pin-pin.result in
    let line = thread_line (state_of past) m (act.Take c.args.v) c.requires.op (λ x. x) (λ x. x) may.next.turn may.next.cites in
    let caller = ap (λ (z : Made). z.caller) line.same in
    let has : slice_get old.readers.pins line.thread ≡ Some pin = subst (λ t. slice_get old.readers.pins (thread_number t) ≡ Some pin) caller c.pin-pin.ensures in
    subst (λ t. PinsStand old.managed.state.managed (pin_given (thread_number t) pin)) (sym caller)
    (take_stands h past old line.thread m.index c.args.v m.reply (subst (λ z. MayReply h past old z) line.same may) pin has)

pub returns : goal.returns
returns c =
    let h = c.args.h.now in
    let m = c.args.made.now in
    let old = c.args.self.now in
    let r = c.in_ok-reply.reply in
    let draw = c.take.new.draw in
    let managed = c.take.new.self in
    let b = c.is_same.result in
    let may = c.requires.ready.1 in
    let pin = c.pin-pin.result in
    let line = thread_line (state_of c.requires.ready.0) m (act.Take c.args.v) c.requires.op (λ x. x) (λ x. x) may.next.turn may.next.cites in
    let caller = ap (λ (z : Made). z.caller) line.same in
    let has : slice_get old.readers.pins line.thread ≡ Some pin = subst (λ t. slice_get old.readers.pins (thread_number t) ≡ Some pin) caller c.pin-pin.ensures in
    let adds : AddsLawful managed_rules drawing old.draw draw (as_side old.managed) (as_side managed) (takingly line.thread m.index c.args.v r) (kept_pins (pin_given line.thread pin) nothing) =
    subst (λ t. AddsLawful managed_rules drawing old.draw draw (as_side old.managed) (as_side managed)
    (step_made t m.index (take_op c.args.v) r None) (kept_pins (pin_given (thread_number t) pin) nothing)) caller c.in_ok-reply.ensures.adds in
    let after : Replay = record old { managed = managed; draw = draw; readers = record old.readers { pins = slice_set old.readers.pins line.thread None } } in
    let same : c.set_pin.new.self ≡ after.readers = c.set_pin.ensures ∙ ap (λ t. record old.readers { pins = slice_set old.readers.pins (thread_number t) None }) caller in
    subst (λ x. AnswersRightly h m old (record old { managed = managed; draw = draw; readers = x }) b) (sym same) (subst (λ z. AnswersRightly h z old after b) (sym line.same)
    (answers_rightly h (takingly line.thread m.index c.args.v m.reply) old after b refl tt (λ past w.
    take_judges h past old line.thread m.index c.args.v m.reply w pin has draw managed r adds b c.is_same.ensures.0 c.is_same.ensures.1)))
