-- The list goes on by a `take`, which is answered as the replay answers it with the pin that is given.
use Rattle.std.proofs.Common.{◌≤◌, ◌∙◌, None, refl, ap, arith, sym}
use Rattle.joint_machine.specs.declared.events.Made.{Made}
use Rattle.joint_machine.specs.Run.{thread_number}
use Rattle.joint_machine.specs.Sides.{managed_rules, step_made}
use Rattle.joint_machine.specs.Told.{kept_pins, nothing}
use Rattle.joint_machine.proofs.SideLists.{AreTaken-push}
use Rattle.managed_heap.specs.Pinned.{pin_given, pin_reply, with_taken}
use Rattle.managed_heap.specs.Steps.{take_op}
use Rattle.std.proofs.lemmas.Result.{IfOk-from_err}
use Rattle.managed_heap.proofs.Goes.{side-replayed, side-kept, HasRoom-two, takings-few}
use Rattle.managed_heap.proofs.TakeEntries.{take-goes, pin-live}
use Rattle.joint_machine.proofs.Deciding.{none_some}
use Rattle.managed_heap.proofs.side.ManagedSide.take.Goals as goal

pub take-reply-requires-clause-live : goal.take-reply-requires-clause-live
take-reply-requires-clause-live g c = pin-live c.self.inside.rows.managed c.args.caller c.args.pin c.requires.thread (rw (← c.self.view_is) at c.requires.stands)

pub invariant_of-self-2 : goal.invariant_of-self-2
invariant_of-self-2 g c =
    let i = c.self.inside in
    let made : Made = step_made c.args.caller c.args.index (take_op c.args.v) (pin_reply c.args.pin) None in
    let told = kept_pins (pin_given (thread_number c.args.caller) c.args.pin) nothing in
    let may = rw (← c.self.view_is) at c.requires.may in
    let stands = rw (← c.self.view_is) at c.requires.stands in
    let draws = rw (c.in_ok-reserve.ensures.entries, c.take-reply.ensures.reply) at c.enter.ensures.draws in
    let goes = take-goes i.entries.entries i.takings i.rows c.take-reply.new.self c.args.caller c.args.index c.args.v c.args.pin c.self.invariant.0 c.requires.thread c.requires.var
    (c.take-reply.ensures.state ∙ ap (λ z. with_taken i.rows z c.args.pin) c.place.ensures.at) in
    let room : 2 ≤ c.enter.new.entries.spare = omega (arith, c.in_ok-reserve.ensures.room, c.enter.ensures.spare) in (
      side-replayed i.entries.entries c.enter.new.entries.entries i.takings i.takings i.rows c.take-reply.new.self draws.adds.number
          (g.D.Draw.rules.floor c.args.draw.now) made told may.below draws.above draws.adds.added goes c.self.invariant.0,
      HasRoom-two c.take-reply.new.self c.enter.new.entries.spare room,
      AreTaken-push managed_rules i.threads i.entries.entries c.enter.new.entries.entries draws.adds.number made may.takes draws.adds.added c.self.invariant.2,
      side-kept i.entries.entries c.enter.new.entries.entries i.takings i.takings i.rows c.take-reply.new.self draws.adds.number made told stands draws.adds.added goes c.self.invariant.3,
      takings-few i.entries.entries c.enter.new.entries.entries i.takings draws.adds.number made draws.adds.added c.self.invariant.4,
      λ r e. absurd (none_some r (sym c.give_back.ensures ∙ e)),
      λ r e. absurd (none_some r (sym c.give_back.ensures ∙ e)),
    )

pub returns-clause-adds : goal.returns-clause-adds
returns-clause-adds g c =
    let i = c.self.inside in
    let draws = rw (c.in_ok-reserve.ensures.entries, c.take-reply.ensures.reply) at c.enter.ensures.draws in
    let goes = take-goes i.entries.entries i.takings i.rows c.take-reply.new.self c.args.caller c.args.index c.args.v c.args.pin c.self.invariant.0 c.requires.thread c.requires.var
    (c.take-reply.ensures.state ∙ ap (λ z. with_taken i.rows z c.args.pin) c.place.ensures.at) in
    rw (← c.self.view_is, c.take-reply.ensures.reply) (record { draws = draws; goes = goes; threads = refl })

pub returns-in_err-reserve-clause-adds : goal.returns-in_err-reserve-clause-adds
returns-in_err-reserve-clause-adds g c = IfOk-from_err c.from_residual.result _ c.from_residual.ensures.0

pub returns-in_err-reserve-clause-used : goal.returns-in_err-reserve-clause-used
returns-in_err-reserve-clause-used g c = IfOk-from_err c.from_residual.result _ c.from_residual.ensures.0
