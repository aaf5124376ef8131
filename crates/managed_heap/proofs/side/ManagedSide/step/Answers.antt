-- The rows answer the event as the replay answers it, so the list goes on by its entry. No event of a step asks for
-- pins or sets a cell.
use Rattle.std.proofs.Common.{◌≤◌, [], length, refl, ap, arith, sym, ◌∙◌}
use Rattle.joint_machine.specs.declared.events.Made.{Made}
use Rattle.joint_machine.specs.Sides.{managed_rules, step_made}
use Rattle.joint_machine.specs.Told.{nothing}
use Rattle.joint_machine.proofs.SideLists.{AreTaken-push}
use Rattle.known_laws.proofs.Pinned.{none_stand}
use Rattle.managed_heap.specs.Sides.{state_of}
use Rattle.managed_heap.specs.Steps.{adopted_by}
use Rattle.std.proofs.lemmas.Result.{IfOk-from_err}
use Rattle.managed_heap.proofs.Driving.{adds-lawful}
use Rattle.managed_heap.proofs.Goes.{side-gives, side-kept, side-replayed, step-of, step-bare, step-target, step-allowed, kept-rows, HasRoom-two, takings-more}
use Rattle.joint_machine.proofs.Deciding.{none_some}
use Rattle.managed_heap.proofs.side.ManagedSide.step.Goals as goal

pub step-requires-clause-kept : goal.step-requires-clause-kept
step-requires-clause-kept g c = kept-rows c.self.inside.entries.entries c.self.inside.takings c.self.inside.rows c.self.invariant.3

pub push_event-requires : goal.push_event-requires
push_event-requires g c = omega (arith, c.self.invariant.4, ap length c.in_ok-reserve.ensures.entries, c.in_ok-reserve.ensures.limit, c.in_ok-reserve.ensures.room)

pub invariant_of-self-2 : goal.invariant_of-self-2
invariant_of-self-2 g c =
    let i = c.self.inside in
    let made : Made = step_made c.args.caller c.args.index c.args.op.now c.in_ok-reply.reply c.args.cites in
    let may = rw (← c.self.view_is) at c.requires.may in
    let fresh = rw (← c.self.view_is) at c.requires.fresh in
    let draws = rw c.in_ok-reserve.ensures.entries at c.enter.ensures.draws in
    let goes = side-gives i.entries.entries i.takings c.push_event.new.self i.rows c.step.new.self (adopted_by c.args.op.now c.in_ok-reply.reply) made nothing c.self.invariant.0
    (step-bare c.args.caller c.args.op.now c.requires.event.1) (step-of c.args.caller c.args.index c.args.op.now c.in_ok-reply.reply c.args.cites c.requires.event)
    (step-allowed (state_of i.takings i.rows) c.args.caller c.args.op.now c.requires.event.1 fresh) c.push_event.ensures c.in_ok-reply.ensures.answer in
    let room : 2 ≤ c.enter.new.entries.spare = omega (arith, c.in_ok-reserve.ensures.room, c.enter.ensures.spare) in (
      side-replayed i.entries.entries c.enter.new.entries.entries i.takings c.push_event.new.self i.rows c.step.new.self draws.adds.number
          (g.D.Draw.rules.floor c.args.draw.now) made nothing may.below draws.above draws.adds.added goes c.self.invariant.0,
      HasRoom-two c.step.new.self c.enter.new.entries.spare room,
      AreTaken-push managed_rules i.threads i.entries.entries c.enter.new.entries.entries draws.adds.number made may.takes draws.adds.added c.self.invariant.2,
      side-kept i.entries.entries c.enter.new.entries.entries i.takings c.push_event.new.self i.rows c.step.new.self draws.adds.number made nothing
          (none_stand i.rows.managed) draws.adds.added goes c.self.invariant.3,
      takings-more i.entries.entries c.enter.new.entries.entries i.takings c.push_event.new.self
          (adopted_by c.args.op.now c.in_ok-reply.reply) draws.adds.number made c.push_event.ensures draws.adds.added c.self.invariant.4,
      λ r e. absurd (none_some r (sym c.give_back.ensures ∙ e)),
      λ r e. absurd (none_some r (sym c.give_back.ensures ∙ e)),
    )

pub returns-clause-adds : goal.returns-clause-adds
returns-clause-adds g c =
    let i = c.self.inside in
    let s = (state_of i.takings i.rows) in
    let made : Made = step_made c.args.caller c.args.index c.args.op.now c.in_ok-reply.reply c.args.cites in
    let fresh = rw (← c.self.view_is) at c.requires.fresh in
    let draws = rw c.in_ok-reserve.ensures.entries at c.enter.ensures.draws in
    let goes = side-gives i.entries.entries i.takings c.push_event.new.self i.rows c.step.new.self (adopted_by c.args.op.now c.in_ok-reply.reply) made nothing c.self.invariant.0
    (step-bare c.args.caller c.args.op.now c.requires.event.1) (step-of c.args.caller c.args.index c.args.op.now c.in_ok-reply.reply c.args.cites c.requires.event)
    (step-allowed s c.args.caller c.args.op.now c.requires.event.1 fresh) c.push_event.ensures c.in_ok-reply.ensures.answer in
    rw (← c.self.view_is) (adds-lawful g.D.Draw.rules c.args.draw.now c.enter.new.draw i.threads i.entries.entries
    c.enter.new.entries.entries i.takings c.push_event.new.self i.rows c.step.new.self made nothing [] draws
    (step-target s c.args.caller c.args.op.now c.in_ok-reply.reply c.requires.event.1) refl goes)

pub returns-in_err-reserve-clause-adds : goal.returns-in_err-reserve-clause-adds
returns-in_err-reserve-clause-adds g c = IfOk-from_err c.from_residual.result _ c.from_residual.ensures.0

pub returns-in_err-reply-clause-adds : goal.returns-in_err-reply-clause-adds
returns-in_err-reply-clause-adds g c = IfOk-from_err c.from_residual-in_err-reply.result _ c.from_residual-in_err-reply.ensures.0

pub returns-in_err-reserve-clause-used : goal.returns-in_err-reserve-clause-used
returns-in_err-reserve-clause-used g c = IfOk-from_err c.from_residual.result _ c.from_residual.ensures.0

pub returns-in_err-reply-clause-used : goal.returns-in_err-reply-clause-used
returns-in_err-reply-clause-used g c = IfOk-from_err c.from_residual-in_err-reply.result _ c.from_residual-in_err-reply.ensures.0
