-- The list goes on by a refusal, which changes nothing.
use Rattle.std.proofs.Common.{◌≤◌, [], None, refl, sym, arith, ◌∙◌}
use Rattle.joint_machine.specs.declared.names.Thread.TheVariants.{C}
use Rattle.joint_machine.specs.declared.events.Made.{Made}
use Rattle.joint_machine.specs.declared.events.Op.TheVariants as op
use Rattle.joint_machine.specs.ManagedReplay.{refusal_to}
use Rattle.joint_machine.specs.Sides.{managed_rules, step_made}
use Rattle.joint_machine.specs.Told.{phase_of}
use Rattle.joint_machine.proofs.SideLists.{AreTaken-push}
use Rattle.known_laws.proofs.Pinned.{none_stand}
use Rattle.std.proofs.lemmas.Result.{IfOk-from_err}
use Rattle.managed_heap.proofs.Driving.{adds-lawful}
use Rattle.managed_heap.proofs.Goes.{side-goes, side-kept, side-replayed, same-answers, HasRoom-two, takings-few}
use Rattle.joint_machine.proofs.Deciding.{none_some}
use Rattle.managed_heap.proofs.side.ManagedSide.refused.Goals as goal

pub invariant_of-self-2 : goal.invariant_of-self-2
invariant_of-self-2 g c =
    let i = c.self.inside in
    let made : Made = step_made C c.args.index (op.Refused c.args.word) c.refusal-reply.result None in
    let may = rw (← c.self.view_is) at c.requires.may in
    let refused = rw (← c.self.view_is) at c.requires.refused in
    let draws = rw c.in_ok-reserve.ensures.entries at c.enter.ensures.draws in
    let goes = side-goes i.entries.entries i.takings i.rows i.rows made (phase_of c.args.phase) c.self.invariant.0 (refl, refl, refl) record { event = tt; side = refl } refused
    (λ hs. same-answers i.rows c.refusal-reply.result (refusal_to i.rows.managed c.args.phase c.args.word) hs (sym c.refusal-reply.ensures)) in
    let room : 2 ≤ c.enter.new.entries.spare = omega (arith, c.in_ok-reserve.ensures.room, c.enter.ensures.spare) in (
      side-replayed i.entries.entries c.enter.new.entries.entries i.takings i.takings i.rows i.rows draws.adds.number
          (g.D.Draw.rules.floor c.args.draw.now) made (phase_of c.args.phase) may.below draws.above draws.adds.added goes c.self.invariant.0,
      HasRoom-two i.rows c.enter.new.entries.spare room,
      AreTaken-push managed_rules i.threads i.entries.entries c.enter.new.entries.entries draws.adds.number made tt draws.adds.added c.self.invariant.2,
      side-kept i.entries.entries c.enter.new.entries.entries i.takings i.takings i.rows i.rows draws.adds.number made
          (phase_of c.args.phase) (none_stand i.rows.managed) draws.adds.added goes c.self.invariant.3,
      takings-few i.entries.entries c.enter.new.entries.entries i.takings draws.adds.number made draws.adds.added c.self.invariant.4,
      λ r e. absurd (none_some r (sym c.give_back.ensures ∙ e)),
      λ r e. absurd (none_some r (sym c.give_back.ensures ∙ e)),
    )

pub returns-clause-adds : goal.returns-clause-adds
returns-clause-adds g c =
    let i = c.self.inside in
    let made : Made = step_made C c.args.index (op.Refused c.args.word) c.refusal-reply.result None in
    let refused = rw (← c.self.view_is) at c.requires.refused in
    let draws = rw c.in_ok-reserve.ensures.entries at c.enter.ensures.draws in
    rw (← c.self.view_is) (adds-lawful g.D.Draw.rules c.args.draw.now c.enter.new.draw i.threads i.entries.entries
    c.enter.new.entries.entries i.takings i.takings i.rows i.rows made (phase_of c.args.phase) [] draws refl refl
    (side-goes i.entries.entries i.takings i.rows i.rows made (phase_of c.args.phase) c.self.invariant.0 (refl, refl, refl) record { event = tt; side = refl } refused
    (λ hs. same-answers i.rows c.refusal-reply.result (refusal_to i.rows.managed c.args.phase c.args.word) hs (sym c.refusal-reply.ensures))))

pub returns-in_err-reserve-clause-adds : goal.returns-in_err-reserve-clause-adds
returns-in_err-reserve-clause-adds g c = IfOk-from_err c.from_residual.result _ c.from_residual.ensures.0

pub returns-in_err-reserve-clause-used : goal.returns-in_err-reserve-clause-used
returns-in_err-reserve-clause-used g c = IfOk-from_err c.from_residual.result _ c.from_residual.ensures.0
