-- The list goes on by a `weak`, which is answered as the replay answers it. Its target is the cell's by the answer.
use Rattle.std.proofs.Common.{◌≡◌, ◌≤◌, ◌∙◌, None, refl, sym, ap, arith}
use Rattle.joint_machine.specs.declared.lines.Act.TheVariants as act
use Rattle.joint_machine.specs.declared.events.Made.{Made}
use Rattle.joint_machine.specs.Heaps.{answer, place}
use Rattle.joint_machine.specs.Managed.{weakened_to}
use Rattle.joint_machine.specs.Run.{thread_number}
use Rattle.joint_machine.specs.Sides.{cell_target, managed_rules, step_made}
use Rattle.joint_machine.specs.Told.{nothing}
use Rattle.joint_machine.proofs.SideLists.{AreTaken-push}
use Rattle.known_laws.proofs.Pinned.{none_stand}
use Rattle.managed_heap.specs.Pinned.{weak_target}
use Rattle.managed_heap.specs.Sides.{state_of}
use Rattle.managed_heap.specs.Steps.{weak_op}
use Rattle.std.proofs.lemmas.Result.{IfOk-from_err}
use Rattle.managed_heap.proofs.Goes.{side-goes, side-kept, side-replayed, line-answers, weak-of, may-target, HasRoom-two, takings-few}
use Rattle.managed_heap.proofs.WeakEntries.{target-is, target-may}
use Rattle.joint_machine.proofs.Deciding.{none_some}
use Rattle.managed_heap.proofs.side.ManagedSide.weak.Goals as goal

pub enter-requires-clause-may : goal.enter-requires-clause-may
enter-requires-clause-may g c =
    let i = c.self.inside in
    let may = rw (← c.self.view_is) at c.requires.may in
    may-target g.D.Draw.rules c.args.draw.now (state_of i.takings i.rows) c.args.caller (weak_op c.args.k c.args.v) c.target-target.result may.bare may.targets
    (target-may (state_of i.takings i.rows) c.args.k c.args.v c.target-target.result c.target-target.ensures.unset c.target-target.ensures.live)

pub invariant_of-self-2 : goal.invariant_of-self-2
invariant_of-self-2 g c =
    let i = c.self.inside in
    let made : Made = step_made c.args.caller c.args.index (weak_op c.args.k c.args.v) c.weak-reply.result None in
    let may = rw (← c.self.view_is) at c.requires.may in
    let draws = rw c.in_ok-reserve.ensures.entries at c.enter.ensures.draws in
    let set : weakened_to i.rows.managed c.args.k.0 (place (thread_number c.args.caller) c.args.v.0) ≡ answer c.weak-reply.result c.weak-reply.new.self.managed = ap
    (λ z. weakened_to i.rows.managed c.args.k.0 z) (sym c.place-at.ensures.at) ∙ c.weak-reply.ensures.answer in
    let goes = side-goes i.entries.entries i.takings i.rows c.weak-reply.new.self made nothing c.self.invariant.0 (refl, refl, refl)
    (weak-of c.args.caller c.args.index c.args.k c.args.v c.weak-reply.result c.requires.thread c.requires.cell c.requires.var) tt
    (λ hs. line-answers i.rows c.weak-reply.new.self c.args.caller (act.Weak c.args.k c.args.v) c.weak-reply.result hs set c.weak-reply.ensures.rest) in
    let room : 2 ≤ c.enter.new.entries.spare = omega (arith, c.in_ok-reserve.ensures.room, c.enter.ensures.spare) in (
      side-replayed i.entries.entries c.enter.new.entries.entries i.takings i.takings i.rows c.weak-reply.new.self draws.adds.number
          (g.D.Draw.rules.floor c.args.draw.now) made nothing may.below draws.above draws.adds.added goes c.self.invariant.0,
      HasRoom-two c.weak-reply.new.self c.enter.new.entries.spare room,
      AreTaken-push managed_rules i.threads i.entries.entries c.enter.new.entries.entries draws.adds.number made may.takes draws.adds.added c.self.invariant.2,
      side-kept i.entries.entries c.enter.new.entries.entries i.takings i.takings i.rows c.weak-reply.new.self draws.adds.number made nothing
          (none_stand i.rows.managed) draws.adds.added goes c.self.invariant.3,
      takings-few i.entries.entries c.enter.new.entries.entries i.takings draws.adds.number made draws.adds.added c.self.invariant.4,
      λ r e. absurd (none_some r (sym c.give_back.ensures ∙ e)),
      λ r e. absurd (none_some r (sym c.give_back.ensures ∙ e)),
    )

pub returns-clause-adds : goal.returns-clause-adds
returns-clause-adds g c =
    let i = c.self.inside in
    let s = state_of i.takings i.rows in
    let made : Made = step_made c.args.caller c.args.index (weak_op c.args.k c.args.v) c.weak-reply.result None in
    let set : weakened_to i.rows.managed c.args.k.0 (place (thread_number c.args.caller) c.args.v.0) ≡ answer c.weak-reply.result c.weak-reply.new.self.managed = ap
    (λ z. weakened_to i.rows.managed c.args.k.0 z) (sym c.place-at.ensures.at) ∙ c.weak-reply.ensures.answer in
    let target : cell_target s c.args.caller (weak_op c.args.k c.args.v) c.weak-reply.result ≡ c.target-target.result =
    ap (λ z. cell_target s c.args.caller (weak_op c.args.k c.args.v) z) (sym (ap (λ a. a.reply) set))
    ∙ (target-is s c.args.caller c.args.k c.args.v ∙ (ap (λ z. weak_target i.rows c.args.k.0 z) (sym c.place-at.ensures.at) ∙ c.target-target.ensures.target)) in
    let draws = rw (c.in_ok-reserve.ensures.entries, ← target) at c.enter.ensures.draws in
    let goes = side-goes i.entries.entries i.takings i.rows c.weak-reply.new.self made nothing c.self.invariant.0 (refl, refl, refl)
    (weak-of c.args.caller c.args.index c.args.k c.args.v c.weak-reply.result c.requires.thread c.requires.cell c.requires.var) tt
    (λ hs. line-answers i.rows c.weak-reply.new.self c.args.caller (act.Weak c.args.k c.args.v) c.weak-reply.result hs set c.weak-reply.ensures.rest) in
    rw (← c.self.view_is) (record { draws = draws; goes = goes; threads = refl })

pub returns-in_err-reserve-clause-adds : goal.returns-in_err-reserve-clause-adds
returns-in_err-reserve-clause-adds g c = IfOk-from_err c.from_residual.result _ c.from_residual.ensures.0

pub returns-in_err-reserve-clause-used : goal.returns-in_err-reserve-clause-used
returns-in_err-reserve-clause-used g c = IfOk-from_err c.from_residual.result _ c.from_residual.ensures.0
