-- The list goes on by the abandoning, which closes the cycle.
use Rattle.std.proofs.Common.{◌≡◌, ◌∙◌, [], None, refl, sym, ap}
use Rattle.joint_machine.specs.declared.names.Thread.TheVariants.{C}
use Rattle.joint_machine.specs.declared.events.Op.TheVariants as op
use Rattle.joint_machine.specs.declared.events.Reply.TheVariants as says
use Rattle.joint_machine.specs.ManagedReplay.{ManagedReplay}
use Rattle.joint_machine.specs.Sides.{managed_rules, step_made}
use Rattle.joint_machine.specs.Told.{nothing}
use Rattle.joint_machine.proofs.Deciding.{none_some}
use Rattle.joint_machine.proofs.SideLists.{AreTaken-push}
use Rattle.known_laws.proofs.Pinned.{none_stand}
use Rattle.managed_heap.specs.Calls.{abandon_made}
use Rattle.managed_heap.proofs.Driving.{cycle-there, abandon-goes, adds-lawful}
use Rattle.managed_heap.proofs.Goes.{side-kept, side-replayed, takings-few}
use Rattle.managed_heap.proofs.side.ManagedSide.abandon.Goals as goal

pub enter-requires-clause-below : goal.enter-requires-clause-below
enter-requires-clause-below g c =
    let k = cycle-there c.self.inside.rows.managed.cycle (rw (← c.self.view_is) at c.requires.open) in
    let may = rw (← c.self.view_is) at c.requires.may in
    (may k.0 k.1).below

pub enter-requires-clause-room : goal.enter-requires-clause-room
enter-requires-clause-room g c =
    let k = cycle-there c.self.inside.rows.managed.cycle (rw (← c.self.view_is) at c.requires.open) in
    let may = rw (← c.self.view_is) at c.requires.may in
    (may k.0 k.1).room

pub invariant_of-self : goal.invariant_of-self
invariant_of-self g c =
    let i = c.self.inside in
    let k = cycle-there i.rows.managed.cycle (rw (← c.self.view_is) at c.requires.open) in
    let may = rw (← c.self.view_is) at c.requires.may in
    let made-is : step_made C c.args.index (op.Abandon record { 0 = c.abandon.result }) says.Ok None ≡ abandon_made k.0 c.args.index = ap
    (λ n. step_made C c.args.index (op.Abandon record { 0 = n }) says.Ok None) (c.abandon.ensures.number k.0 k.1) in
    let draws = rw made-is at c.enter.ensures.draws in
    let goes = abandon-goes i.entries.entries i.takings i.rows c.abandon.new.self k.0 c.args.index c.self.invariant.0 k.1 c.abandon.ensures.state in (
      side-replayed i.entries.entries c.enter.new.entries.entries i.takings i.takings i.rows c.abandon.new.self draws.adds.number
          (g.D.Draw.rules.floor c.args.draw.now) (abandon_made k.0 c.args.index) nothing (may k.0 k.1).below draws.above draws.adds.added goes c.self.invariant.0,
      λ e o. absurd (none_some e (sym (ap (λ (z : ManagedReplay). z.managed.cycle) c.abandon.ensures.state) ∙ o)),
      AreTaken-push managed_rules i.threads i.entries.entries c.enter.new.entries.entries draws.adds.number (abandon_made k.0 c.args.index) tt draws.adds.added c.self.invariant.2,
      side-kept i.entries.entries c.enter.new.entries.entries i.takings i.takings i.rows c.abandon.new.self draws.adds.number
          (abandon_made k.0 c.args.index) nothing (none_stand i.rows.managed) draws.adds.added goes c.self.invariant.3,
      takings-few i.entries.entries c.enter.new.entries.entries i.takings draws.adds.number (abandon_made k.0 c.args.index) draws.adds.added c.self.invariant.4,
      λ r e. absurd (none_some r (sym c.give_back.ensures ∙ e)),
      λ r e. absurd (none_some r (sym c.give_back.ensures ∙ e)),
    )

pub returns-clause-abandons : goal.returns-clause-abandons
returns-clause-abandons g c =
    let i = c.self.inside in
    rw (← c.self.view_is) (λ k o. (
    let made-is : step_made C c.args.index (op.Abandon record { 0 = c.abandon.result }) says.Ok None ≡ abandon_made k c.args.index = ap
    (λ n. step_made C c.args.index (op.Abandon record { 0 = n }) says.Ok None) (c.abandon.ensures.number k o) in
    let draws = rw made-is at c.enter.ensures.draws in
    adds-lawful g.D.Draw.rules c.args.draw.now c.enter.new.draw i.threads i.entries.entries c.enter.new.entries.entries i.takings i.takings i.rows c.abandon.new.self
    (abandon_made k c.args.index) nothing [] draws refl refl
    (abandon-goes i.entries.entries i.takings i.rows c.abandon.new.self k c.args.index c.self.invariant.0 o c.abandon.ensures.state)))
