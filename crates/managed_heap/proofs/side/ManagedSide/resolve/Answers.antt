-- The list goes on by the resolution, which closes the cycle.
use Rattle.std.proofs.Common.{◌≡◌, ◌∙◌, Some, length, refl, sym, ap, arith}
use Rattle.std.proofs.lemmas.List.{length-map}
use Rattle.std.proofs.lemmas.Option.{same_Some}
use Rattle.joint_machine.specs.declared.names.Thread.TheVariants.{C}
use Rattle.joint_machine.specs.declared.events.Op.TheVariants as op
use Rattle.joint_machine.specs.declared.events.Reply.TheVariants as says
use Rattle.joint_machine.specs.Histories.{managed_numbers}
use Rattle.joint_model.specs.Listed.{answers_of}
use Rattle.joint_machine.specs.Managed.{OpenCycle}
use Rattle.joint_machine.specs.ManagedReplay.{ManagedReplay}
use Rattle.joint_machine.specs.Sides.{managed_rules, step_made}
use Rattle.joint_machine.specs.Told.{handles_given, resolution_of}
use Rattle.joint_machine.proofs.Deciding.{none_some}
use Rattle.joint_machine.proofs.SideLists.{AreTaken-push}
use Rattle.known_laws.proofs.Pinned.{none_stand}
use Rattle.managed_heap.specs.Calls.{resolve_made}
use Rattle.managed_heap.proofs.FreedCandidates.{frees-unanswered}
use Rattle.managed_heap.proofs.Driving.{resolve-goes, adds-lawful, objects-numbers}
use Rattle.managed_heap.proofs.Goes.{owed-some, side-kept, side-replayed, kept-rows, takings-more}
use Rattle.managed_heap.proofs.side.ManagedSide.resolve.Goals as goal

pub resolve-resolution-requires-clause-kept : goal.resolve-resolution-requires-clause-kept
resolve-resolution-requires-clause-kept g c = kept-rows c.self.inside.entries.entries c.self.inside.takings c.self.inside.rows c.self.invariant.3

pub resolve-resolution-requires-clause-open : goal.resolve-resolution-requires-clause-open
resolve-resolution-requires-clause-open g c =
    let k = rw (← c.self.view_is) at c.requires.close in
    record { cycle = k.answers.cycle; opened = k.answers.opened; one_each = k.answers.one_each }

pub push_answers-requires : goal.push_answers-requires
push_answers-requires g c =
    let k = rw (← c.self.view_is) at c.requires.close in
    let owed = c.self.invariant.1 k.answers.cycle k.answers.opened in
    omega (arith, c.self.invariant.4, c.spare-spare.ensures.limit, c.spare-spare.ensures.spare, owed-some c.self.inside.rows.contracted, owed)

pub enter-requires-clause-below : goal.enter-requires-clause-below
enter-requires-clause-below g c =
    let k = rw (← c.self.view_is) at c.requires.close in
    let may = rw (← c.self.view_is) at c.requires.may in
    (may k.answers.cycle k.answers.opened).below

pub enter-requires-clause-room : goal.enter-requires-clause-room
enter-requires-clause-room g c =
    let k = rw (← c.self.view_is) at c.requires.close in
    let may = rw (← c.self.view_is) at c.requires.may in
    (may k.answers.cycle k.answers.opened).room

pub invariant_of-self : goal.invariant_of-self
invariant_of-self g c =
    let i = c.self.inside in
    let k = rw (← c.self.view_is) at c.requires.close in
    let may = rw (← c.self.view_is) at c.requires.may in
    let t = c.resolve-resolution.ensures.resolution in
    let ms = c.resolve-resolution.result.freed.items in
    let freed = managed_numbers ms in
    let many : c.len.result ≡ length freed = omega (arith, c.len.ensures, c.resolve-resolution.result.freed.ok, length-map ms (λ m. m.0)) in
    let made-is : step_made C c.args.index (op.Resolve record { 0 = c.resolve-resolution.result.cycle }) (says.Freed record { first = c.resolve-resolution.result.first; count = c.len.result })
    (Some c.args.cites) ≡ resolve_made i.rows.managed t.cycle c.args.index freed c.args.cites = rw (t.numbered, t.before, many) refl in
    let draws = rw made-is at c.enter.ensures.draws in
    let same : k.answers.cycle ≡ t.cycle = same_Some k.answers.cycle t.cycle (sym k.answers.opened ∙ t.opened) in
    let one_each : length c.args.alive.now.values ≡ length t.cycle.candidates = k.answers.one_each ∙ ap (λ (z : OpenCycle). length z.candidates) same in
    let goes = resolve-goes i.entries.entries i.takings c.push_answers.new.self i.rows c.resolve-resolution.new.self c.args.index
    c.args.cites _ _ _ c.args.alive.now.values freed c.self.invariant.0 t one_each k.new c.push_answers.ensures in (
      side-replayed i.entries.entries c.enter.new.entries.entries i.takings c.push_answers.new.self i.rows c.resolve-resolution.new.self draws.adds.number
          (g.D.Draw.rules.floor c.args.draw.now) (resolve_made i.rows.managed t.cycle c.args.index freed c.args.cites)
          (resolution_of (answers_of c.args.alive.now.values) freed) (may k.answers.cycle k.answers.opened).below draws.above draws.adds.added goes c.self.invariant.0,
      λ e o. absurd (none_some e (sym (ap (λ (z : ManagedReplay). z.managed.cycle) t.state) ∙ o)),
      AreTaken-push managed_rules i.threads i.entries.entries c.enter.new.entries.entries draws.adds.number
          (resolve_made i.rows.managed t.cycle c.args.index freed c.args.cites) tt draws.adds.added c.self.invariant.2,
      side-kept i.entries.entries c.enter.new.entries.entries i.takings c.push_answers.new.self i.rows c.resolve-resolution.new.self draws.adds.number
          (resolve_made i.rows.managed t.cycle c.args.index freed c.args.cites) (resolution_of (answers_of c.args.alive.now.values) freed)
          (none_stand i.rows.managed) draws.adds.added goes c.self.invariant.3,
      takings-more i.entries.entries c.enter.new.entries.entries i.takings c.push_answers.new.self (handles_given (answers_of c.args.alive.now.values)) draws.adds.number
          (resolve_made i.rows.managed t.cycle c.args.index freed c.args.cites) c.push_answers.ensures draws.adds.added c.self.invariant.4,
      λ r e. absurd (none_some r (sym c.give_back.ensures ∙ e)),
      λ r e. absurd (none_some r (sym c.give_back.ensures ∙ e)),
    )

pub returns-clause-resolves : goal.returns-clause-resolves
returns-clause-resolves g c =
    let i = c.self.inside in
    let k = rw (← c.self.view_is) at c.requires.close in
    let t = c.resolve-resolution.ensures.resolution in
    let ms = c.resolve-resolution.result.freed.items in
    let freed = managed_numbers ms in
    let many : c.len.result ≡ length freed = omega (arith, c.len.ensures, c.resolve-resolution.result.freed.ok, length-map ms (λ m. m.0)) in
    let made-is : step_made C c.args.index (op.Resolve record { 0 = c.resolve-resolution.result.cycle }) (says.Freed record { first = c.resolve-resolution.result.first; count = c.len.result })
    (Some c.args.cites) ≡ resolve_made i.rows.managed t.cycle c.args.index freed c.args.cites = rw (t.numbered, t.before, many) refl in
    let draws = rw made-is at c.enter.ensures.draws in
    let same : k.answers.cycle ≡ t.cycle = same_Some k.answers.cycle t.cycle (sym k.answers.opened ∙ t.opened) in
    let one_each : length c.args.alive.now.values ≡ length t.cycle.candidates = k.answers.one_each ∙ ap (λ (z : OpenCycle). length z.candidates) same in
    rw (← c.self.view_is) (record {
      cycle = t.cycle;
      opened = t.opened;
      freed = freed;
      adds = adds-lawful g.D.Draw.rules c.args.draw.now c.enter.new.draw i.threads i.entries.entries c.enter.new.entries.entries i.takings
          c.push_answers.new.self i.rows c.resolve-resolution.new.self (resolve_made i.rows.managed t.cycle c.args.index freed c.args.cites)
          (resolution_of (answers_of c.args.alive.now.values) freed) c.deref.result.now draws refl (objects-numbers ms ∙ sym c.deref.ensures.value)
          (resolve-goes i.entries.entries i.takings c.push_answers.new.self i.rows c.resolve-resolution.new.self c.args.index
          c.args.cites _ _ _ c.args.alive.now.values freed c.self.invariant.0 t one_each k.new c.push_answers.ensures);
      exact = frees-unanswered i.rows.managed t.cycle (answers_of c.args.alive.now.values) freed (c.self.invariant.3.kept.managed.dead t.cycle t.opened) t.resolution;
      span = rw (t.before, many) refl;
      kept = t.counted;
    })
