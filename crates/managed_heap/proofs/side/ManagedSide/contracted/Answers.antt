-- The list goes on by the contraction.
use Rattle.std.proofs.Common.{◌≡◌, ◌≤◌, [], None, refl, sym, ap, subst, arith, ◌∙◌}
use Rattle.joint_machine.specs.declared.names.Thread.TheVariants.{C}
use Rattle.joint_machine.specs.declared.events.Op.TheVariants as op
use Rattle.joint_machine.specs.declared.events.Reply.TheVariants as says
use Rattle.joint_machine.specs.ManagedReplay.{ManagedReplay}
use Rattle.joint_machine.specs.Sides.{managed_rules, step_made}
use Rattle.joint_machine.specs.Told.{contraction_of}
use Rattle.joint_machine.proofs.SideLists.{AreTaken-push}
use Rattle.known_laws.proofs.Pinned.{none_stand}
use Rattle.managed_heap.specs.Calls.{contract_made}
use Rattle.managed_heap.specs.Sides.{owed_by}
use Rattle.managed_heap.proofs.Driving.{contract-goes, adds-lawful}
use Rattle.managed_heap.proofs.Goes.{side-kept, side-replayed, takings-few}
use Rattle.joint_machine.proofs.Deciding.{none_some}
use Rattle.managed_heap.proofs.side.ManagedSide.contracted.Goals as goal

pub enter-requires-clause-below : goal.enter-requires-clause-below
enter-requires-clause-below g c =
    let k = rw (← c.self.view_is) at c.requires.contracted in
    let may = rw (← c.self.view_is) at c.requires.may in
    (may k.cycle k.opened).below

pub enter-requires-clause-room : goal.enter-requires-clause-room
enter-requires-clause-room g c =
    let k = rw (← c.self.view_is) at c.requires.contracted in
    let may = rw (← c.self.view_is) at c.requires.may in
    (may k.cycle k.opened).room

pub invariant_of-self : goal.invariant_of-self
invariant_of-self g c =
    let i = c.self.inside in
    let k = rw (← c.self.view_is) at c.requires.contracted in
    let may = rw (← c.self.view_is) at c.requires.may in
    let made-is : step_made C c.args.index (op.Contract record { 0 = c.contract.result }) (says.Sccs c.args.sccs c.args.xrefs) None ≡ contract_made k.cycle c.args.index c.args.sccs c.args.xrefs = ap
    (λ n. step_made C c.args.index (op.Contract record { 0 = n }) (says.Sccs c.args.sccs c.args.xrefs) None) (c.contract.ensures.number k.cycle k.opened) in
    let draws = rw made-is at c.enter.ensures.draws in
    let goes = contract-goes i.entries.entries i.takings i.rows c.contract.new.self k.cycle c.args.index
    c.args.sccs c.args.xrefs k.comps k.heavy k.pairs c.self.invariant.0 k.contracted c.contract.ensures.state in
    let owed : owed_by i.rows.contracted ≤ i.entries.spare = c.self.invariant.1 k.cycle k.opened in
    let two : 2 ≤ i.entries.spare = subst (λ b. owed_by b ≤ i.entries.spare) k.contracted.may.once owed in (
      side-replayed i.entries.entries c.enter.new.entries.entries i.takings i.takings i.rows c.contract.new.self draws.adds.number (g.D.Draw.rules.floor c.args.draw.now)
          (contract_made k.cycle c.args.index c.args.sccs c.args.xrefs) (contraction_of k.comps k.heavy k.pairs) (may k.cycle k.opened).below draws.above draws.adds.added goes c.self.invariant.0,
      λ e o. subst (λ b. owed_by b ≤ c.enter.new.entries.spare) (sym (ap (λ (z : ManagedReplay). z.contracted) c.contract.ensures.state)) (omega (arith, two, c.enter.ensures.spare)),
      AreTaken-push managed_rules i.threads i.entries.entries c.enter.new.entries.entries draws.adds.number
          (contract_made k.cycle c.args.index c.args.sccs c.args.xrefs) tt draws.adds.added c.self.invariant.2,
      side-kept i.entries.entries c.enter.new.entries.entries i.takings i.takings i.rows c.contract.new.self draws.adds.number
          (contract_made k.cycle c.args.index c.args.sccs c.args.xrefs) (contraction_of k.comps k.heavy k.pairs) (none_stand i.rows.managed) draws.adds.added goes c.self.invariant.3,
      takings-few i.entries.entries c.enter.new.entries.entries i.takings draws.adds.number (contract_made k.cycle c.args.index c.args.sccs c.args.xrefs) draws.adds.added c.self.invariant.4,
      λ r e. absurd (none_some r (sym c.give_back.ensures ∙ e)),
      λ r e. absurd (none_some r (sym c.give_back.ensures ∙ e)),
    )

pub returns-clause-contracts : goal.returns-clause-contracts
returns-clause-contracts g c =
    let i = c.self.inside in
    rw (← c.self.view_is) (λ k o. record {
      adds = λ comps heavy pairs by. (
          let made-is : step_made C c.args.index (op.Contract record { 0 = c.contract.result }) (says.Sccs c.args.sccs c.args.xrefs) None ≡ contract_made k c.args.index c.args.sccs c.args.xrefs = ap
          (λ n. step_made C c.args.index (op.Contract record { 0 = n }) (says.Sccs c.args.sccs c.args.xrefs) None) (c.contract.ensures.number k o) in
          let draws = rw made-is at c.enter.ensures.draws in
          adds-lawful g.D.Draw.rules c.args.draw.now c.enter.new.draw i.threads i.entries.entries c.enter.new.entries.entries i.takings i.takings i.rows c.contract.new.self
          (contract_made k c.args.index c.args.sccs c.args.xrefs) (contraction_of comps heavy pairs) [] draws refl refl
          (contract-goes i.entries.entries i.takings i.rows c.contract.new.self k c.args.index c.args.sccs c.args.xrefs comps heavy pairs c.self.invariant.0 by c.contract.ensures.state));
    })
