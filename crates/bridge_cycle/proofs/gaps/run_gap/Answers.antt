-- Each phase is run where it is due, and the gap behind it comes then: how many gaps came tells which.
use Rattle.std.proofs.Common.{rules, ◌∙◌}
use Rattle.joint_machine.proofs.Deciding.{true_false}
use Rattle.bridge_cycle.proofs.Gapped.{cycle_ends, gap_due, gaps_stop, mid_none}
use Rattle.bridge_cycle.proofs.gaps.run_gap.Goals as goal

pub phases-init : goal.phases-init
phases-init g c = (mid_none c.args.driver.now c.args.index (g.G.Gap.count c.args.between.now) (search rules) c.requires.none, c.requires.index)

pub gap-requires-clause-few : goal.gap-requires-clause-few
gap-requires-clause-few g c =
    (gap_due c.args.driver.now c.phases.driver c.advance.new.self c.args.index (g.G.Gap.count c.phases.between) c.in-Ok.field-0 c.phases.invariant.0
    (λ e. let q = c.phase-in-phases.ensures ∙ e in true_false (rw q at c.phases-test.ensures)) c.in-Ok.ensures.ok).few

pub gap-requires-clause-phase : goal.gap-requires-clause-phase
gap-requires-clause-phase g c =
    (gap_due c.args.driver.now c.phases.driver c.advance.new.self c.args.index (g.G.Gap.count c.phases.between) c.in-Ok.field-0 c.phases.invariant.0
    (λ e. let q = c.phase-in-phases.ensures ∙ e in true_false (rw q at c.phases-test.ensures)) c.in-Ok.ensures.ok).due

pub phases-preserved : goal.phases-preserved
phases-preserved g c =
    let r = gap_due c.args.driver.now c.phases.driver c.advance.new.self c.args.index (g.G.Gap.count c.phases.between) c.in-Ok.field-0 c.phases.invariant.0
    (λ e. let q = c.phase-in-phases.ensures ∙ e in true_false (rw q at c.phases-test.ensures)) c.in-Ok.ensures.ok in
    (rw c.gap.ensures.count r.next, c.advance.ensures.index)

pub returns-in_default-clause-err : goal.returns-in_default-clause-err
returns-in_default-clause-err g c idle = gaps_stop c.args.driver.now c.phases.driver c.advance.new.self c.args.index (g.G.Gap.count c.phases.between) c.phases.invariant.0 c.in_default.ensures.err

pub returns-in-Ok-advance-clause-ok : goal.returns-in-Ok-advance-clause-ok
returns-in-Ok-advance-clause-ok g c =
    (cycle_ends c.args.driver.now c.phases.driver c.advance-2.new.self c.args.index
    (g.G.Gap.count c.phases.between) c.in-Ok-advance.field-0 c.phases.invariant.0 (search rules) c.in-Ok-advance.ensures.ok).0
