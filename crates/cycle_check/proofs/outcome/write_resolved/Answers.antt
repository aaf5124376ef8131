use Rattle.std.proofs.Common.{Bool, false, List, sym, subst, arith}
use Rattle.cycle_check.specs.Walking.{IsHolding}
use Rattle.cycle_check.proofs.Holding.{written}
use Rattle.cycle_check.proofs.outcome.write_resolved.Goals as goal

pub returns-in-None-clause-exact : goal.returns-in-None-clause-exact
returns-in-None-clause-exact c =
    let kinds = c.args.kinds.now in
    let starts = c.args.starts.now in
    let targets = c.args.targets.now in
    let kept = c.args.kept.now in
    let dead = c.write_dead.new.dead in
    let roots = c.in_ok-held.held.roots.items in
    let Holding : List Bool → Type 0 = λ marks. IsHolding kinds starts targets kept marks roots in
    let marks = c.deref-in-None.result.now in
    let held : IsHolding kinds starts targets kept marks roots = subst Holding (sym c.deref-in-None.ensures.value) c.in_ok-held.ensures in
    λ e. written kinds starts targets kept marks roots dead false held (omega (arith, c.requires.dead, c.write_dead.auto.dead)) c.write_dead.ensures.held c.write_dead.ensures.free
