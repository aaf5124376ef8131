use Rattle.std.proofs.Common.{◌<◌, ◌^◌, arith, ◌∙◌}
use Rattle.joint_machine.specs.declared.names.Thread.TheVariants.{C}
use Rattle.managed_heap.specs.Sides.{as_side}
use Rattle.joint_history.proofs.DriverCalls.{abandon_knows, abandoning_made, may_abandon, under_lock}
use Rattle.joint_history.proofs.Fitting.{goes_further, lent_managed}
use Rattle.joint_history.proofs.shared.Shared.abandon.Goals as goal

pub drive-requires-clause-fits : goal.drive-requires-clause-fits
drive-requires-clause-fits g c =
    let may = c.requires.may in
    let mine = c.args.driver.now.view in
    let index = c.args.index in
    let short : index < 2 ^ 32 = omega (arith, c.ranges.index.fits) in
    record {
      side = omega arith;
      asked = λ order lent mine1 s w. (
        may_abandon s.state mine index may (under_lock w.locked mine lent.view mine1 (as_side s) index may.stand may.seen w.pass w.owns w.known_side.0 may.stands w.lends),
        lent_managed _ C order mine lent mine1 s may.stands.known w,
      );
      further = λ order lent lent2 s s2 r d. goes_further order lent lent2 0 d.drew.kept d.drew.appends;
      left = λ order lent lent2 mine1 locked2 mine2 s s2 r w d b. (
        (abandon_knows w.locked mine mine1 locked2 mine2 order lent lent2 (as_side s) (as_side s2) index w.pass w.owns short w.known_side.0 w.lends b r d may, d.threads ∙ w.known_side.1),
        abandoning_made w.locked mine mine1 locked2 mine2 order lent lent2 (as_side s) (as_side s2) index w.pass w.owns short w.known_side.0 w.lends b r d,
      );
    }

pub drive-requires-clause-knows : goal.drive-requires-clause-knows
drive-requires-clause-knows g c = λ w r made.
    let may = c.requires.may in
    (made may.opened may.stand may.seen may.stands may.unmirrored).1.stands.known
