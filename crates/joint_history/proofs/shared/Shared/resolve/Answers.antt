use Rattle.std.proofs.Common.{◌<◌, ◌^◌, arith, ◌∙◌}
use Rattle.joint_machine.specs.declared.names.Thread.TheVariants.{C}
use Rattle.joint_machine.specs.Control.{restored}
use Rattle.joint_model.specs.Listed.{answers_of}
use Rattle.managed_heap.specs.Sides.{as_side}
use Rattle.joint_history.proofs.DriverCalls.{may_close, resolution_knows, resolution_made, under_lock}
use Rattle.joint_history.proofs.Fitting.{goes_further, lent_managed}
use Rattle.joint_history.proofs.shared.Shared.resolve.Goals as goal

pub drive-requires-clause-fits : goal.drive-requires-clause-fits
drive-requires-clause-fits g c =
    let may = c.requires.may in
    let mine = c.args.driver.now.view in
    let index = c.args.index in
    let short : index < 2 ^ 32 = omega (arith, c.ranges.index.fits) in
    let alive = c.args.alive.now.values in
    record {
      side = omega arith;
      asked = λ order lent mine1 s w. (
        may_close s.state mine index c.args.clear alive may
            (under_lock w.locked mine lent.view mine1 (as_side s) index (restored may.opened (answers_of alive) c.args.clear) may.seen w.pass w.owns w.known_side.0 may.stands w.lends),
        lent_managed _ C order mine lent mine1 s may.stands.known w,
      );
      further = λ order lent lent2 s s2 r d. goes_further order lent lent2 0 d.drew.kept d.drew.appends;
      left = λ order lent lent2 mine1 locked2 mine2 s s2 r w d b. (
        (
          resolution_knows w.locked mine mine1 locked2 mine2 order lent lent2 (as_side s) (as_side s2) index w.pass w.owns short w.known_side.0 w.lends b c.args.clear r.0 alive r.1 d may,
          d.threads
              ∙ w.known_side.1,
        ),
        (resolution_made w.locked mine mine1 locked2 mine2 order lent lent2 (as_side s) (as_side s2) index w.pass w.owns short w.known_side.0 w.lends b c.args.clear r.0 alive r.1 d, d.kept),
      );
    }

pub drive-requires-clause-knows : goal.drive-requires-clause-knows
drive-requires-clause-knows g c = λ w r made.
    let may = c.requires.may in
    (made.0 may.opened may.seen may.stands).rests.stands.known
