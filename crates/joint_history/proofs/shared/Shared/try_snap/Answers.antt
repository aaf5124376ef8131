use Rattle.std.proofs.Common.{◌≡◌, ◌<◌, ◌^◌, arith, ◌∙◌}
use Rattle.joint_machine.specs.declared.names.Thread.TheVariants.{C}
use Rattle.joint_machine.specs.Control.{idle}
use Rattle.managed_heap.specs.Sides.{as_side}
use Rattle.joint_history.specs.DriverSnaps.{DrawsSnapshot, MakesSnapshot}
use Rattle.joint_history.proofs.DriverCallers.{known_either}
use Rattle.joint_history.proofs.DriverCalls.{under_lock}
use Rattle.joint_history.proofs.DriverSnaps.{may_snap, snapshot_called}
use Rattle.joint_history.proofs.Fitting.{goes_further, either_further, lent_managed}
use Rattle.joint_history.proofs.shared.Shared.try_snap.Goals as goal

pub drive-requires-clause-fits : goal.drive-requires-clause-fits
drive-requires-clause-fits g c =
    let may = c.requires.may in
    let mine = c.args.driver.now.view in
    let index = c.args.index in
    let short : index < 2 ^ 32 = omega (arith, c.ranges.index.fits) in
    record {
      side = omega arith;
      asked = λ order lent mine1 s w. (
        may_snap s.state may.seen (under_lock w.locked mine lent.view mine1 (as_side s) index idle may.seen w.pass w.owns w.known_side.0 may.stands w.lends),
        lent_managed _ C order mine lent mine1 s may.stands.known w,
      );
      further = λ order lent lent2 s s2 r d. either_further (λ o. DrawsSnapshot order lent lent2 (as_side s) (as_side s2) index o)
          (as_side s2 ≡ as_side s) lent lent2 r (λ o q. goes_further order lent lent2 0 q.drew.kept q.drew.appends) d.1 d.3;
      left = λ order lent lent2 mine1 locked2 mine2 s s2 r w d b.
          (let q = snapshot_called w.locked mine mine1 locked2 mine2 order lent lent2 (as_side s) (as_side s2) index w.pass w.owns short w.known_side.0 w.lends b
          r may d.1 d.3 in ((q.knows, d.0 ∙ w.known_side.1), (q.ok, d.2, q.err)));
    }

pub drive-requires-clause-knows : goal.drive-requires-clause-knows
drive-requires-clause-knows g c = λ w r made.
    let may = c.requires.may in
    known_either c.args.driver.now.view w r (λ o. MakesSnapshot c.args.driver.now.view w c.args.index o) made.0
    (λ o q. (q may.seen may.stands).stands.known) made.2 c.args.index idle may.seen may.stands
