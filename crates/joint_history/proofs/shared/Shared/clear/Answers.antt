use Rattle.std.proofs.Common.{None, ◌<◌, ◌^◌, refl, arith, ◌∙◌}
use Rattle.joint_machine.specs.declared.names.Thread.TheVariants.{C}
use Rattle.joint_machine.specs.declared.events.Op.TheVariants as op
use Rattle.joint_machine.specs.declared.events.Reply.TheVariants as says
use Rattle.joint_machine.specs.Control.{restoring}
use Rattle.joint_machine.specs.Told.{nothing}
use Rattle.peer_heap.specs.Sides.{seen}
use Rattle.joint_history.specs.Driven.{driver_entry}
use Rattle.joint_history.proofs.DriverHandles.{clear_knows, clear_made, may_clear, targets_restored}
use Rattle.joint_history.proofs.DriverPeerSteps.{under_peers}
use Rattle.joint_history.proofs.Fitting.{goes_further, peer_line, peer_may}
use Rattle.joint_history.proofs.Reserving.{clear_kept, drew_reserves}
use Rattle.joint_history.proofs.shared.Shared.clear.Goals as goal

pub drive-requires-clause-fits : goal.drive-requires-clause-fits
drive-requires-clause-fits g c =
    let may = c.requires.may in
    let mine = c.args.driver.now.view in
    let index = c.args.index in
    let short : index < 2 ^ 32 = omega (arith, c.ranges.index.fits) in
    record {
      side = omega arith;
      asked = λ order lent mine1 s w. (
        may_clear s.state may.opened may.answers c.args.cycle.0 may.seen
            (under_peers w.locked mine lent.view mine1 (seen s) index (restoring may.opened may.answers) may.seen w.pass w.owns w.known_side.0 may.stands w.lends) may.all may.same,
        targets_restored s.state may.opened may.answers may.seen
            (under_peers w.locked mine lent.view mine1 (seen s) index (restoring may.opened may.answers) may.seen w.pass w.owns w.known_side.0 may.stands w.lends) may.all,
        peer_may _ C order mine lent mine1 s (op.Clear c.args.cycle) refl refl w,
        peer_line _ C order mine lent mine1 s w,
      );
      further = λ order lent lent2 s s2 r d. goes_further order lent lent2 1 d.2.kept d.2.appends;
      left = λ order lent lent2 mine1 locked2 mine2 s s2 r w d b. (
        (
          clear_knows w.locked mine mine1 locked2 mine2 order lent lent2 (seen s) (seen s2) index w.pass w.owns short w.known_side.0 w.lends b r c.args.cycle d.2 may,
          drew_reserves C w.locked mine mine1 locked2 mine2 order lent lent2 s s2 (driver_entry r index (op.Clear c.args.cycle) says.Ok None) nothing
              w.known_side.0 w.known_side.1 w.lends d.2 b (clear_kept order lent lent2 s s2 r index c.args.cycle d.2 d.1),
          d.0 ∙ w.known_side.2,
        ),
        clear_made w.locked mine mine1 locked2 mine2 order lent lent2 (seen s) (seen s2) index w.pass w.owns short w.known_side.0 w.lends b r c.args.cycle d.2,
      );
    }

pub drive-requires-clause-knows : goal.drive-requires-clause-knows
drive-requires-clause-knows g c = λ w r made.
    let may = c.requires.may in
    (made may.opened may.answers may.seen may.stands may.all may.same).1.known
