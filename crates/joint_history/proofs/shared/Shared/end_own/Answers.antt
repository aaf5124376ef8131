use Rattle.std.proofs.Common.{◌<◌, ◌^◌, refl, arith, ◌∙◌}
use Rattle.joint_machine.specs.declared.names.Thread.TheVariants.{C}
use Rattle.joint_machine.specs.declared.events.Op.TheVariants as op
use Rattle.joint_machine.specs.Control.{marked}
use Rattle.peer_heap.specs.Sides.{seen}
use Rattle.joint_history.proofs.DriverMarks.{is_open, swept_under}
use Rattle.joint_history.proofs.Fitting.{goes_further, peer_line, peer_may}
use Rattle.joint_history.proofs.shared.Shared.end_own.Goals as goal

pub drive-requires-clause-fits : goal.drive-requires-clause-fits
drive-requires-clause-fits g c =
    let may = c.requires.may in
    let mine = c.args.driver.now.view in
    let index = c.args.index in
    let short : index < 2 ^ 32 = omega (arith, c.ranges.index.fits) in
    record {
      side = omega arith;
      asked = λ order lent mine1 s w. (
        is_open w.locked mine lent.view mine1 (seen s) index w.pass w.owns w.known_side.0 w.lends may,
        peer_may _ C order mine lent mine1 s op.Sweep refl refl w,
        peer_line _ C order mine lent mine1 s w,
      );
      further = λ order lent lent2 s s2 r d. goes_further order lent lent2 1 d.2.drew.kept d.2.drew.appends;
      left = λ order lent lent2 mine1 locked2 mine2 s s2 r w d b.
          (let q = swept_under w.locked mine mine1 locked2 mine2 order lent lent2 s s2 index w.pass w.owns short w.known_side.0 w.known_side.1 w.lends b
          r.0 r.1 (marked may.opened) may.seen may.stands refl d.2 d.1 in ((q.knows, q.reserves, d.0 ∙ w.known_side.2), q.makes));
    }

pub drive-requires-clause-knows : goal.drive-requires-clause-knows
drive-requires-clause-knows g c = λ w r made.
    let may = c.requires.may in
    (made (marked may.opened) may.seen may.stands refl).stands.known
