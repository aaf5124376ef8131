use Rattle.std.proofs.Common.{ℕ, None, ◌≡◌, ◌<◌, ◌^◌, refl, arith, ◌∙◌}
use Rattle.joint_machine.specs.declared.names.Thread.TheVariants.{C}
use Rattle.joint_machine.specs.declared.lines.Act.TheVariants as act
use Rattle.joint_machine.specs.declared.events.Op.TheVariants as op
use Rattle.joint_machine.specs.declared.events.Reply.{Reply}
use Rattle.joint_machine.specs.Sides.{managed_rules}
use Rattle.joint_machine.specs.Told.{nothing}
use Rattle.managed_heap.specs.Sides.{as_side}
use Rattle.joint_history.specs.Driven.{MakesFinalise, driver_entry}
use Rattle.joint_history.specs.Locked.{Drew}
use Rattle.joint_history.proofs.DriverCallers.{known_either}
use Rattle.joint_history.proofs.DriverCalls.{finalise_called}
use Rattle.joint_history.proofs.Fitting.{goes_further, either_further, managed_line, managed_may}
use Rattle.joint_history.proofs.shared.Shared.finalise.Goals as goal

pub drive-requires-clause-fits : goal.drive-requires-clause-fits
drive-requires-clause-fits g c =
    let may = c.requires.may in
    let mine = c.args.driver.now.view in
    let index = c.args.index in
    let short : index < 2 ^ 32 = omega (arith, c.ranges.index.fits) in
    record {
      side = omega arith;
      asked = λ order lent mine1 s w. (
        c.requires.count.0,
        c.requires.count.1,
        managed_may _ C order mine lent mine1 s (op.Line (act.Finalise c.args.count)) refl refl refl w,
        managed_line _ C order mine lent mine1 s w,
      );
      further = λ order lent lent2 s s2 r d. either_further
          (λ (x : ℕ × Reply). Drew managed_rules 0 order lent lent2 (as_side s) (as_side s2) (driver_entry x.0 index (op.Line (act.Finalise c.args.count)) x.1 None) nothing)
          (as_side s2 ≡ as_side s) lent lent2 r (λ x q. goes_further order lent lent2 0 q.kept q.appends) d.1 d.2;
      left = λ order lent lent2 mine1 locked2 mine2 s s2 r w d b.
          (let q = finalise_called w.locked mine mine1 locked2 mine2 order lent lent2 (as_side s) (as_side s2) index w.pass w.owns short w.known_side.0 w.lends b
          c.args.count r may d.1 d.2 in ((q.knows, d.0 ∙ w.known_side.1), (q.ok, q.err)));
    }

pub drive-requires-clause-knows : goal.drive-requires-clause-knows
drive-requires-clause-knows g c = λ w r made.
    let may = c.requires.may in
    known_either c.args.driver.now.view w r (λ (x : ℕ × Reply). MakesFinalise c.args.driver.now.view w c.args.index x.0 c.args.count x.1) made.0
    (λ x q. (q may.stand may.seen may.stands may.rests).1.known) made.1 c.args.index may.stand may.seen may.stands
