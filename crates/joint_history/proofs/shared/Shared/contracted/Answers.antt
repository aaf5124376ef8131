use Rattle.std.proofs.Common.{◌<◌, ◌^◌, refl, arith, ◌∙◌}
use Rattle.joint_machine.specs.declared.names.Thread.TheVariants.{C}
use Rattle.joint_machine.specs.Control.{snapped}
use Rattle.managed_heap.specs.Calls.{contract_op}
use Rattle.managed_heap.specs.Sides.{as_side}
use Rattle.joint_history.proofs.DriverCalls.{contraction_knows, contraction_made, may_contract_with, under_lock}
use Rattle.joint_history.proofs.Fitting.{goes_further, managed_line, managed_may}
use Rattle.joint_history.proofs.shared.Shared.contracted.Goals as goal

pub drive-requires-clause-fits : goal.drive-requires-clause-fits
drive-requires-clause-fits g c =
    let may = c.requires.may in
    let mine = c.args.driver.now.view in
    let index = c.args.index in
    let short : index < 2 ^ 32 = omega (arith, c.ranges.index.fits) in
    record {
      side = omega arith;
      asked = λ order lent mine1 s w. (
        may_contract_with s.state mine index c.args.sccs c.args.xrefs may
            (under_lock w.locked mine lent.view mine1 (as_side s) index (snapped may.opened) may.seen w.pass w.owns w.known_side.0 may.stands w.lends),
        λ k e. managed_may _ C order mine lent mine1 s (contract_op k) refl refl refl w,
        managed_line _ C order mine lent mine1 s w,
      );
      further = λ order lent lent2 s s2 r d. (let q = (d.drew d.comps d.heavy d.pairs d.contracted) in goes_further order lent lent2 0 q.kept q.appends);
      left = λ order lent lent2 mine1 locked2 mine2 s s2 r w d b. (
        (
          contraction_knows w.locked mine mine1 locked2 mine2 order lent lent2 (as_side s) (as_side s2) index w.pass w.owns short w.known_side.0 w.lends b c.args.sccs c.args.xrefs r d may,
          d.threads
              ∙ w.known_side.1,
        ),
        contraction_made w.locked mine mine1 locked2 mine2 order lent lent2 (as_side s) (as_side s2) index w.pass w.owns short w.known_side.0 w.lends b c.args.sccs c.args.xrefs r d,
      );
    }

pub drive-requires-clause-knows : goal.drive-requires-clause-knows
drive-requires-clause-knows g c = λ w r made.
    let may = c.requires.may in
    (made may.opened may.seen may.comps may.heavy may.pairs may.stands may.contraction).1.known
