use Rattle.std.proofs.Common.{sym, ap, subst, arith, ◌∙◌}
use Rattle.joint_machine.specs.declared.names.Thread.TheVariants.{C}
use Rattle.joint_machine.specs.Control.{marked}
use Rattle.peer_heap.specs.Sides.{PeerModel, seen}
use Rattle.order_table.specs.Views.{Shown}
use Rattle.seat_calls.specs.Passing.{Returns}
use Rattle.joint_history.specs.Locked.{PeerKnows}
use Rattle.joint_history.specs.Steps.{GoesFurther}
use Rattle.joint_history.proofs.DriverMarks.{is_open, is_own_marking}
use Rattle.joint_history.proofs.DriverSteps.{driven_none}
use Rattle.joint_history.proofs.LockedSteps.{peer_side}
use Rattle.joint_history.proofs.Fitting.{same_further}
use Rattle.joint_history.proofs.Reserving.{back_on, lent_on, nothing_kept, reserves_on}
use Rattle.joint_history.proofs.shared.Shared.slice.Goals as goal

pub drive-requires-clause-fits : goal.drive-requires-clause-fits
drive-requires-clause-fits g c =
    let index = c.requires.may.0 in
    let may = c.requires.may.1 in
    let mine = c.args.driver.now.view in
    record {
      side = omega arith;
      asked = λ order lent mine1 s w. (
        is_open w.locked mine lent.view mine1 (seen s) index w.pass w.owns w.known_side.0 w.lends may,
        is_own_marking w.locked mine lent.view mine1 (seen s) index w.pass w.owns w.known_side.0 w.lends may,
      );
      further = λ order lent lent2 s s2 r d. subst (λ (z : Shown). GoesFurther lent z) (sym d.0) (same_further lent);
      left = λ order lent lent2 mine1 locked2 mine2 s s2 r w d b.
          (
          let back = subst (λ (z : Shown). Returns C z.view mine1 locked2 mine2) d.0 b in
          let k = driven_none peer_side w.locked mine lent.view mine1 locked2 mine2 (seen s) w.pass w.owns w.known_side.0 may.stands.known w.lends back in (
            (
              subst (λ (z : PeerModel). PeerKnows locked2 (seen z)) (sym d.1) k.knows,
              reserves_on w.locked locked2 s s2 w.known_side.0 (back_on C w.locked lent.view mine1 locked2 mine2 (lent_on C w.locked mine lent.view mine1 w.lends) back)
                  (nothing_kept s s2 (ap seen d.1) (ap (λ (z : PeerModel). z.reserve) d.1)) w.known_side.1,
              ap (λ (z : PeerModel). z.threads) d.1 ∙ w.known_side.2,
            ),
            k.makes,
          )
          );
    }

pub drive-requires-clause-knows : goal.drive-requires-clause-knows
drive-requires-clause-knows g c = λ w r made.
    let may = c.requires.may in
    (made.stands may.0 (marked may.1.opened) may.1.seen may.1.stands).known
