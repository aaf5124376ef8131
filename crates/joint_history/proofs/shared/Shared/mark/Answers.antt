-- A marking that was open is ended first, in the same hold of the lock.
use Rattle.std.proofs.Common.{false, ◌<◌, ◌^◌, refl, arith, ◌∙◌}
use Rattle.joint_machine.specs.declared.names.Thread.TheVariants.{C}
use Rattle.joint_machine.specs.declared.events.Op.TheVariants as op
use Rattle.joint_history.proofs.DriverMarks.{leaves_none, marked_under, may_begin}
use Rattle.joint_history.proofs.Fitting.{further_then, goes_further, peer_line, peer_may}
use Rattle.joint_history.proofs.Reserving.{marking_is_due}
use Rattle.joint_history.proofs.shared.Shared.mark.Goals as goal

pub drive-requires-clause-fits : goal.drive-requires-clause-fits
drive-requires-clause-fits g c =
    let may = c.requires.may in
    let mine = c.args.driver.now.view in
    let index = c.args.index in
    let short : index < 2 ^ 32 = omega (arith, c.ranges.index.fits) in
    record {
      side = omega arith;
      asked = λ order lent mine1 s w. (
        marking_is_due w.locked mine lent.view mine1 s index may.opened may.count may.weakened false may.seen w.pass w.owns w.known_side.0 w.known_side.1 may.stands w.lends,
        peer_may _ C order mine lent mine1 s op.Sweep refl refl w,
        peer_may _ C order mine lent mine1 s op.Begin refl refl w,
        peer_line _ C order mine lent mine1 s w,
      );
      further = λ order lent lent2 s s2 r d. further_then lent d.between lent2 (leaves_none order lent d.between s d.cleared index r.ended d.ends).further
          (goes_further order d.between lent2 1 d.begins.kept d.begins.appends);
      left = λ order lent lent2 mine1 locked2 mine2 s s2 r w d b.
          (
          let due = marking_is_due w.locked mine lent.view mine1 s index may.opened may.count may.weakened false may.seen w.pass w.owns w.known_side.0 w.known_side.1 may.stands w.lends in
          let q = marked_under w.locked mine mine1 locked2 mine2 order lent d.between lent2 s d.cleared s2 index r.number r.marking r.ended
          w.pass w.owns short w.known_side.0 w.known_side.1 may w.lends d.ends d.begins d.reserve due b in (
            (q.knows, q.reserves, d.threads ∙ ((leaves_none order lent d.between s d.cleared index r.ended d.ends).threads ∙ w.known_side.2)),
            record { between = q.makes.between; ends = q.makes.ends; begins = q.makes.begins },
          )
          );
    }

pub drive-requires-clause-knows : goal.drive-requires-clause-knows
drive-requires-clause-knows g c = λ w r made.
    let n = may_begin c.args.driver.now.view made.between c.args.index r.ended made.ends c.requires.may in
    (made.begins n.opened n.count n.weakened n.swept n.seen n.stands n.all).stands.known
