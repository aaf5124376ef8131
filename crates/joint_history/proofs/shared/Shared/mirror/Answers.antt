use Rattle.std.proofs.Common.{ℕ, ◌≡◌, ◌<◌, ◌^◌, refl, arith, ◌∙◌}
use Rattle.joint_machine.specs.declared.names.Thread.TheVariants.{C}
use Rattle.joint_machine.specs.declared.events.Op.TheVariants as op
use Rattle.joint_machine.specs.Control.{contracted}
use Rattle.peer_heap.specs.Sides.{seen}
use Rattle.joint_history.specs.DriverMirrors.{DrawsMirror, MakesMirror}
use Rattle.joint_history.proofs.DriverCallers.{known_either}
use Rattle.joint_history.proofs.DriverMirrors.{are_bridges, are_strong, may_mirror, mirror_called}
use Rattle.joint_history.proofs.DriverPeerSteps.{under_peers}
use Rattle.joint_history.proofs.Fitting.{goes_further, either_further, peer_line, peer_may}
use Rattle.joint_history.proofs.shared.Shared.mirror.Goals as goal

pub drive-requires-clause-fits : goal.drive-requires-clause-fits
drive-requires-clause-fits g c =
    let may = c.requires.may in
    let mine = c.args.driver.now.view in
    let index = c.args.index in
    let short : index < 2 ^ 32 = omega (arith, c.ranges.index.fits) in
    let graph = c.args.graph.now in
    let comps = c.args.comps.now in
    record {
      side = omega arith;
      asked = λ order lent mine1 s w. (
          let u = under_peers w.locked mine lent.view mine1 (seen s) index (contracted may.opened may.comps may.heavy may.pairs) may.seen w.pass w.owns w.known_side.0 may.stands w.lends in (
            are_bridges s.state may.opened may.comps may.heavy may.pairs may.seen graph comps u may.listed,
            are_strong s.state may.opened may.comps may.heavy may.pairs may.seen graph comps u may.listed,
            w.known_side.1.none_waits,
            may_mirror s.state may.opened may.comps may.heavy may.pairs may.seen graph comps u may.listed c.args.cycle.0 c.args.snap may.same_cycle may.same_snap,
            peer_may _ C order mine lent mine1 s (op.Mirror c.args.cycle) refl refl w,
            peer_line _ C order mine lent mine1 s w,
          )
          );
      further = λ order lent lent2 s s2 r d. either_further (λ (x : ℕ × ℕ). DrawsMirror order lent lent2 (seen s) (seen s2) index c.args.cycle c.args.snap graph comps x.0 x.1)
          (s2 ≡ s) lent lent2 r (λ x q. goes_further order lent lent2 1 q.drew.kept q.drew.appends) d.1 d.5;
      left = λ order lent lent2 mine1 locked2 mine2 s s2 r w d b.
          (let q = mirror_called w.locked mine mine1 locked2 mine2 order lent lent2 s s2 index w.pass w.owns short w.known_side.0 w.lends b
          c.args.cycle c.args.snap graph comps d.3 d.4 r may w.known_side.1 d.1 d.2 d.5 in ((q.knows, q.reserves, d.0 ∙ w.known_side.2), (q.ok, q.err)));
    }

pub drive-requires-clause-knows : goal.drive-requires-clause-knows
drive-requires-clause-knows g c = λ w r made.
    let may = c.requires.may in
    known_either c.args.driver.now.view w r (λ (x : ℕ × ℕ). MakesMirror c.args.driver.now.view w c.args.index c.args.cycle c.args.snap c.args.graph.now c.args.comps.now x.1 x.0) made.0
    (λ x q. (q may.opened may.comps may.heavy may.pairs may.seen may.stands may.listed may.same_cycle may.same_snap).stands.known) made.1 c.args.index
    (contracted may.opened may.comps may.heavy may.pairs) may.seen may.stands
