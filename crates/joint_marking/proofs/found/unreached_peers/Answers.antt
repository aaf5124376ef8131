-- The rows have the joint edges and the roots are the joint roots, so what isn't marked isn't reached.
use Rattle.std.proofs.Common.{◌<◌, length, subst, sym}
use Rattle.std.specs.Prelude.{All}
use Rattle.joint_marking.proofs.Reaching.{AreUnreached-from, listed-or-reached, roots-within}
use Rattle.joint_marking.proofs.found.unreached_peers.Goals as goal

pub reached-requires : goal.reached-requires
reached-requires g c = record {
  roots = subst (λ z. All (λ y. y < length c.in_ok-rows.rows) z) (sym c.deref.ensures.value)
      (roots-within (g.G.JointWalked.graph c.args.g.now) c.in_ok-roots.roots.items (length c.in_ok-rows.rows) c.in_ok-rows.ensures.len c.in_ok-roots.ensures);
}

pub returns-clause-exact : goal.returns-clause-exact
returns-clause-exact g c = AreUnreached-from (g.G.JointWalked.graph c.args.g.now) c.in_ok-rows.rows c.in_ok-roots.roots.items c.in_ok-marks.marks.items _ c.in_ok-rows.ensures c.in_ok-roots.ensures
    (rw c.deref.ensures.value at c.in_ok-marks.ensures.marks) (rw c.deref-2.ensures.value at c.in_ok-dead.ensures)

pub returns-clause-decides : goal.returns-clause-decides
returns-clause-decides g c = listed-or-reached (g.G.JointWalked.graph c.args.g.now) c.in_ok-rows.rows c.in_ok-roots.roots.items c.in_ok-marks.marks.items _ c.in_ok-rows.ensures c.in_ok-roots.ensures
    (rw c.deref.ensures.value at c.in_ok-marks.ensures.marks) (rw c.deref-2.ensures.value at c.in_ok-dead.ensures)
