-- The marking starts from live rows, so it marks exactly what is reached.
use Rattle.std.proofs.Common.{◌<◌, ◌+◌, All, length, subst, sym}
use Rattle.std.proofs.lemmas.Result.{IfOk-weaker}
use Rattle.joint_replay.specs.Found.{IsBridgeRow}
use Rattle.joint_replay.proofs.Snapshots.{roots-within}
use Rattle.joint_replay.proofs.Finding.{marks-open}
use Rattle.joint_replay.proofs.found.bridge_marks.Goals as goal

pub reached-requires : goal.reached-requires
reached-requires c = record {
  roots = subst (λ z. All (λ y. y < length c.args.heap.now.fields + 1) z) (sym c.deref.ensures.value)
      (roots-within c.args.heap.now c.in_ok-roots.roots.items (λ x k. ((c.in_ok-roots.ensures x).0 k).0));
}

pub returns-clause-marks : goal.returns-clause-marks
returns-clause-marks c =
    let h = c.args.heap.now in
    IfOk-weaker c.reached.result _ _ (λ v marks. marks-open h (IsBridgeRow h c.args.held.now) _ v.items c.in_ok-roots.ensures marks) (rw c.deref.ensures.value at c.reached.ensures.marks)
