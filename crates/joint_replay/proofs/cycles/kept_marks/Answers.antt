-- The marking begins at the kept candidates.
use Rattle.std.proofs.Common.{◌≡◌, ◌∙◌}
use Rattle.std.specs.Prelude.{filter}
use Rattle.joint_replay.specs.Snaps.{keeps}
use Rattle.joint_replay.proofs.Snapping.{kept-within}
use Rattle.joint_replay.proofs.cycles.kept_marks.Goals as goal

pub reached-requires : goal.reached-requires
reached-requires c = record {
  roots = rw (c.deref.ensures.value, c.heap.ensures)
      (kept-within c.args.managed.now c.args.peers.now c.args.candidates.now c.in_ok-kept.kept.items c.in_ok-kept.ensures c.requires);
}

pub returns : goal.returns
returns c =
    let roots : c.deref.result.now ≡ filter (keeps c.args.managed.now c.args.peers.now) c.args.candidates.now = c.deref.ensures.value ∙ c.in_ok-kept.ensures in
    rw (roots, c.heap.ensures) at c.reached.ensures.marks
