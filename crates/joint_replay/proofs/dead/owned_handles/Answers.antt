-- Each turn asks one object more, and marks the handle that it holds if it is live.
use Rattle.std.proofs.Common.{arith, ◌≡◌, ◌+◌, ◌∙◌, ◌++◌, length, take, drop}
use Rattle.std.proofs.lemmas.List.{take_all, take-append-le}
use Rattle.joint_machine.specs.Heaps.{IsLive}
use Rattle.joint_machine.proofs.Deciding.{test-false}
use Rattle.joint_marking.proofs.Owning.{owned-push, owned-skip}
use Rattle.joint_replay.proofs.dead.owned_handles.Goals as goal
use Rattle.joint_replay.proofs.dead.owned_handles.Goals.{then-is_live, else-is_live}

pub loop-m-preserved : goal.loop-m-preserved
loop-m-preserved c =
    let s = c.args.managed.now in
    let n = c.args.handles + 1 in
    let now = c.loop-m.owned in
    let m = c.loop-m.m in
    elim c.if-is_live.branch [
      | then-is_live w ↦
          let new = w.mark_held.new.owned in
          let len : length new ≡ now.len = omega (arith, w.mark_held.ensures.len, w.deref_mut.ensures.len) in
          let whole : take now.len (new ++ drop (length new) now.items) ≡ new = take-append-le _ new (drop (length new) now.items) (omega arith) ∙ take_all _ new (omega arith) in
          rw (w.owned-is, whole) (record {
            len = omega (arith, len, now.ok, c.loop-m.invariant.len);
            exact = owned-push s m now.items new n c.loop-m.invariant.len c.loop-m.invariant.exact (rw w.deref_mut.ensures.value at w.mark_held.ensures.marks);
          })
      | else-is_live w ↦ rw w.owned-is (record {
        len = c.loop-m.invariant.len;
        exact = owned-skip s m now.items n (test-false (IsLive s.heap m) _ (rw c.heap-heap.ensures at c.is_live.ensures.live) w.if-is_live.false) c.loop-m.invariant.exact;
      })
    ]
