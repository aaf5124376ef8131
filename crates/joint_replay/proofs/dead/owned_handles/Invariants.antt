-- The handles that the objects so far hold are marked.
use Rattle.std.proofs.Common.{◌≡◌, ℕ, ◌+◌, ◌↔◌, length}
use Rattle.reachability.specs.Marks.{HasMark}
use Rattle.joint_marking.specs.Owned.{IsOwnedBelow}
use Rattle.joint_replay.proofs.dead.owned_handles.Given as goal

abbrev pub invariant-loop-m : goal.invariant-loop-m
invariant-loop-m l = record {
  len : length l.owned.items ≡ l.handles + 1;
  exact : (h : ℕ) → HasMark l.owned.items h ↔ IsOwnedBelow l.managed l.m (l.handles + 1) h;
}
