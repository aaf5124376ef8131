-- The peers so far are marked.
use Rattle.std.proofs.Common.{◌≡◌, ℕ, ◌+◌, ◌↔◌, length, take}
use Rattle.std.specs.Prelude.{Contains}
use Rattle.joint_machine.specs.Histories.{peer_numbers}
use Rattle.reachability.specs.Marks.{HasMark}
use Rattle.joint_replay.proofs.dead.marks_of.Given as goal

abbrev pub invariant-loop-p : goal.invariant-loop-p
invariant-loop-p l = record {
  len : length l.marks.items ≡ l.made + 1;
  exact : (k : ℕ) → HasMark l.marks.items k ↔ Contains (peer_numbers (take l.p-index l.dead)) k;
}
