-- The flag of the object tells, as the test of the definitions does.
use Rattle.std.proofs.Common.{◌≤◌, ◌↔◌, IsTrue, false, length, arith, subst}
use Rattle.joint_machine.specs.Heaps.{Heap, IsLive}
use Rattle.heap_rules.proofs.Numbered.{numbered-index}
use Rattle.joint_replay.specs.Plain.{IsFlagged, is_live}
use Rattle.joint_replay.proofs.Flags.{IsFlagged-live, IsFlagged-unmade, is_live-exact, same-test}
use Rattle.joint_replay.proofs.heap.PlainHeap.is_live.Goals as goal
use Rattle.joint_replay.proofs.heap.PlainHeap.is_live.Goals.{then-x-eq0-via-then-x-eq0, then-x-eq0-via-else-x-eq0+then-x-len}

pub returns-then-x-eq0 : goal.returns-then-x-eq0
returns-then-x-eq0 c =
    let h = c.args.self.now in
    let flags = c.self.inside.flags.items in
    let all : IsFlagged h flags = subst (λ (k : Heap). IsFlagged k flags) c.self.view_is c.self.invariant in
    let live : IsTrue false ↔ IsLive h c.args.x = IsFlagged-unmade h flags c.args.x all (λ low high. elim c.then-x-eq0.branch [
      | then-x-eq0-via-then-x-eq0 w ↦ omega (arith, low, w.if-x-eq0.true)
      | then-x-eq0-via-else-x-eq0+then-x-len w ↦ omega (arith, high, w.if-x-len.true, w.len.ensures, c.self.inside.flags.ok)
    ]) in
    record { live = live; test = same-test (IsLive h c.args.x) false (is_live h c.args.x) live (is_live-exact h c.args.x) }

pub returns : goal.returns
returns c =
    let h = c.args.self.now in
    let flags = c.self.inside.flags.items in
    let all : IsFlagged h flags = subst (λ (k : Heap). IsFlagged k flags) c.self.view_is c.self.invariant in
    let low : 1 ≤ c.args.x = omega (arith, c.if-x-eq0.false) in
    let high : c.args.x ≤ length flags = omega (arith, c.if-x-len.false, c.len.ensures, c.self.inside.flags.ok) in
    let live : IsTrue c.index.result.now ↔ IsLive h c.args.x = IsFlagged-live h flags c.args.x c.index.result.now all low high
    (numbered-index flags c.args.x c.index.result.now low high c.index.ensures) in
    record { live = live; test = same-test (IsLive h c.args.x) c.index.result.now (is_live h c.args.x) live (is_live-exact h c.args.x) }
