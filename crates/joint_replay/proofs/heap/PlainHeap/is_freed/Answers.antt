-- The flag of the object tells.
use Rattle.std.specs.Prelude.{Contains}
use Rattle.std.proofs.Common.{◌↔◌, IsTrue, false, not, ◌≤◌, length, arith, subst}
use Rattle.joint_machine.specs.Heaps.{Heap, is_freed}
use Rattle.heap_rules.proofs.Numbered.{numbered-index}
use Rattle.joint_replay.specs.Plain.{IsFlagged}
use Rattle.joint_replay.proofs.Flags.{IsFlagged-tells, IsFlagged-past, is_freed-exact, same-test}
use Rattle.joint_replay.proofs.heap.PlainHeap.is_freed.Goals as goal
use Rattle.joint_replay.proofs.heap.PlainHeap.is_freed.Goals.{then-x-eq0-via-then-x-eq0, then-x-eq0-via-else-x-eq0+then-x-len}

pub returns-then-x-eq0 : goal.returns-then-x-eq0
returns-then-x-eq0 c =
    let flags = c.self.inside.flags.items in
    let all : IsFlagged c.args.self.now flags = subst (λ (h : Heap). IsFlagged h flags) c.self.view_is c.self.invariant in
    let freed : IsTrue false ↔ Contains c.args.self.now.freed c.args.x = IsFlagged-past c.args.self.now flags c.args.x all (λ low high. elim c.then-x-eq0.branch [
      | then-x-eq0-via-then-x-eq0 w ↦ omega (arith, low, w.if-x-eq0.true)
      | then-x-eq0-via-else-x-eq0+then-x-len w ↦ omega (arith, high, w.if-x-len.true, w.len.ensures, c.self.inside.flags.ok)
    ]) in
    record { freed = freed; test = same-test (Contains c.args.self.now.freed c.args.x) false (is_freed c.args.self.now c.args.x) freed (is_freed-exact c.args.self.now c.args.x) }

pub returns : goal.returns
returns c =
    let flags = c.self.inside.flags.items in
    let all : IsFlagged c.args.self.now flags = subst (λ (h : Heap). IsFlagged h flags) c.self.view_is c.self.invariant in
    let low : 1 ≤ c.args.x = omega (arith, c.if-x-eq0.false) in
    let high : c.args.x ≤ length flags = omega (arith, c.if-x-len.false, c.len.ensures, c.self.inside.flags.ok) in
    let freed : IsTrue (not c.index.result.now) ↔ Contains c.args.self.now.freed c.args.x = IsFlagged-tells c.args.self.now flags c.args.x c.index.result.now all
    (numbered-index flags c.args.x c.index.result.now low high c.index.ensures) in
    record { freed = freed; test = same-test (Contains c.args.self.now.freed c.args.x) (not c.index.result.now) (is_freed c.args.self.now c.args.x) freed (is_freed-exact c.args.self.now c.args.x) }
