-- One more slot is done in each turn: what it names is marked, or it names nothing.
use Rattle.std.proofs.Common.{◌≡◌, ◌∙◌, ◌≤◌, ◌<◌, length, Some, None, ap, subst, arith}
use Rattle.std.proofs.lemmas.List.{take_all}
use Rattle.joint_machine.specs.Heaps.{slot}
use Rattle.row_marking.proofs.Greys.{Greyed-push_some, Greyed-push_none}
use Rattle.row_heap.specs.Rows.{HeapRows}
use Rattle.row_heap.proofs.Edges.{rest-kept}
use Rattle.row_heap.proofs.heap.RowHeap.visit_statics.Goals as goal
use Rattle.row_heap.proofs.heap.RowHeap.visit_statics.Goals.{in-Some, in_default}
use Rattle.joint_machine.proofs.Numbered.{slot-at}
use Rattle.joint_machine.proofs.Members.{take-next}

pub loop-s-preserved : goal.loop-s-preserved
loop-s-preserved g c =
    let xs = c.args.self.now.heap.statics in
    let same = ap (λ (v : HeapRows). v.heap.statics) c.loop-s.invariant.kept in
    let within : c.loop-s.s < length xs = omega (arith, c.recall_tidy.ensures.statics, c.loop-s-test.true) in
    elim c.match-static_at.branch [
      | in-Some w ↦ record {
        kept = rw w.self-is (w.visit.ensures.kept ∙ c.loop-s.invariant.kept);
        greyed = rw (
          w.self-is,
          w.grey-is,
          take-next xs c.loop-s.s (Some w.in-Some.x)
              (slot-at xs c.loop-s.s (Some w.in-Some.x) within (subst (λ l. slot l c.loop-s.s ≡ Some w.in-Some.x) same w.in-Some.ensures.value)),
        )
            (Greyed-push_some _ _ _ _ _ _ _ _ _ _ _ c.loop-s.invariant.greyed w.visit.ensures.greyed);
      }
      | in_default w ↦ record {
        kept = rw w.self-is c.loop-s.invariant.kept;
        greyed = rw (w.self-is, w.grey-is, take-next xs c.loop-s.s None (slot-at xs c.loop-s.s None within (subst (λ l. slot l c.loop-s.s ≡ None) same w.in_default.ensures.value)))
            (Greyed-push_none _ _ _ _ _ _ _ c.loop-s.invariant.greyed);
      }
    ]

pub returns-clause-greyed : goal.returns-clause-greyed
returns-clause-greyed g c =
    let xs = c.args.self.now.heap.statics in
    let all : length xs ≤ c.loop-s.s = omega (arith, c.recall_tidy.ensures.statics, c.loop-s-test.false) in
    rw take_all at c.loop-s.invariant.greyed

pub returns-clause-rest : goal.returns-clause-rest
returns-clause-rest g c = rest-kept c.args.self.now c.loop-s.self c.loop-s.invariant.kept

pub visit-requires-clause-some : goal.visit-requires-clause-some
visit-requires-clause-some g c = c.in-Some.ensures.live.made.0

pub visit-requires-clause-row : goal.visit-requires-clause-row
visit-requires-clause-row g c = c.in-Some.ensures.live

pub loop-s-smaller : goal.loop-s-smaller
loop-s-smaller g c = omega (arith, c.loop-s-test.true)
