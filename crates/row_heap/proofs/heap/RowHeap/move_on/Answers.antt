-- The next object was made and isn't live, so it is freed.
use Rattle.std.proofs.Common.{◌+◌, length, map, arith, ap, sym, subst, ◌∙◌}
use Rattle.std.proofs.lemmas.Bool.{true≢false}
use Rattle.row_heap.specs.Rows.{HeapRows, heap_of}
use Rattle.joint_machine.specs.Heaps.{IsLive}
use Rattle.row_heap.proofs.Gone.{gone-next}
use Rattle.row_heap.proofs.Sound.{made-seen}
use Rattle.row_heap.proofs.heap.RowHeap.move_on.Goals as goal

pub loop-gone-preserved : goal.loop-gone-preserved
loop-gone-preserved g c =
    let h = heap_of c.self.inside.rows (map g.N.Number.number c.self.inside.freed.items) c.self.inside.vars c.self.inside.statics in
    gone-next h c.loop-gone.gone c.loop-gone.invariant (omega (arith, c.loop-gone-test.true, c.made.ensures.made, ap (λ (v : HeapRows). length v.heap.fields) c.self.view_is))
    (λ l. true≢false (sym (c.is_live.ensures.1 (subst (λ (v : HeapRows). IsLive v.heap (c.loop-gone.gone + 1)) c.self.view_is l)) ∙ c.if-not-is_live.true))

pub loop-gone-init : goal.loop-gone-init
loop-gone-init g c = c.self.invariant.1

pub overflow_add-gone : goal.overflow_add-gone
overflow_add-gone g c = omega (arith, c.loop-gone-test.true, c.made.ensures.most)

pub overflow_add-gone-in-loop-gone : goal.overflow_add-gone-in-loop-gone
overflow_add-gone-in-loop-gone g c = omega (arith, c.loop-gone-test.true, c.made.ensures.most)

pub loop-gone-smaller : goal.loop-gone-smaller
loop-gone-smaller g c = omega (arith, c.loop-gone-test.true, c.made.ensures.made, made-seen _ _ _ _ c.self.inside.references _ c.args.self.now c.self.view_is)

pub invariant_of-self : goal.invariant_of-self
invariant_of-self g c = (c.self.invariant.0, c.loop-gone.invariant, c.self.invariant.2)

pub returns : goal.returns
returns g c = c.self.view_is
