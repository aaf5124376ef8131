-- One more handle is done in each turn.
use Rattle.std.proofs.Common.{◌≡◌, ◌∙◌, length, take, refl, sym, ap, subst, arith}
use Rattle.std.specs.Prelude.{Contains}
use Rattle.std.proofs.lemmas.List.{take_all}
use Rattle.joint_machine.specs.Heaps.{Heap, IsLive}
use Rattle.row_marking.specs.Traces.{Greyed}
use Rattle.row_heap.specs.Rows.{HeapRows}
use Rattle.peer_heap.specs.Marking.{strong_in}
use Rattle.peer_heap.proofs.Roots.{Greyed-begins, Greyed-row, strong-in}
use Rattle.peer_heap.proofs.marking.visit_strong.Goals as goal

pub visit_row-requires : goal.visit_row-requires
visit_row-requires c =
    let p = c.nth.result.peer.0 in
    record {
      live = λ strong. subst (λ (h : Heap). IsLive h p) (sym (ap (λ (v : HeapRows). v.heap) c.loop-i.invariant.rest))
          (c.requires.live p (strong-in c.args.table.now.rows c.loop-i.i c.nth.result c.nth.ensures strong));
    }

pub loop-i-init : goal.loop-i-init
loop-i-init c = record { rest = refl; greyed = Greyed-begins c.args.table.now.rows c.args.heap.now.marks c.args.heap.now.links c.args.grey.now }

pub loop-i-preserved : goal.loop-i-preserved
loop-i-preserved c = record {
  rest = c.visit_row.ensures.rest ∙ ap (λ (w : HeapRows). record w { marks = c.visit_row.new.heap.marks; links = c.visit_row.new.heap.links }) c.loop-i.invariant.rest;
  greyed = Greyed-row c.args.table.now.rows c.loop-i.i c.nth.result _ _ _ _ _ _ _ _ _ c.nth.ensures c.loop-i.invariant.greyed c.visit_row.ensures.greyed;
}

pub returns-clause-greyed : goal.returns-clause-greyed
returns-clause-greyed c =
    let rows = c.args.table.now.rows in
    let all : c.loop-i.i ≡ length rows = omega (arith, c.loop-i-test.false, c.len-i-end.ensures.len, c.loop-i.auto) in
    let whole : take c.loop-i.i rows ≡ rows = take_all c.loop-i.i rows (omega (arith, all)) in
    subst (λ l. Greyed (Contains (strong_in l)) c.args.heap.now.marks c.args.heap.now.links c.args.grey.now c.loop-i.heap.marks c.loop-i.heap.links c.loop-i.grey) whole c.loop-i.invariant.greyed
