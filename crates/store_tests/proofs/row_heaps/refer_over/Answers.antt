-- What the two references lead to is the second object, which is live.
use Rattle.std.proofs.Common.{◌∙◌, ◌++◌, [], ◌∷◌, ap, subst, sym}
use Rattle.joint_machine.specs.Components.{node, temporary}
use Rattle.joint_machine.specs.Heaps.{Heap, IsLive}
use Rattle.row_heap.specs.Rows.{HeapRows}
use Rattle.store_tests.proofs.Over.{over-ends}
use Rattle.store_tests.proofs.row_heaps.refer_over.Goals as goal

pub returns-clause-ends : goal.returns-clause-ends
returns-clause-ends c =
    let ok = c.in_ok-reserve_references.ensures.ok in
    let added = c.add_references.ensures in
    let both = (node c.args.first, temporary 0) ∷ (temporary 0, node c.args.second) ∷ [] in
    let refs = ap (λ (v : HeapRows). v.refs) added ∙ ap (λ l. l ++ both) (ap (λ (v : HeapRows). v.refs) ok ∙ c.requires.none) in
    let heap = ap (λ (v : HeapRows). v.heap) added ∙ ap (λ (v : HeapRows). v.heap) ok in
    λ p q r live. subst (λ (h : Heap). IsLive h q) (sym heap) (subst (IsLive c.args.heap.now.heap) (over-ends _ c.args.first c.args.second refs p q r) c.requires.second)
