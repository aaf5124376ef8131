-- Only marks and references change, so the parts fit as before.
use Rattle.std.proofs.Common.{◌≡◌, true, [], ap, sym, subst, ◌∙◌}
use Rattle.row_heap.specs.Marks.{IsReferred}
use Rattle.row_heap.specs.Rows.{HeapRows}
use Rattle.row_marking.specs.Traces.{Greyed}
use Rattle.peer_heap.specs.Mirroring.{with_cleared}
use Rattle.peer_heap.specs.Rows.{Rows, rows_with}
use Rattle.peer_heap.proofs.Fitting.{ArePeerRows-marked}
use Rattle.peer_heap.proofs.rows.PeerRows.clear_refs.Goals as goal

pub shade_refs-requires : goal.shade_refs-requires
shade_refs-requires c = c.requires

pub invariant_of-self : goal.invariant_of-self
invariant_of-self c = ArePeerRows-marked c.self.inside.heap c.clear_references.new.self _ _ _ (ap (λ (v : HeapRows). v.heap.fields) c.clear_references.ensures) c.self.invariant

pub returns-clause-rest : goal.returns-clause-rest
returns-clause-rest c =
    let i = c.self.inside in
    let mid = c.self.view_is ∙ c.shade_refs.ensures.rest in
    let same = c.clear_references.ensures ∙ ap (λ (z : Rows). record z.rows { refs = [] }) c.self.view_is in
    ap (λ (v : HeapRows). rows_with v i.sorts.items i.names i.issued i.table) c.clear_references.ensures
    ∙ (ap (λ (z : Rows). record z { rows = record z.rows { refs = [] } }) mid ∙ ap (λ (v : HeapRows). with_cleared c.args.self.now v) (sym same))

pub returns-clause-shaded : goal.returns-clause-shaded
returns-clause-shaded c =
    let heap = ap (λ (z : Rows). z.rows) c.self.view_is in
    let same = c.clear_references.ensures ∙ ap (λ (v : HeapRows). record v { refs = [] }) heap in
    subst (λ (v : HeapRows). Greyed (λ k. (c.args.is_open ≡ true) × IsReferred c.args.self.now.rows k) c.args.self.now.rows.marks
    c.args.self.now.rows.links c.args.grey.now v.marks v.links c.shade_refs.new.grey) (sym same) c.shade_refs.ensures.shaded
