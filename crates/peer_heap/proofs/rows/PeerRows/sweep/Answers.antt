-- What is freed had no mark, so only weak handles name it.
use Rattle.std.proofs.Common.{◌≡◌, ◌∙◌, drop, map, length, ap, subst}
use Rattle.std.specs.Prelude.{Contains}
use Rattle.std.proofs.lemmas.List.{length-map}
use Rattle.joint_machine.specs.Heaps.{Heap, with_freed}
use Rattle.joint_machine.specs.PeerReplay.{cleared_rows}
use Rattle.peer_heap.specs.Marking.{cleared_on}
use Rattle.peer_heap.specs.Rows.{issued_as, table_to}
use Rattle.peer_heap.proofs.Fitting.{ArePeerRows-cleared, freed-end, rows-as}
use Rattle.peer_heap.proofs.Whole.{weak-rows}
use Rattle.peer_heap.proofs.rows.PeerRows.sweep.Goals as goal

pub sweep-requires-clause-shut : goal.sweep-requires-clause-shut
sweep-requires-clause-shut c = rw (← c.self.view_is) at c.requires.shut

pub clear_freed-requires : goal.clear_freed-requires
clear_freed-requires c =
    let table = c.self.inside.table in
    let ends = freed-end c.freed-before.result.now c.freed.result.now _ _ c.freed-before.ensures c.freed.ensures in
    weak-rows c.self.inside.heap.marks table.rows c.self.inside.issued table.last _ c.self.invariant.rising
    c.self.invariant.places c.self.invariant.rows_issued (rw (← c.self.view_is) at c.requires.strong_ones)
    (λ p k m. ((c.sweep.ensures.white.exact p).0 (subst (λ l. Contains l p) ends k)).1 m)

pub invariant_of-self : goal.invariant_of-self
invariant_of-self c = ArePeerRows-cleared c.self.inside.heap c.sweep.new.self _ _ c.self.inside.table c.clear_freed.new.table _
    (ap (λ (h : Heap). h.fields) c.sweep.ensures.heap) c.clear_freed.ensures.rows c.clear_freed.ensures.last c.clear_freed.ensures.rising c.self.invariant

pub returns-clause-rest : goal.returns-clause-rest
returns-clause-rest c =
    let v = c.self.inside.heap in
    let table = c.self.inside.table in
    let new = c.sweep.new.self in
    let ends = freed-end c.freed-before.result.now c.freed.result.now v.heap.freed new.heap.freed c.freed-before.ensures c.freed.ensures in
    let rows : new ≡ record v { heap = with_freed v.heap (drop (length v.heap.freed) new.heap.freed); links = new.links } = c.sweep.ensures.rest
    ∙ ap (λ (h : Heap). record v { heap = h; links = new.links }) c.sweep.ensures.heap in
    let cleared = c.clear_freed.ensures.cleared c.self.inside.issued c.self.invariant.places c.self.invariant.rows_issued
    ∙ ap (λ l. cleared_rows l (map issued_as c.self.inside.issued) (table_to table.rows table.last)) ends in
    rw (← c.self.view_is) (rows-as v new _ c.self.inside.sorts.items c.self.inside.names c.self.inside.issued table c.clear_freed.new.table _ rows c.clear_freed.ensures.made cleared
    (ap length c.clear_freed.ensures.rows ∙ length-map table.rows (cleared_on _)))
