-- Only references and their room change, so the parts fit as before.
use Rattle.std.proofs.Common.{◌≡◌, ℕ, ◌-◌, ◌++◌, false, length, map, sym, ap, ◌∙◌}
use Rattle.std.proofs.lemmas.List.{length-map}
use Rattle.row_heap.specs.Ends.{ends_of}
use Rattle.row_heap.specs.Rows.{HeapRows}
use Rattle.peer_heap.specs.Rows.{rows_with}
use Rattle.peer_heap.proofs.Fitting.{ArePeerRows-marked}
use Rattle.peer_heap.proofs.rows.PeerRows.stand.Goals as goal

pub add_references-requires-clause-ends : goal.add_references-requires-clause-ends
add_references-requires-clause-ends c = rw (← c.self.view_is) at c.requires.ends

pub add_references-requires-clause-room : goal.add_references-requires-clause-room
add_references-requires-clause-room c = rw (← c.self.view_is) at c.requires.room

pub invariant_of-self : goal.invariant_of-self
invariant_of-self c = ArePeerRows-marked c.self.inside.heap c.add_references.new.self _ _ _ (ap (λ (v : HeapRows). v.heap.fields) c.add_references.ensures) c.self.invariant

pub returns : goal.returns
returns c =
    let i = c.self.inside in
    let refs = c.args.refs.now in
    let stood : ℕ → HeapRows = λ n. record i.heap { refs = i.heap.refs ++ map ends_of refs; follows = false; room = i.heap.room - n } in
    let put : c.add_references.new.self ≡ stood (length (map ends_of refs)) = c.add_references.ensures ∙ ap stood (sym (length-map refs ends_of)) in
    rw (← c.self.view_is) (ap (λ (w : HeapRows). rows_with w i.sorts.items i.names i.issued i.table) put)
