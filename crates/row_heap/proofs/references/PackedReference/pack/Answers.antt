-- Both ends have their numbers.
use Rattle.std.proofs.Common.{◌∙◌, ap}
use Rattle.row_heap.specs.declared.references.End.{End}
use Rattle.row_heap.specs.declared.references.Reference.{Reference}
use Rattle.row_heap.specs.Packed.{unpacked}
use Rattle.row_heap.proofs.references.PackedReference.pack.Goals as goal

pub returns : goal.returns
returns c =
    let r = c.args.reference in
    ap (λ (e : End). (let z : Reference = record { from = e; to = unpacked c.pack_end-to.result; next = r.next } in z)) c.pack_end-from.ensures
    ∙ ap (λ (e : End). (let z : Reference = record { from = r.from; to = e; next = r.next } in z)) c.pack_end-to.ensures
