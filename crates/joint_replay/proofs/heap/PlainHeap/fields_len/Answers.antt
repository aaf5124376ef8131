-- The row of the object is the Vec at its index.
use Rattle.std.proofs.Common.{◌≡◌, ◌∙◌, refl, sym, ap, length, map, arith}
use Rattle.std.proofs.lemmas.List.{length-map}
use Rattle.joint_machine.specs.Heaps.{Heap, IsMade}
use Rattle.heap_rules.proofs.Numbered.{fields-read}
use Rattle.joint_replay.proofs.heap.PlainHeap.fields_len.Goals as goal

pub returns : goal.returns
returns c =
    let r = c.index.result.now in
    let seen : length (map (λ v. v.items) c.self.inside.fields.items) ≡ length c.args.self.now.fields = ap (λ (h : Heap). length h.fields) c.self.view_is in
    let made : IsMade c.args.self.now c.args.x = (
      omega (arith, c.if-x-eq0.false),
      omega (arith, c.if-x-len.false, c.len.ensures, seen, c.self.inside.fields.ok, length-map c.self.inside.fields.items (λ v. v.items)),
    ) in
    c.len-2.ensures ∙ (r.ok.0 ∙ ap length (sym (fields-read (λ v. v.items) c.self.inside.fields.items _ c.args.self.now c.args.x r c.self.view_is refl made c.index.ensures)))
