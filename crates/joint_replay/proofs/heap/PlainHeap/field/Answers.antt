-- The row of the object is the Vec at its index.
use Rattle.std.proofs.Common.{◌≡◌, List, Option, ℕ, get_or, refl, sym, ap, subst, length, arith}
use Rattle.joint_machine.specs.Heaps.{IsMade, fields_of}
use Rattle.heap_rules.proofs.Numbered.{fields-read, slot-read}
use Rattle.joint_replay.proofs.Flags.{fields_of-made}
use Rattle.joint_replay.proofs.heap.PlainHeap.field.Goals as goal

pub index-requires-2 : goal.index-requires-2
index-requires-2 c =
    let r = c.index.result.now in
    let made : IsMade c.args.self.now c.args.x = fields_of-made c.args.self.now c.args.x c.args.i c.requires in
    omega (arith, c.requires, r.ok, ap length (fields-read (λ v. v.items) c.self.inside.fields.items _ c.args.self.now c.args.x r c.self.view_is refl made c.index.ensures))

pub returns : goal.returns
returns c =
    let r = c.index.result.now in
    let made : IsMade c.args.self.now c.args.x = fields_of-made c.args.self.now c.args.x c.args.i c.requires in
    let same : fields_of c.args.self.now c.args.x ≡ r.items = fields-read (λ v. v.items) c.self.inside.fields.items _ c.args.self.now c.args.x r c.self.view_is refl made c.index.ensures in
    slot-read (fields_of c.args.self.now c.args.x) c.args.i c.index-2.result.now c.requires
    (subst (λ (l : List (Option ℕ)). c.index-2.result.now ≡ get_or l c.args.i c.index-2.result.now) (sym same) c.index-2.ensures)
