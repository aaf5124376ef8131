-- The row of the object is written at the index of its Vec.
use Rattle.std.proofs.Common.{◌≡◌, ◌∙◌, refl, ap, length, map, arith}
use Rattle.joint_machine.specs.Heaps.{IsMade, fields_of}
use Rattle.joint_machine.proofs.Numbered.{numbered_set-length}
use Rattle.heap_rules.proofs.Numbered.{fields-read, map-set_number}
use Rattle.heap_rules.proofs.Sound.{write-is}
use Rattle.joint_replay.proofs.Flags.{IsFlagged-as, fields_of-made}
use Rattle.joint_replay.proofs.heap.PlainHeap.write.Goals as goal

pub index_mut-requires-2 : goal.index_mut-requires-2
index_mut-requires-2 c =
    let p = c.args.place.now in
    let r = c.index_mut.result.now in
    let made : IsMade c.args.self.now p.object = fields_of-made c.args.self.now p.object p.field c.requires in
    omega (arith, c.requires, r.ok, ap length (fields-read (λ v. v.items) c.self.inside.fields.items _ c.args.self.now p.object r c.self.view_is refl made c.index_mut.ensures.value))

pub invariant_of-self : goal.invariant_of-self
invariant_of-self c =
    let p = c.args.place.now in
    let made : IsMade c.args.self.now p.object = fields_of-made c.args.self.now p.object p.field c.requires in
    IsFlagged-as _ _ c.self.inside.flags.items c.self.invariant
    (ap length (map-set_number (λ v. v.items) c.self.inside.fields.items p.object _ made.0) ∙ numbered_set-length (map (λ v. v.items) c.self.inside.fields.items) p.object _) refl refl refl

pub returns : goal.returns
returns c =
    let p = c.args.place.now in
    let r = c.index_mut.result.now in
    let made : IsMade c.args.self.now p.object = fields_of-made c.args.self.now p.object p.field c.requires in
    let same : fields_of c.args.self.now p.object ≡ r.items = fields-read (λ v. v.items) c.self.inside.fields.items _ c.args.self.now p.object r c.self.view_is refl made c.index_mut.ensures.value in
    write-is _ c.args.self.now p.object p.field p.value r.items _ c.self.view_is same
    (map-set_number (λ v. v.items) c.self.inside.fields.items p.object _ made.0)
