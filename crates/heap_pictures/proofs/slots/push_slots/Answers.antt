use Rattle.std.proofs.Common.{◌≡◌, ◌++◌, Some, None, get_or, ap, sym, ◌∙◌, arith}
use Rattle.std.specs.Prelude.{slice_get, Option}
use Rattle.std.proofs.lemmas.Option.{slice_get-get_or}
use Rattle.joint_machine.specs.Heaps.{slot}
use Rattle.heap_pictures.specs.Drawing.{slot_arrow}
use Rattle.heap_pictures.proofs.Ranges.{put_more}
use Rattle.heap_pictures.proofs.slots.push_slots.Goals as goal

pub loop-i-preserved : goal.loop-i-preserved
loop-i-preserved c =
    let xs = c.args.held.now in
    let i = c.loop-i.i in
    let here : slot xs i ≡ get_or xs i None = ap (λ o. elim o [ None ↦ None | Some x ↦ x ]) (slice_get-get_or xs i None c.loop-i-test.true) in
    put_more (λ i. slot_arrow c.args.joint.now c.args.slots i (slot xs i)) 0 i i c.args.arrows.now.items c.loop-i.arrows.items c.push_slot.new.arrows.items (omega arith) c.loop-i.invariant
    (c.in_ok-push_slot.ensures ∙ ap (λ o. c.loop-i.arrows.items ++ slot_arrow c.args.joint.now c.args.slots i o) (sym here))
