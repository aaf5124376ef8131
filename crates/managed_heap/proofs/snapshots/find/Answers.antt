-- The white rows are parted by their handles and by their marks.
use Rattle.std.proofs.Common.{◌∙◌, ℕ, List, ap, arith, length, subst}
use Rattle.std.specs.Prelude.{Contains}
use Rattle.joint_machine.specs.Histories.{managed_numbers}
use Rattle.managed_heap.proofs.FieldRoom.{white-few}
use Rattle.managed_heap.proofs.Gathering.{picked-live}
use Rattle.managed_heap.proofs.Lists.{unmarked-numbers}
use Rattle.managed_heap.proofs.snapshots.find.Goals as goal

pub bring_back_all-requires-clause-live : goal.bring_back_all-requires-clause-live
bring_back_all-requires-clause-live c =
    let picked = rw c.deref.ensures.value at c.pick-candidates.ensures in
    λ m k. picked-live c.args.heap.now (managed_numbers c.whites-freed.result.items) c.pick-candidates.result.items _ m c.whites-freed.ensures picked
    (subst (λ (xs : List ℕ). Contains xs m) c.deref-2.ensures.value k)

pub returns-clause-finds : goal.returns-clause-finds
returns-clause-finds c = record {
  white = managed_numbers c.whites-freed.result.items;
  are_white = c.whites-freed.ensures;
  picked = rw c.deref.ensures.value at c.pick-candidates.ensures;
  marks = rw c.deref-2.ensures.value at c.bring_back_all.ensures.marks;
  shut = c.bring_back_all.ensures.shut;
  left = rw c.deref-3.ensures.value at c.marked_rows-dead.ensures;
  goes = ap managed_numbers c.keep_unmarked.ensures ∙ unmarked-numbers c.bring_back_all.new.heap.marks c.whites-freed.result.items;
}

-- there are at most as many white rows as were made
pub pick-candidates-requires-clause-room : goal.pick-candidates-requires-clause-room
pick-candidates-requires-clause-room c =
    let few = white-few c.args.heap.now c.whites-freed.result.items c.whites-freed.ensures in
    omega (arith, few, c.requires.room.1, ap length c.deref.ensures.value)

pub marked_rows-dead-requires-clause-room : goal.marked_rows-dead-requires-clause-room
marked_rows-dead-requires-clause-room c =
    let few = white-few c.args.heap.now c.whites-freed.result.items c.whites-freed.ensures in
    omega (arith, few, c.requires.room.2, ap length c.deref-3.ensures.value)
