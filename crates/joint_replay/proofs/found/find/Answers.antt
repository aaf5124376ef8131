-- Both markings mark exactly what is reached.
use Rattle.std.proofs.lemmas.Result.{IfOk-weaker}
use Rattle.joint_replay.proofs.Finding.{FindsRows-from}
use Rattle.joint_replay.proofs.found.find.Goals as goal

pub returns : goal.returns
returns c = IfOk-weaker c.list_rows.result _ _ (λ f w. FindsRows-from c.args.heap.now c.args.held.now c.args.pins.now c.in_ok-slots.slots.items c.in_ok-bridges.bridges.items _ _ _
    c.in_ok-slots.ensures.marks c.in_ok-bridges.ensures.marks w.frees w.leaves w.picks) (rw (c.deref.ensures.value, c.deref-2.ensures.value) at c.list_rows.ensures)
