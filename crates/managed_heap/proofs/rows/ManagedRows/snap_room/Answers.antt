-- There are as many rows as the heap made, and as many notices as were queued.
use Rattle.std.proofs.Common.{arith}
use Rattle.std.proofs.lemmas.List.{length-map}
use Rattle.std.proofs.lemmas.Result.{IfOk-from_err}
use Rattle.joint_machine.specs.declared.names.MNum.{MNum}
use Rattle.managed_heap.proofs.rows.ManagedRows.snap_room.Goals as goal

pub returns-in_err-notices : goal.returns-in_err-notices
returns-in_err-notices c = IfOk-from_err c.from_residual.result _ c.from_residual.ensures.0

pub returns-in-Ok : goal.returns-in-Ok
returns-in-Ok c =
    let queued = length-map c.self.inside.notices.queued (λ (m : MNum). m.0) in
    rw (← c.self.view_is) (record {
      rows = c.in-Ok.ensures;
      empty = c.in_ok-notices.ensures.empty;
      wide = omega (arith, c.in_ok-notices.ensures.wide, queued, c.queued.ensures.queued, c.made.ensures.made);
      most = omega (arith, c.in_ok-notices.ensures.most, queued, c.queued.ensures.queued, c.made.ensures.made);
    })
