-- Each place of the replay's table shows its row, and leads where that does.
use Rattle.std.proofs.Common.{◌≡◌, subst}
use Rattle.std.specs.Option.{option_map}
use Rattle.joint_machine.specs.PeerReplay.{opening_peer_replay, row_of, table_target}
use Rattle.global_handles.specs.Rows.{row_in, target_in}
use Rattle.peer_heap.specs.Rows.{Rows, with_rows, number_of, row_as}
use Rattle.peer_heap.proofs.Handles.{row-shown, target-shown}
use Rattle.peer_heap.proofs.rows.PeerRows.handles.Goals as goal

pub returns-clause-rows : goal.returns-clause-rows
returns-clause-rows c = λ h.
    let table = c.self.inside.table in
    subst (λ (z : Rows). row_of (with_rows opening_peer_replay z) h ≡ option_map row_as (row_in table.rows record { 0 = h })) c.self.view_is (row-shown table.rows h table.last c.self.invariant.rising)

pub returns-clause-targets : goal.returns-clause-targets
returns-clause-targets c = λ h.
    let i = c.self.inside in
    subst (λ (z : Rows). table_target (with_rows opening_peer_replay z) h.0 ≡ number_of (target_in i.table.rows h)) c.self.view_is
    (target-shown i.heap i.sorts.items i.names i.issued i.table h c.self.invariant.rising c.self.invariant.rows_issued)
