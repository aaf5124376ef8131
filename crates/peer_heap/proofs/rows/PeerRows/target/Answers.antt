-- The table's row tells, as the replay's does.
use Rattle.std.proofs.Common.{◌≡◌, sym, ap, subst, ◌∙◌}
use Rattle.joint_machine.specs.PeerReplay.{opening_peer_replay, table_target}
use Rattle.peer_heap.specs.Rows.{Rows, with_rows, number_of}
use Rattle.peer_heap.proofs.Handles.{target-shown}
use Rattle.peer_heap.proofs.rows.PeerRows.target.Goals as goal

pub returns : goal.returns
returns c =
    let i = c.self.inside in
    subst (λ (z : Rows). table_target (with_rows opening_peer_replay z) c.args.h.0 ≡ number_of c.target.result) c.self.view_is
    (target-shown i.heap i.sorts.items i.names i.issued i.table c.args.h c.self.invariant.rising c.self.invariant.rows_issued ∙ ap number_of (sym c.target.ensures))
