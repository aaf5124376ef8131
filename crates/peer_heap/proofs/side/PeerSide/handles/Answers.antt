-- As the rows have it.
use Rattle.std.proofs.Common.{◌≡◌, subst}
use Rattle.std.specs.Option.{option_map}
use Rattle.joint_machine.specs.PeerReplay.{row_of, table_target}
use Rattle.global_handles.specs.Rows.{row_in, target_in}
use Rattle.peer_heap.specs.Rows.{number_of, row_as}
use Rattle.peer_heap.specs.Sides.{PeerModel}
use Rattle.peer_heap.proofs.side.PeerSide.handles.Goals as goal

pub returns-clause-rows : goal.returns-clause-rows
returns-clause-rows c = λ h. subst (λ (z : PeerModel). row_of z.state h ≡ option_map row_as (row_in c.handles.result.now.rows record { 0 = h })) c.self.view_is (c.handles.ensures.rows h)

pub returns-clause-targets : goal.returns-clause-targets
returns-clause-targets c = λ h. subst (λ (z : PeerModel). table_target z.state h.0 ≡ number_of (target_in c.handles.result.now.rows h)) c.self.view_is (c.handles.ensures.targets h)
