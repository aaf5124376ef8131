-- The name's handle is read, if the name has one.
use Rattle.std.proofs.Common.{sym, subst}
use Rattle.joint_machine.specs.Heaps.{Answered}
use Rattle.joint_machine.specs.Peers.{Peers}
use Rattle.joint_machine.specs.PeerReplay.{opening_peer_replay, table_target}
use Rattle.peer_heap.specs.Rows.{PeersAnswer, with_rows}
use Rattle.peer_heap.proofs.Events.{answers-unread, name_read-some}
use Rattle.peer_heap.proofs.rows.PeerRows.read_name.Goals as goal

pub returns-in-None-clause-answers : goal.returns-in-None-clause-answers
returns-in-None-clause-answers c = answers-unread c.args.self.now (table_target (with_rows opening_peer_replay c.args.self.now)) c.args.v c.args.g c.in-None.ensures

pub returns-in-Some-clause-answers : goal.returns-in-Some-clause-answers
returns-in-Some-clause-answers c =
    subst (λ (a : Answered Peers). PeersAnswer c.args.self.now a c.read_handle.result c.read_handle.new.self)
    (sym (name_read-some c.args.self.now (table_target (with_rows opening_peer_replay c.args.self.now)) c.args.v c.args.g c.in-Some.h c.in-Some.ensures)) c.read_handle.ensures.answers
