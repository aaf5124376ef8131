-- As where the lists are kept; and the sides' states are those of the end.
use Rattle.joint_history.proofs.Joined.{lists_join, numbered, run_ends}
use Rattle.joint_history.proofs.shared.Shared.end.Goals as goal

pub join_past-requires : goal.join_past-requires
join_past-requires g c = lists_join _ _ _ c.args.desk c.args.callers.items c.take_all-left.ensures _ _ c.into_lists.ensures.entries
    c.into_lists-2.ensures.entries _ _ _ c.into_lists.ensures.freed c.into_lists-2.ensures.freed c.into_lists.ensures.notices

pub returns-clause-linked : goal.returns-clause-linked
returns-clause-linked g c = (run_ends _ _ _ c.args.desk c.args.callers.items c.take_all-left.ensures _ _ c.into_lists.ensures.entries c.into_lists-2.ensures.entries _ _ _ c.into_lists.ensures.freed
    c.into_lists-2.ensures.freed c.into_lists.ensures.notices c.join_past.result c.join_past.ensures.shuffle c.join_past.ensures.managed c.join_past.ensures.peers c.join_past.ensures.notices).linked

pub returns-clause-finished : goal.returns-clause-finished
returns-clause-finished g c = (run_ends _ _ _ c.args.desk c.args.callers.items c.take_all-left.ensures _ _ c.into_lists.ensures.entries
    c.into_lists-2.ensures.entries _ _ _ c.into_lists.ensures.freed c.into_lists-2.ensures.freed c.into_lists.ensures.notices
    c.join_past.result c.join_past.ensures.shuffle c.join_past.ensures.managed c.join_past.ensures.peers c.join_past.ensures.notices).finished

pub returns-clause-own : goal.returns-clause-own
returns-clause-own g c = (run_ends _ _ _ c.args.desk c.args.callers.items c.take_all-left.ensures _ _ c.into_lists.ensures.entries c.into_lists-2.ensures.entries _ _ _ c.into_lists.ensures.freed
    c.into_lists-2.ensures.freed c.into_lists.ensures.notices c.join_past.result c.join_past.ensures.shuffle c.join_past.ensures.managed c.join_past.ensures.peers c.join_past.ensures.notices).own

pub returns-clause-none : goal.returns-clause-none
returns-clause-none g c = (run_ends _ _ _ c.args.desk c.args.callers.items c.take_all-left.ensures _ _ c.into_lists.ensures.entries c.into_lists-2.ensures.entries _ _ _ c.into_lists.ensures.freed
    c.into_lists-2.ensures.freed c.into_lists.ensures.notices c.join_past.result c.join_past.ensures.shuffle c.join_past.ensures.managed c.join_past.ensures.peers c.join_past.ensures.notices).none

pub returns-clause-begins : goal.returns-clause-begins
returns-clause-begins g c = (run_ends _ _ _ c.args.desk c.args.callers.items c.take_all-left.ensures _ _ c.into_lists.ensures.entries c.into_lists-2.ensures.entries _ _ _ c.into_lists.ensures.freed
    c.into_lists-2.ensures.freed c.into_lists.ensures.notices c.join_past.result c.join_past.ensures.shuffle c.join_past.ensures.managed c.join_past.ensures.peers c.join_past.ensures.notices).begins

pub returns-clause-few : goal.returns-clause-few
returns-clause-few g c = (run_ends _ _ _ c.args.desk c.args.callers.items c.take_all-left.ensures _ _ c.into_lists.ensures.entries c.into_lists-2.ensures.entries _ _ _ c.into_lists.ensures.freed
    c.into_lists-2.ensures.freed c.into_lists.ensures.notices c.join_past.result c.join_past.ensures.shuffle c.join_past.ensures.managed c.join_past.ensures.peers c.join_past.ensures.notices).few

pub returns-clause-counted : goal.returns-clause-counted
returns-clause-counted g c = numbered _ _ _ (run_ends _ _ _ c.args.desk c.args.callers.items c.take_all-left.ensures _ _ c.into_lists.ensures.entries
    c.into_lists-2.ensures.entries _ _ _ c.into_lists.ensures.freed c.into_lists-2.ensures.freed c.into_lists.ensures.notices c.join_past.result
    c.join_past.ensures.shuffle c.join_past.ensures.managed c.join_past.ensures.peers c.join_past.ensures.notices).ends record {
      cycles = c.cycles-cycles.ensures;
      managed = c.made.ensures.made;
      managed_left = c.live.ensures;
      peers = c.made-2.ensures;
      peers_left = c.live-2.ensures;
      handles = c.handles_made.ensures;
      handles_left = c.tabled.ensures;
    }
