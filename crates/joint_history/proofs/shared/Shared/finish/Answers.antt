-- All lists are joined into the history that all seats know.
use Rattle.std.proofs.lemmas.Result.{IfOk-weaker}
use Rattle.joint_history.proofs.Joined.{EndsRun, lists_join, result_ends}
use Rattle.joint_history.proofs.shared.Shared.finish.Goals as goal

pub join_lists-requires : goal.join_lists-requires
join_lists-requires g c = lists_join _ _ _ c.args.desk c.args.callers.items c.take_all-left.ensures _ _ c.into_lists.ensures.entries
    c.into_lists-2.ensures.entries _ _ _ c.into_lists.ensures.freed c.into_lists-2.ensures.freed c.into_lists.ensures.notices

pub returns-clause-linked : goal.returns-clause-linked
returns-clause-linked g c = IfOk-weaker c.join_lists.result (EndsRun _ _ c.args.callers.items c.args.desk) _ (λ h e. e.linked)
    (result_ends _ _ _ c.args.desk c.args.callers.items c.take_all-left.ensures _ _ c.into_lists.ensures.entries c.into_lists-2.ensures.entries _ _ _ c.into_lists.ensures.freed
    c.into_lists-2.ensures.freed c.into_lists.ensures.notices c.join_lists.result c.join_lists.ensures.shuffle c.join_lists.ensures.managed c.join_lists.ensures.peers c.join_lists.ensures.notices)

pub returns-clause-finished : goal.returns-clause-finished
returns-clause-finished g c = IfOk-weaker c.join_lists.result (EndsRun _ _ c.args.callers.items c.args.desk) _ (λ h e. e.finished)
    (result_ends _ _ _ c.args.desk c.args.callers.items c.take_all-left.ensures _ _ c.into_lists.ensures.entries c.into_lists-2.ensures.entries _ _ _ c.into_lists.ensures.freed
    c.into_lists-2.ensures.freed c.into_lists.ensures.notices c.join_lists.result c.join_lists.ensures.shuffle c.join_lists.ensures.managed c.join_lists.ensures.peers c.join_lists.ensures.notices)

pub returns-clause-own : goal.returns-clause-own
returns-clause-own g c = IfOk-weaker c.join_lists.result (EndsRun _ _ c.args.callers.items c.args.desk) _ (λ h e. e.own)
    (result_ends _ _ _ c.args.desk c.args.callers.items c.take_all-left.ensures _ _ c.into_lists.ensures.entries c.into_lists-2.ensures.entries _ _ _ c.into_lists.ensures.freed
    c.into_lists-2.ensures.freed c.into_lists.ensures.notices c.join_lists.result c.join_lists.ensures.shuffle c.join_lists.ensures.managed c.join_lists.ensures.peers c.join_lists.ensures.notices)

pub returns-clause-none : goal.returns-clause-none
returns-clause-none g c = IfOk-weaker c.join_lists.result (EndsRun _ _ c.args.callers.items c.args.desk) _ (λ h e. e.none)
    (result_ends _ _ _ c.args.desk c.args.callers.items c.take_all-left.ensures _ _ c.into_lists.ensures.entries c.into_lists-2.ensures.entries _ _ _ c.into_lists.ensures.freed
    c.into_lists-2.ensures.freed c.into_lists.ensures.notices c.join_lists.result c.join_lists.ensures.shuffle c.join_lists.ensures.managed c.join_lists.ensures.peers c.join_lists.ensures.notices)

pub returns-clause-begins : goal.returns-clause-begins
returns-clause-begins g c = IfOk-weaker c.join_lists.result (EndsRun _ _ c.args.callers.items c.args.desk) _ (λ h e. e.begins)
    (result_ends _ _ _ c.args.desk c.args.callers.items c.take_all-left.ensures _ _ c.into_lists.ensures.entries c.into_lists-2.ensures.entries _ _ _ c.into_lists.ensures.freed
    c.into_lists-2.ensures.freed c.into_lists.ensures.notices c.join_lists.result c.join_lists.ensures.shuffle c.join_lists.ensures.managed c.join_lists.ensures.peers c.join_lists.ensures.notices)

pub returns-clause-few : goal.returns-clause-few
returns-clause-few g c = IfOk-weaker c.join_lists.result (EndsRun _ _ c.args.callers.items c.args.desk) _ (λ h e. e.few)
    (result_ends _ _ _ c.args.desk c.args.callers.items c.take_all-left.ensures _ _ c.into_lists.ensures.entries c.into_lists-2.ensures.entries _ _ _ c.into_lists.ensures.freed
    c.into_lists-2.ensures.freed c.into_lists.ensures.notices c.join_lists.result c.join_lists.ensures.shuffle c.join_lists.ensures.managed c.join_lists.ensures.peers c.join_lists.ensures.notices)

pub returns-clause-known : goal.returns-clause-known
returns-clause-known g c = IfOk-weaker c.join_lists.result (EndsRun _ _ c.args.callers.items c.args.desk) _ (λ h e. e.known)
    (result_ends _ _ _ c.args.desk c.args.callers.items c.take_all-left.ensures _ _ c.into_lists.ensures.entries c.into_lists-2.ensures.entries _ _ _ c.into_lists.ensures.freed
    c.into_lists-2.ensures.freed c.into_lists.ensures.notices c.join_lists.result c.join_lists.ensures.shuffle c.join_lists.ensures.managed c.join_lists.ensures.peers c.join_lists.ensures.notices)
