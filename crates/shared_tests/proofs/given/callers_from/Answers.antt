use Rattle.std.proofs.Common.{◌≤◌, ◌∙◌, sym, subst, arith}
use Rattle.std.proofs.lemmas.List.Elements.{All-push}
use Rattle.joint_machine.specs.Control.{caller_place}
use Rattle.joint_machine.specs.Lines.{IsPeerThread, IsThread}
use Rattle.joint_history.specs.Desks.{thread_of}
use Rattle.joint_history.specs.Operations.{IsOwnThread}
use Rattle.joint_history.proofs.Desking.{thread_is}
use Rattle.joint_history.proofs.Giving.{none_given, one_given}
use Rattle.shared_tests.specs.Starts.{IsStarting, IsStartingPeer, IsWaiting}
use Rattle.shared_tests.proofs.Starting.{is_own, is_peer}
use Rattle.shared_tests.proofs.given.callers_from.Goals as goal
use Rattle.shared_tests.proofs.given.callers_from.Goals.{in-Some+in_ok-push, in_default}

pub loop-place-preserved : goal.loop-place-preserved
loop-place-preserved g c =
    let d = c.loop-place.desk in
    let d' = c.caller.new.self in
    let n = c.loop-place.place in
    let ps = c.loop-place.callers.items in
    let i = c.loop-place.invariant in
    let is = thread_is n c.loop-place-test.true in
    let from : c.args.first ≤ caller_place (thread_of n) = let a = c.loop-place.auto.place in let b = is.1 in omega (arith, a, b) in
    elim c.match-caller.branch [
      | in-Some+in_ok-push w ↦
          let p = w.in-Some.caller in
          let at = sym (w.in-Some.ensures.thread ∙ c.thread_at.ensures) in
          let nothing = w.in-Some.ensures.nothing in
          rw (w.callers-is, w.in_ok-push.ensures.items) (
            one_given d d' c.caller.result p ps w.in-Some.is c.caller.ensures.all i.0,
            All-push IsWaiting ps p i.1 (subst IsThread at is.0, nothing),
            λ past. All-push IsStarting ps p (i.2 past) (subst IsOwnThread at (is_own (thread_of n) is.0 (omega (arith, from, past))), nothing),
            λ past. All-push IsStartingPeer ps p (i.3 past) (subst IsPeerThread at (is_peer (thread_of n) is.0 (omega (arith, from, past))), nothing),
          )
      | in_default w ↦
          rw w.callers-is (
            none_given d d' c.caller.result ps w.in_default.is c.caller.ensures.all i.0,
            i.1,
            i.2,
            i.3,
          )
    ]
