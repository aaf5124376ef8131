use Rattle.std.proofs.Common.{◌<◌, ◌∙◌, sym, subst, arith}
use Rattle.std.proofs.lemmas.List.Elements.{All-push}
use Rattle.joint_machine.specs.Lines.{IsThread}
use Rattle.joint_history.proofs.Desking.{thread_is}
use Rattle.joint_history.proofs.Giving.{none_given, one_given}
use Rattle.weak_reads.specs.Racing.{IsReady}
use Rattle.weak_reads.proofs.Racing.{given_is_ready}
use Rattle.weak_reads.proofs.callers.with_others.Goals as goal
use Rattle.weak_reads.proofs.callers.with_others.Goals.{in-Some+in_ok-push, in_default, then-other-eq0, else-other-eq0}

pub loop-other-preserved : goal.loop-other-preserved
loop-other-preserved g c =
    let d = c.loop-other.desk in
    let d' = c.caller.new.self in
    let ps = c.loop-other.callers.items in
    let i = c.loop-other.invariant in
    let small : c.if-other-eq0.place < 17 = elim c.if-other-eq0.branch [
      | then-other-eq0 w ↦ omega (arith, w.place-is)
      | else-other-eq0 w ↦ (let few = c.loop-other-test.true in let eight = c.requires.others in omega (arith, w.place-is, few, eight))
    ] in
    elim c.match-caller.branch [
      | in-Some+in_ok-push w ↦
          let p = w.in-Some.caller in
          rw (w.callers-is, w.in_ok-push.ensures.items) (
            one_given d d' c.caller.result p ps w.in-Some.is c.caller.ensures.all i.0,
            All-push IsReady ps p i.1 (given_is_ready p (subst IsThread (sym (w.in-Some.ensures.thread ∙ c.thread_at.ensures)) (thread_is c.if-other-eq0.place small).0) w.in-Some.ensures.nothing),
          )
      | in_default w ↦
          rw w.callers-is (
            none_given d d' c.caller.result ps w.in_default.is c.caller.ensures.all i.0,
            i.1,
          )
    ]
