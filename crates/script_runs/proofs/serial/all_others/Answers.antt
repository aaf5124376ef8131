use Rattle.std.proofs.Common.{◌≡◌, ◌+◌, length, sym, ◌∙◌, ap, subst, arith}
use Rattle.joint_machine.specs.Control.{caller_place}
use Rattle.joint_machine.specs.Lines.{IsThread}
use Rattle.joint_history.specs.Desks.{Waiting}
use Rattle.joint_history.proofs.Desking.{thread_is}
use Rattle.script_runs.proofs.Desked.{counts_stay}
use Rattle.script_runs.proofs.Seated.{AreFirstOthers, AreThereFrom, is_there, one_other, rest_there}
use Rattle.script_runs.proofs.serial.all_others.Goals as goal

pub unreachable-requires : goal.unreachable-requires
unreachable-requires g c =
    let w = subst (λ t. IsThread t × (caller_place t ≡ c.loop-place.place)) (sym c.thread_at.ensures) (thread_is c.loop-place.place c.loop-place-test.true) in
    let i = c.loop-place.invariant in
    is_there c.loop-place.desk c.loop-place.place c.thread_at.result i.0 i.1 w.0 w.1 c.loop-place-test.true i.3 (sym c.caller.ensures.caller ∙ c.in_default.is)

pub loop-place-preserved : goal.loop-place-preserved
loop-place-preserved g c =
    let d = c.loop-place.desk in
    let t = c.thread_at.result in
    let n = c.loop-place.place in
    let i = c.loop-place.invariant in
    let w = subst (λ u. IsThread u × (caller_place u ≡ n)) (sym c.thread_at.ensures) (thread_is n c.loop-place-test.true) in
    let k = counts_stay d t in
    let is = c.caller.ensures.desk in
    let len : length c.loop-place.others.items + 1 ≡ n = omega (arith, i.2) in (
      ap (λ (z : Waiting). z.managed) is ∙ (k.0 ∙ i.0),
      ap (λ (z : Waiting). z.peers) is ∙ (k.1 ∙ i.1),
      (let a = c.in_ok-push.ensures.len in let b = i.2 in omega (arith, a, b)),
      subst (AreThereFrom (n + 1)) (sym is) (rest_there d n t w.1 i.3),
      subst AreFirstOthers (sym c.in_ok-push.ensures.items) (one_other c.loop-place.others.items c.in-Some.caller n len (c.in-Some.ensures.thread ∙ c.thread_at.ensures) c.in-Some.ensures.nothing i.4),
    )

pub returns-clause-others : goal.returns-clause-others
returns-clause-others g c =
    let i = c.loop-place.invariant in
    let end : c.loop-place.place ≡ 17 = omega arith in
    record { count = (let a = i.2 in omega (arith, a, end)); each = i.4.thread }

pub returns-clause-new : goal.returns-clause-new
returns-clause-new g c = c.loop-place.invariant.4.new
