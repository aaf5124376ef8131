use Rattle.std.proofs.Common.{◌≡◌, ℕ, ◌+◌, ◌≤◌, List, [], ◌∷◌, ◌++◌, sym, ◌∙◌, ap, subst, arith}
use Rattle.std.proofs.lemmas.List.Elements.{All-nil}
use Rattle.joint_machine.specs.declared.lines.Act.{Act}
use Rattle.joint_machine.specs.declared.names.Thread.{Thread}
use Rattle.joint_machine.specs.Lines.{IsThread}
use Rattle.joint_history.specs.Callers.{KnowsNothing, Pass}
use Rattle.joint_history.specs.Desks.{Waiting, without_caller}
use Rattle.run_laws.specs.Threads.{thread_lines}
use Rattle.script_runs.specs.Running.{DriverIsFirst, HasLine}
use Rattle.script_runs.proofs.Desked.{NoneIsLeftBelow, Working, all_asked, driver_alone, driver_waits, given_out, nobody_asked, not_there, others_stay, passed_over}
use Rattle.script_runs.proofs.Ordered.{InOrder, first_in_order, next_in_order, passed_in_order}
use Rattle.script_runs.proofs.workers.call_workers.Goals as goal
use Rattle.script_runs.proofs.workers.call_workers.Goals.{then-has_line+in-Some-caller+in_ok-push-2, then-has_line+in_default-caller, else-has_line}

pub unreachable-requires : goal.unreachable-requires
unreachable-requires g c = driver_waits c.args.desk.now c.requires.all (sym c.caller.ensures.caller ∙ c.in_default.is)

-- what the loop keeps
abbrev Kept : (script : List (Thread × Act)) → Waiting → List Pass → ℕ → Type 0
Kept script d ps n = Working script d ps n × DriverIsFirst ps × (1 ≤ n) × InOrder script ps n

pub loop-place-init : goal.loop-place-init
loop-place-init g c =
    let script = c.args.script.now in
    let d = c.args.desk.now in
    let p = c.in-Some.driver in
    let w : Working script d [] 0 = (c.requires.all, c.requires.counts.0, c.requires.counts.1, nobody_asked script d, All-nil (λ (q : Pass). IsThread q.thread × KnowsNothing q.view)) in
    let items : c.push.new.self.items ≡ p ∷ [] = c.in_ok-push.ensures.items ∙ ap (λ l. l ++ p ∷ []) c.requires.nobody in
    subst (λ ps. Kept script c.caller.new.self ps 1) (sym items) (
      given_out script d c.caller.new.self [] 0 (omega arith) w c.caller.result p c.caller.ensures.desk c.caller.ensures.all c.in-Some.is c.in-Some.ensures.thread c.in-Some.ensures.nothing,
      driver_alone p c.in-Some.ensures.thread,
      omega arith,
      first_in_order script p c.in-Some.ensures.thread,
    )

pub loop-place-preserved : goal.loop-place-preserved
loop-place-preserved g c =
    let script = c.args.script.now in
    let n = c.loop-place.place in
    let d = c.loop-place.desk in
    let ps = c.loop-place.callers.items in
    let t = c.thread_at-thread.ensures in
    let i = c.loop-place.invariant in
    let next : 1 ≤ n + 1 = omega arith in
    elim c.if-has_line.branch [
      | then-has_line+in-Some-caller+in_ok-push-2 w ↦
          let p = w.in-Some-caller.caller in
          subst (λ (z : Waiting). Kept script z c.if-has_line.callers.items (n + 1)) (sym w.desk-is)
          (subst (λ qs. Kept script w.caller-then-has_line.new.self qs (n + 1)) (sym (ap (λ v. v.items) w.callers-is ∙ w.in_ok-push-2.ensures.items)) (
            given_out script d w.caller-then-has_line.new.self ps n c.loop-place-test.true i.0 w.caller-then-has_line.result p
                (w.caller-then-has_line.ensures.desk ∙ ap (without_caller d) t) w.caller-then-has_line.ensures.all w.in-Some-caller.is
                (w.in-Some-caller.ensures.thread ∙ t) w.in-Some-caller.ensures.nothing,
            others_stay ps p n i.2 c.loop-place-test.true (w.in-Some-caller.ensures.thread ∙ t) i.1,
            next,
            next_in_order script ps p n c.loop-place-test.true (w.in-Some-caller.ensures.thread ∙ t) (subst (HasLine script) t (c.has_line.ensures.some w.if-has_line.true)) i.3,
          ))
      | then-has_line+in_default-caller w ↦
          subst (λ (z : Waiting). Kept script z c.if-has_line.callers.items (n + 1)) (sym w.desk-is)
          (subst (λ qs. Kept script w.caller-then-has_line.new.self qs (n + 1)) (sym (ap (λ v. v.items) w.callers-is)) (
            not_there script d w.caller-then-has_line.new.self ps n c.loop-place-test.true i.0 w.caller-then-has_line.result
                (w.caller-then-has_line.ensures.desk ∙ ap (without_caller d) t) w.caller-then-has_line.ensures.all w.in_default-caller.is,
            i.1,
            next,
            passed_in_order script ps n i.3,
          ))
      | else-has_line w ↦
          subst (λ (z : Waiting). Kept script z c.if-has_line.callers.items (n + 1)) (sym w.desk-is)
          (subst (λ qs. Kept script d qs (n + 1)) (sym (ap (λ v. v.items) w.callers-is)) (
            passed_over script d d ps n c.loop-place-test.true i.0 (subst (λ u. thread_lines u script ≡ []) t (c.has_line.ensures.none w.if-has_line.false)),
            i.1,
            next,
            passed_in_order script ps n i.3,
          ))
    ]

pub returns : goal.returns
returns g c =
    let end : c.loop-place.place ≡ 17 = omega arith in
    let i = c.loop-place.invariant in
    record {
      all = i.0.0;
      none = all_asked c.args.script.now c.loop-place.desk (subst (NoneIsLeftBelow c.args.script.now c.loop-place.desk) end i.0.3);
      new = i.0.4;
      driver = i.1;
      workers = i.3.are;
    }
