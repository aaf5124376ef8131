use Rattle.std.proofs.Common.{◌≡◌, ◌+◌, ◌≤◌, length, sym, ◌∙◌, ap, subst, arith}
use Rattle.joint_machine.specs.PeerReplay.{is_thread}
use Rattle.joint_history.specs.Callers.{Pass, last_index, own}
use Rattle.joint_history.specs.Operations.{IsOwnThread}
use Rattle.script_laws.specs.Holding.{opening_standing}
use Rattle.joint_machine.specs.Lines.{IsManagedThread}
use Rattle.run_laws.specs.Threads.{HoldsItsFirst}
use Rattle.run_laws.specs.Waits.{WaitsEnd}
use Rattle.script_runs.specs.Running.{HasRunLines, MakesLine}
use Rattle.script_runs.proofs.Owned.{own_ends, own_holds, own_waits, other_holds}
use Rattle.script_runs.proofs.Reading.{line_of, there}
use Rattle.script_runs.proofs.workers.run_own_lines.Goals as goal
use Rattle.script_runs.proofs.workers.run_own_lines.Goals.{then-is_thread+in_ok-run_line_beside, else-is_thread}

pub loop-t-preserved : goal.loop-t-preserved
loop-t-preserved g c =
    let script = c.args.script.now in
    let i = c.loop-t.t-index in
    let p = c.loop-t.caller in
    let e = there script i c.loop-t-test.true in
    let same = c.loop-t.invariant.1 in
    let number : c.loop-t.number + 1 ≡ i + 1 = ap (λ n. n + 1) c.loop-t.invariant.0 in
    elim c.if-is_thread.branch [
      | then-is_thread+in_ok-run_line_beside w ↦
          subst (λ (q : Pass). (c.loop-t.number + 1 ≡ i + 1) × (q.thread ≡ c.thread-thread.result) × (last_index (own q) ≤ c.loop-t.number + 1)
          × HoldsItsFirst script (i + 1) q opening_standing × (IsManagedThread q.thread → WaitsEnd (own q))) (sym w.caller-is) (
            number,
            w.run_line_beside.ensures.thread ∙ same,
            w.run_line_beside.ensures.index,
            own_holds script i p w.run_line_beside.new.caller (line_of script i) e
                (ap (λ t. is_thread t (line_of script i).0) same ∙ (sym c.is_thread.ensures ∙ w.if-is_thread.true)) w.run_line_beside.ensures.thread
                (subst (λ n. MakesLine p.thread p.view w.run_line_beside.new.caller.view n (line_of script i).1) number w.in_ok-run_line_beside.ensures.ok.made_line) c.loop-t.invariant.3,
            own_waits p w.run_line_beside.new.caller (c.loop-t.number + 1) (line_of script i).1 w.run_line_beside.ensures.thread w.in_ok-run_line_beside.ensures.ok c.loop-t.invariant.4,
          )
      | else-is_thread w ↦
          subst (λ (q : Pass). (c.loop-t.number + 1 ≡ i + 1) × (q.thread ≡ c.thread-thread.result) × (last_index (own q) ≤ c.loop-t.number + 1)
          × HoldsItsFirst script (i + 1) q opening_standing × (IsManagedThread q.thread → WaitsEnd (own q))) (sym w.caller-is) (
            number,
            same,
            (let a = c.loop-t.invariant.2 in omega (arith, a)),
            other_holds script i p (line_of script i) e (ap (λ t. is_thread t (line_of script i).0) same ∙ (sym c.is_thread.ensures ∙ w.if-is_thread.false)) c.loop-t.invariant.3,
            c.loop-t.invariant.4,
          )
    ]

pub returns : goal.returns
returns g c =
    let p = c.loop-t.caller in
    let same = c.loop-t.invariant.1 ∙ c.thread-thread.ensures in
    let end : c.loop-t.t-index ≡ length c.args.script.now = omega arith in
    subst (λ t. HasRunLines c.args.script.now t p) same
    (own_ends c.args.script.now p (subst IsOwnThread (sym same) c.requires.thread) (let a = c.loop-t.invariant.0 in let b = c.loop-t.invariant.2 in omega (arith, a, b, end))
    (subst (λ n. HoldsItsFirst c.args.script.now n p opening_standing) end c.loop-t.invariant.3) c.loop-t.invariant.4)
