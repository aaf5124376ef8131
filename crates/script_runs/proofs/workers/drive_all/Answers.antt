use Rattle.std.proofs.Common.{◌≡◌, ℕ, ◌+◌, ◌≤◌, length, sym, ◌∙◌, ap, subst, arith}
use Rattle.bridge_cycle.specs.Progress.{Progress, line_of}
use Rattle.script_runs.specs.Running.{DrivesLine}
use Rattle.script_runs.proofs.Owned.{DriverHolds, driver_ends, driver_holds, driver_passes}
use Rattle.script_runs.proofs.Reading.{there}
use Rattle.std.proofs.lemmas.Result.{on_ok_weaker}
use Rattle.script_runs.proofs.Reading as reading
use Rattle.script_runs.proofs.workers.drive_all.Goals as goal
use Rattle.script_runs.proofs.workers.drive_all.Goals.{then-is_thread+in-Ok, else-is_thread}

-- what the loop keeps
abbrev Kept : (number i last : ℕ) (d : Progress) → (ℕ → ℕ → Progress → Type 0) → Type 0
Kept number i last d holds = (number + 1 ≡ i + 1) × (last ≤ number + 1) × (line_of d ≤ last) × holds (i + 1) last d

pub loop-t-preserved : goal.loop-t-preserved
loop-t-preserved g c =
    let script = c.args.script.now in
    let i = c.loop-t.t-index in
    let d = c.loop-t.driver in
    let line = reading.line_of script i in
    let e = there script i c.loop-t-test.true in
    let number : c.loop-t.number + 1 ≡ i + 1 = ap (λ n. n + 1) c.loop-t.invariant.0 in
    elim c.if-is_thread.branch [
      | then-is_thread+in-Ok w ↦
          subst (λ m. Kept c.loop-t.number i m c.if-is_thread.driver (DriverHolds script)) (sym w.last-is)
          (subst (λ f. Kept c.loop-t.number i (c.loop-t.number + 1) f (DriverHolds script)) (sym w.driver-is) (
            number,
            omega arith,
            w.drive_line.ensures.index,
            subst (λ n. DriverHolds script (i + 1) n w.drive_line.new.driver) (sym number)
                (driver_holds script i c.loop-t.last d w.drive_line.new.driver line e (sym c.is_thread.ensures ∙ w.if-is_thread.true)
                (subst (λ n. DrivesLine d w.drive_line.new.driver n line.1) number w.in-Ok.ensures.ok) c.loop-t.invariant.3),
          ))
      | else-is_thread w ↦
          subst (λ m. Kept c.loop-t.number i m c.if-is_thread.driver (DriverHolds script)) (sym w.last-is)
          (subst (λ f. Kept c.loop-t.number i c.loop-t.last f (DriverHolds script)) (sym w.driver-is) (
            number,
            (let a = c.loop-t.invariant.1 in omega (arith, a)),
            c.loop-t.invariant.2,
            driver_passes script i c.loop-t.last d line e (sym c.is_thread.ensures ∙ w.if-is_thread.false) c.loop-t.invariant.3,
          ))
    ]

pub returns-clause-ok : goal.returns-clause-ok
returns-clause-ok g c =
    let end : c.loop-t.t-index ≡ length c.args.script.now = omega arith in
    on_ok_weaker c.drive_left-2.result
    (λ left p is idle. driver_ends c.args.script.now c.loop-t.last c.loop-t.driver c.drive_left-2.new.driver p is idle
    (let a = c.loop-t.invariant.0 in let b = c.loop-t.invariant.1 in let u = c.drive_left-2.ensures.index in omega (arith, a, b, u, end)) left
    (subst (λ n. DriverHolds c.args.script.now n c.loop-t.last c.loop-t.driver) end c.loop-t.invariant.3))
    c.drive_left-2.ensures.ok
