use Rattle.std.proofs.Common.{◌≡◌, length, arith}
use Rattle.script_runs.proofs.Ran.{jobs_ended}
use Rattle.script_runs.proofs.threads.run_by_desk.Goals as goal

pub returns-clause-all : goal.returns-clause-all
returns-clause-all g c =
    let n : length c.in_ok-ended.ended.items ≡ length c.in_ok-jobs.jobs.items = omega (arith, c.in_ok-ended.ensures.len) in
    (jobs_ended c.args.script.now c.in_ok-jobs.jobs.items c.in_ok-callers.callers.items c.in_ok-ended.ended.items c.in_ok-callers.ensures n
    (λ i d e l. c.in_ok-ended.ensures.each i d e (omega (arith, l))) c.in_ok-jobs.ensures.driver).all c.workers.new.desk c.in_ok-jobs.ensures.all

pub returns-clause-ran : goal.returns-clause-ran
returns-clause-ran g c =
    let n : length c.in_ok-ended.ended.items ≡ length c.in_ok-jobs.jobs.items = omega (arith, c.in_ok-ended.ensures.len) in
    (jobs_ended c.args.script.now c.in_ok-jobs.jobs.items c.in_ok-callers.callers.items c.in_ok-ended.ended.items c.in_ok-callers.ensures n
    (λ i d e l. c.in_ok-ended.ensures.each i d e (omega (arith, l))) c.in_ok-jobs.ensures.driver).ran

pub returns-clause-none : goal.returns-clause-none
returns-clause-none g c = c.in_ok-jobs.ensures.none
