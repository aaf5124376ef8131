use Rattle.std.proofs.Common.{◌≡◌, length, arith}
use Rattle.weak_reads.proofs.Racing.{all_ended, ended_are_idle, ended_have_all}
use Rattle.weak_reads.proofs.race.play.Goals as goal

pub returns-clause-all : goal.returns-clause-all
returns-clause-all g c =
    let n : length c.in_ok-ended.ended.items ≡ length c.in_ok-jobs.jobs.items = omega (arith, c.in_ok-ended.ensures.len) in
    ended_have_all c.with_driver.new.desk c.in_ok-jobs.jobs.items c.in_ok-callers.callers.items
    (all_ended c.in_ok-jobs.jobs.items c.in_ok-callers.callers.items c.in_ok-ended.ended.items c.in_ok-callers.ensures n (λ i d e l. c.in_ok-ended.ensures.each i d e (omega (arith, l))))
    c.in_ok-jobs.ensures.all

pub returns-clause-idle : goal.returns-clause-idle
returns-clause-idle g c =
    let n : length c.in_ok-ended.ended.items ≡ length c.in_ok-jobs.jobs.items = omega (arith, c.in_ok-ended.ensures.len) in
    ended_are_idle c.in_ok-jobs.jobs.items c.in_ok-callers.callers.items
    (all_ended c.in_ok-jobs.jobs.items c.in_ok-callers.callers.items c.in_ok-ended.ended.items c.in_ok-callers.ensures n (λ i d e l. c.in_ok-ended.ensures.each i d e (omega (arith, l))))
