use Rattle.std.proofs.Common.{◌≡◌, length, arith}
use Rattle.shared_tests.proofs.Starting.{gone_are_idle, gone_have_all}
use Rattle.shared_tests.proofs.threads.play.Goals as goal

pub returns-clause-all : goal.returns-clause-all
returns-clause-all g c =
    let same : length c.in_ok-ended.ended.items ≡ length c.in_ok-callers.callers.items = omega (arith, c.in_ok-ended.ensures.len) in
    gone_have_all c.callers_from.new.desk c.in_ok-callers.callers.items c.in_ok-ended.ended.items same (λ i d l. c.in_ok-ended.ensures.threads i d (omega (arith, l))) c.in_ok-callers.ensures.all

pub returns-clause-idle : goal.returns-clause-idle
returns-clause-idle g c =
    let same : length c.in_ok-ended.ended.items ≡ length c.in_ok-callers.callers.items = omega (arith, c.in_ok-ended.ensures.len) in
    gone_are_idle c.in_ok-callers.callers.items c.in_ok-ended.ended.items same (λ i d l. c.in_ok-ended.ensures.threads i d (omega (arith, l))) (c.in_ok-callers.ensures.starting (omega arith))
