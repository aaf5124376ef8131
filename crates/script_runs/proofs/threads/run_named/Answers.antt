use Rattle.script_runs.proofs.Ran.{ran_idle, threads_end}
use Rattle.script_runs.proofs.threads.run_named.Goals as goal

pub finish-requires-clause-idle : goal.finish-requires-clause-idle
finish-requires-clause-idle g c = ran_idle c.args.script.now c.in_ok-shared.callers.items c.in_ok-shared.ensures.ran

pub returns-in-Ok : goal.returns-in-Ok
returns-in-Ok g c =
    let f = c.in-Ok.ensures in
    let s = c.in_ok-shared.ensures in
    threads_end c.args.script.now c.in-Ok.history c.in_ok-shared.desk c.in_ok-shared.callers.items c.requires.lines f.linked f.finished f.few s.ran s.all s.none f.own f.none
