use Rattle.std.proofs.Common.{None, Some, subst}
use Rattle.run_check.specs.Judging.{FindsSoFar}
use Rattle.run_check.proofs.Checked.{end-found, end-legal, end-runs, fault-legal, fault-runs}
use Rattle.run_check.proofs.checks.found_in.Goals as goal

pub returns-in-Some-clause-found : goal.returns-in-Some-clause-found
returns-in-Some-clause-found c = (subst (FindsSoFar c.args.h.now c.judge_all.new.replay) c.in-Some.is c.in_ok-found.ensures).0

pub returns-in-Some-clause-legal : goal.returns-in-Some-clause-legal
returns-in-Some-clause-legal c = fault-legal c.args.h.now c.in-Some.found (subst (FindsSoFar c.args.h.now c.judge_all.new.replay) c.in-Some.is c.in_ok-found.ensures)

pub returns-in-Some-clause-run : goal.returns-in-Some-clause-run
returns-in-Some-clause-run c = fault-runs c.args.h.now c.in-Some.found (subst (FindsSoFar c.args.h.now c.judge_all.new.replay) c.in-Some.is c.in_ok-found.ensures)

pub returns-in-None-clause-found : goal.returns-in-None-clause-found
returns-in-None-clause-found c = end-found c.args.h.now c.judge_all.new.replay c.found_at_end.result
    (subst (FindsSoFar c.args.h.now c.judge_all.new.replay) c.in-None.is c.in_ok-found.ensures) c.found_at_end.ensures

pub returns-in-None-clause-legal : goal.returns-in-None-clause-legal
returns-in-None-clause-legal c = end-legal c.args.h.now c.judge_all.new.replay c.found_at_end.result
    (subst (FindsSoFar c.args.h.now c.judge_all.new.replay) c.in-None.is c.in_ok-found.ensures) c.found_at_end.ensures

pub returns-in-None-clause-run : goal.returns-in-None-clause-run
returns-in-None-clause-run c = end-runs c.args.h.now c.judge_all.new.replay c.found_at_end.result
    (subst (FindsSoFar c.args.h.now c.judge_all.new.replay) c.in-None.is c.in_ok-found.ensures) c.found_at_end.ensures
