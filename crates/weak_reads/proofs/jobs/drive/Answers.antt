use Rattle.std.proofs.Common.{◌≤◌, sym, ◌∙◌, ap, subst}
use Rattle.joint_history.specs.Callers.{Pass, last_index, own}
use Rattle.weak_reads.proofs.Racing.{drivers_line, is_of_c}
use Rattle.weak_reads.proofs.jobs.drive.Goals as goal

pub run_cycles-made-requires : goal.run_cycles-made-requires
run_cycles-made-requires g c = drivers_line c.args.caller c.new-driver.result.view (ap (λ d. d.view) c.new-driver.ensures) c.requires.thread c.requires.ready.1

pub returns : goal.returns
returns g c = (
  (ap (λ (p : Pass). p.thread) c.retire.ensures.pass ∙ is_of_c c.args.caller.thread c.requires.thread, subst (λ (p : Pass). last_index (own p) ≤ 1) (sym c.retire.ensures.pass) c.end.ensures.index),
  c.retire.ensures.idle,
)
