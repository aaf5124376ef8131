use Rattle.std.proofs.Common.{◌≤◌, sym, subst}
use Rattle.joint_history.specs.Callers.{last_index}
use Rattle.script_runs.proofs.Last.{ends_with_cycle, idle_again, own-first}
use Rattle.script_runs.proofs.last_cycle.cycle_last.Goals as goal

pub drive_line-requires-clause-index : goal.drive_line-requires-clause-index
drive_line-requires-clause-index g c = subst (λ es. last_index es ≤ c.args.number)
    (sym (own-first c.args.driver c.new-driver.result c.hear_all.new.driver c.args.others.now.items c.hear_all.new.others.items c.new-driver.ensures c.requires.driver c.hear_all.ensures))
    c.requires.number

pub retire-requires : goal.retire-requires
retire-requires g c =
    idle_again c.args.number c.args.driver c.new-driver.result c.hear_all.new.driver c.drive_line.new.driver c.args.others.now.items
    c.hear_all.new.others.items c.new-driver.ensures c.requires.driver c.hear_all.ensures c.in-Ok.ensures.ok

pub returns-in-Ok-clause-ends : goal.returns-in-Ok-clause-ends
returns-in-Ok-clause-ends g c =
    ends_with_cycle c.args.number c.args.driver c.new-driver.result c.hear_all.new.driver c.drive_line.new.driver
    c.args.others.now.items c.hear_all.new.others.items c.new-driver.ensures c.requires.driver c.hear_all.ensures
    c.in-Ok.ensures.ok c.retire.result c.retire.ensures.pass
