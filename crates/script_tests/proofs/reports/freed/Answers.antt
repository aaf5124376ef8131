-- No lists of entries join to the history of no entries, whatever was freed.
use Rattle.joint_machine.proofs.Joining.{joins_none}
use Rattle.script_tests.proofs.reports.freed.Goals as goal

pub join-requires : goal.join-requires
join-requires c = rw (c.new.ensures.items) (joins_none _ _ _)
