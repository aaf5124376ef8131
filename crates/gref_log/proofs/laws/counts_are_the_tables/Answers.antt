use Rattle.gref_log.proofs.Joining.{entries_leave_table, left_are_rows}
use Rattle.gref_log.proofs.Counting.{counts_are_tables, live_are_rows}
use Rattle.gref_log.proofs.laws.counts_are_the_tables.Goals as goal

pub returns-clause-counts : goal.returns-clause-counts
returns-clause-counts c = counts_are_tables

pub returns-clause-rows : goal.returns-clause-rows
returns-clause-rows c = live_are_rows

pub returns-clause-entries : goal.returns-clause-entries
returns-clause-entries c = entries_leave_table

pub returns-clause-left : goal.returns-clause-left
returns-clause-left c = left_are_rows
