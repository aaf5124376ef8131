use Rattle.picture_laws.proofs.Seeing.{order_is_never_stuck, order_is_seen, seen_is_of_both_sides}
use Rattle.picture_laws.proofs.entries_in_order_are_seen.Goals as goal

pub returns-clause-seen : goal.returns-clause-seen
returns-clause-seen c = order_is_seen

pub returns-clause-unstuck : goal.returns-clause-unstuck
returns-clause-unstuck c = order_is_never_stuck

pub returns-clause-sides : goal.returns-clause-sides
returns-clause-sides c = seen_is_of_both_sides
