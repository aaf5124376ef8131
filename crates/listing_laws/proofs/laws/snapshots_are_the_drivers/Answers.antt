use Rattle.listing_laws.proofs.LastSnap.{last_snap_is_open}
use Rattle.listing_laws.proofs.Snapshots.{left_open_none, lines_open_none, snaps_are_the_drivers}
use Rattle.listing_laws.proofs.laws.snapshots_are_the_drivers.Goals as goal

pub returns-clause-drivers : goal.returns-clause-drivers
returns-clause-drivers c = snaps_are_the_drivers

pub returns-clause-lines : goal.returns-clause-lines
returns-clause-lines c = lines_open_none

pub returns-clause-left : goal.returns-clause-left
returns-clause-left c = left_open_none

pub returns-clause-last : goal.returns-clause-last
returns-clause-last c = last_snap_is_open
