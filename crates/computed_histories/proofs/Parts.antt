-- The parts' tests, as their contracts state it.
use Rattle.joint_machine.specs.Cycles.{IsAnsweredAlive}
use Rattle.computed_histories.specs.Parts.{SnapshotIsTested, ResolutionIsTested, ContractionIsTested, ClosureIsTested, SweepIsTested, EventIsTested, ManagedIsTested, PeerIsTested, CallerIsTested}
use Rattle.computed_histories.specs.Rows.{answered_alive}
use Rattle.computed_histories.proofs.Telling.{tested}
use Rattle.computed_histories.proofs.CallerTests.{caller}
use Rattle.computed_histories.proofs.ContractionTests.{dead_contraction}
use Rattle.computed_histories.proofs.LineTests.{tells_event}
use Rattle.computed_histories.proofs.MarkingTests.{closure, sweep}
use Rattle.computed_histories.proofs.RowTests.{snapshot, resolution, answered}
use Rattle.computed_histories.proofs.SideTests.{managed, peer}

pub snapshot_tested : SnapshotIsTested
snapshot_tested s k freed candidates dead = tested (snapshot s k freed candidates dead)

pub resolution_tested : ResolutionIsTested
resolution_tested s dead candidates given freed = tested (resolution s dead (IsAnsweredAlive candidates given) (answered_alive candidates given) freed (answered candidates given))

pub contraction_tested : ContractionIsTested
contraction_tested s dead comps heavy xrefs = tested (dead_contraction s dead comps heavy xrefs)

pub closure_tested : ClosureIsTested
closure_tested mk rows = tested (closure mk rows)

pub sweep_tested : SweepIsTested
sweep_tested s mk freed = tested (sweep s mk freed)

pub event_tested : EventIsTested
event_tested t o = tested (tells_event t o)

pub managed_tested : ManagedIsTested
managed_tested s o told = tested (managed s o told)

pub peer_tested : PeerIsTested
peer_tested s t o cites told = tested (peer s t o cites told)

pub caller_tested : CallerIsTested
caller_tested s m issued t line o reply cites told = tested (caller s m issued t line o reply cites told)
