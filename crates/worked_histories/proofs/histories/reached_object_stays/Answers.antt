use Rattle.std.proofs.Common.{refl}
use Rattle.computed_histories.proofs.RowTests.{slot_reached}
use Rattle.worked_histories.specs.Phases.{making_phased}
use Rattle.worked_histories.proofs.histories.reached_object_stays.Goals as goal

pub returns : goal.returns
returns c freed candidates dead reply frees h = ((h.lawful.allowed.frees 1).0 frees).1 ((slot_reached making_phased.managed.managed 1).holds refl)
