use Rattle.std.proofs.Common.{refl}
use Rattle.worked_histories.proofs.Worked.{is_reached_by}
use Rattle.worked_histories.proofs.histories.deleted_reference_holds.Goals as goal

pub returns : goal.returns
returns c freed reply frees h = ((h.lawful.allowed.1.exact 2).0 frees).2 (is_reached_by _ 2 refl)
