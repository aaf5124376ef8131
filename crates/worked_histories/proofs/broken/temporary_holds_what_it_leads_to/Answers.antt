use Rattle.std.proofs.Common.{refl}
use Rattle.worked_histories.proofs.Worked.{is_reached_by}
use Rattle.worked_histories.proofs.broken.temporary_holds_what_it_leads_to.Goals as goal

pub returns : goal.returns
returns c = λ freed reply frees h. ((h.lawful.allowed.1.exact 9).0 frees).2 (is_reached_by _ 9 refl)
