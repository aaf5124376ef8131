use Rattle.std.proofs.Common.{refl}
use Rattle.worked_histories.specs.Broken.{promoted}
use Rattle.worked_histories.proofs.Worked.{lawful, is_reached_by}
use Rattle.worked_histories.proofs.broken.promoted_peer_is_kept.Goals as goal

pub returns : goal.returns
returns c = record {
  lawful = lawful promoted refl;
  kept = λ freed reply frees h. ((h.lawful.allowed.1.exact 1).0 frees).2 (is_reached_by _ 1 refl);
}
