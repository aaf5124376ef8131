use Rattle.std.proofs.Common.{refl, arith}
use Rattle.computed_histories.proofs.HistoryTests.{all_come}
use Rattle.computed_histories.proofs.SideTests.{clears}
use Rattle.computed_histories.proofs.Telling.{refuted}
use Rattle.worked_histories.specs.Broken.{until_last_restore, before_last_restore}
use Rattle.worked_histories.specs.Phases.{restored_last}
use Rattle.worked_histories.proofs.Worked.{lawful}
use Rattle.worked_histories.proofs.broken.mirror_outlasts_the_restores.Goals as goal

pub returns : goal.returns
returns c = record {
  lawful = lawful until_last_restore refl;
  not_cleared = λ reply told h. absurd (omega (arith, h.order.1));
  not_by_peers = refuted (clears before_last_restore.peer 2) refl;
  then_cleared = (all_come before_last_restore restored_last).holds refl;
}
