use Rattle.std.proofs.Common.{ℕ, List, [], ◌∷◌, refl, nat_eq}
use Rattle.std.specs.Prelude.{Contains}
use Rattle.joint_machine.specs.PeerReplay.{PeerReplay, Marking, IsSweep}
use Rattle.computed_histories.proofs.HistoryTests.{comes}
use Rattle.computed_histories.proofs.Reaching.{member}
use Rattle.computed_histories.proofs.Telling.{same}
use Rattle.worked_histories.specs.Broken.{until_own_sweep, before_own_sweep}
use Rattle.worked_histories.specs.Phases.{swept_both}
use Rattle.worked_histories.proofs.Worked.{lawful, is_swept_by}
use Rattle.worked_histories.proofs.broken.weak_handle_is_no_root.Goals as goal

both_freed : (s : PeerReplay) (mk : Marking) (freed : List ℕ) → IsSweep s mk freed → IsSweep s mk (1 ∷ 2 ∷ []) → Contains freed 1 × Contains freed 2
both_freed s mk freed is known = (
  (is.exact 1).1 ((known.exact 1).0 ((member nat_eq same (1 ∷ 2 ∷ []) 1).holds refl)),
  (is.exact 2).1 ((known.exact 2).0 ((member nat_eq same (1 ∷ 2 ∷ []) 2).holds refl)),
)

pub returns : goal.returns
returns c = record {
  lawful = lawful until_own_sweep refl;
  comes = (comes before_own_sweep swept_both).holds refl;
  both = λ freed reply h. both_freed _ _ freed h.lawful.allowed.1 (is_swept_by _ _ (1 ∷ 2 ∷ []) refl);
}
