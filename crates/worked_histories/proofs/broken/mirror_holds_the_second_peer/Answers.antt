use Rattle.std.proofs.Common.{[], ◌∷◌, ◌++◌, refl, inl}
use Rattle.worked_histories.specs.PlainBetween.{plain_contracted, plain_mirrored, plain_weakened}
use Rattle.worked_histories.proofs.Worked.{lawful, is_reached_by, is_swept_by}
use Rattle.worked_histories.proofs.broken.mirror_holds_the_second_peer.Goals as goal

pub returns : goal.returns
returns c = record {
  lawful = lawful (plain_contracted ++ (plain_mirrored ∷ plain_weakened)) refl;
  mirrored = λ refs reply h. h.order.2;
  kept = λ freed reply frees h. ((h.lawful.allowed.1.exact 2).0 frees).2 (is_reached_by _ 2 refl);
  freed_without = (inl refl, is_swept_by _ _ (2 ∷ []) refl);
}
