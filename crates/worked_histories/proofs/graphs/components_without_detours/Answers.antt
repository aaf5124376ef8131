use Rattle.std.proofs.Common.{[], ◌∷◌, refl}
use Rattle.computed_histories.proofs.Telling.{refuted}
use Rattle.worked_histories.specs.Graphs.{diamond, diamond_bridges, diamond_components}
use Rattle.worked_histories.proofs.PairGraphs.{pair_contraction}
use Rattle.worked_histories.proofs.graphs.components_without_detours.Goals as goal

pub returns : goal.returns
returns c = refuted (pair_contraction diamond (0 ∷ 1 ∷ 2 ∷ 3 ∷ 4 ∷ []) diamond_bridges refl diamond_components [] ((0, 1) ∷ (0, 2) ∷ (1, 2) ∷ [])) refl
