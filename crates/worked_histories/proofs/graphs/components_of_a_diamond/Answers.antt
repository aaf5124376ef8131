use Rattle.std.proofs.Common.{[], ◌∷◌, refl}
use Rattle.worked_histories.specs.Graphs.{diamond, diamond_bridges, diamond_components, diamond_references}
use Rattle.worked_histories.proofs.PairGraphs.{pair_contraction}
use Rattle.worked_histories.proofs.graphs.components_of_a_diamond.Goals as goal

pub returns : goal.returns
returns c = record { contraction = (pair_contraction diamond (0 ∷ 1 ∷ 2 ∷ 3 ∷ 4 ∷ []) diamond_bridges refl diamond_components [] diamond_references).holds refl; mirror = refl }
