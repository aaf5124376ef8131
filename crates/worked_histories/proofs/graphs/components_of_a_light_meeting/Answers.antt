-- Seven times eight is less than 60, and no list with the plain node's class is the graph's.
use Rattle.std.proofs.Common.{[], ◌∷◌, refl, nat_eq}
use Rattle.computed_histories.proofs.ContractionTests.{heavy}
use Rattle.computed_histories.proofs.Reaching.{member}
use Rattle.computed_histories.proofs.Telling.{refuted, same}
use Rattle.worked_histories.specs.Graphs.{light_meeting, light_bridges, light_nodes, light_components, light_references, HasEdge}
use Rattle.worked_histories.proofs.PairGraphs.{pair_contraction, pair_graph, pair_listed}
use Rattle.std.specs.List.{Contains}
use Rattle.worked_histories.proofs.graphs.components_of_a_light_meeting.Goals as goal

pub returns : goal.returns
returns c = record {
  contraction = (pair_contraction light_meeting light_nodes light_bridges refl light_components [] light_references).holds refl;
  not_heavy = λ xrefs k. refuted (heavy (Contains light_bridges) (HasEdge light_meeting)
      (pair_graph light_meeting light_nodes light_bridges) (pair_listed light_meeting light_nodes light_bridges refl) 9) refl
      ((k.heavies 9).0 ((member nat_eq same (9 ∷ []) 9).holds refl)).0;
}
