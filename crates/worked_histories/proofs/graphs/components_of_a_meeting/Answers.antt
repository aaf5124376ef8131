-- Eight times eight is more than 60, so a list without the plain node's class isn't the graph's.
use Rattle.std.proofs.Common.{[], ◌∷◌, refl, nat_eq}
use Rattle.std.specs.List.{Contains}
use Rattle.computed_histories.proofs.Reaching.{member}
use Rattle.computed_histories.proofs.Telling.{same}
use Rattle.joint_machine.proofs.Members.{Contains-nil}
use Rattle.joint_machine.specs.Components.{IsContraction}
use Rattle.worked_histories.specs.Graphs.{HasEdge, meeting, meeting_bridges, meeting_nodes, meeting_components, meeting_references}
use Rattle.worked_histories.proofs.PairGraphs.{pair_contraction}
use Rattle.worked_histories.proofs.graphs.components_of_a_meeting.Goals as goal

whole : IsContraction (Contains meeting_bridges) (HasEdge meeting) meeting_components (9 ∷ []) meeting_references
whole = (pair_contraction meeting meeting_nodes meeting_bridges refl meeting_components (9 ∷ []) meeting_references).holds refl

pub returns : goal.returns
returns c = record {
  contraction = whole;
  mirror = refl;
  needed = λ xrefs k. Contains-nil 9 ((k.heavies 9).1 ((whole.heavies 9).0 ((member nat_eq same (9 ∷ []) 9).holds refl)));
}
