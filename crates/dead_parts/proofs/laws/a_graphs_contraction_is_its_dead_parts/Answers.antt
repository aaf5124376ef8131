use Rattle.dead_parts.proofs.DeadContraction.{a_graphs_contraction}
use Rattle.dead_parts.proofs.laws.a_graphs_contraction_is_its_dead_parts.Goals as goal

pub returns : goal.returns
returns c = a_graphs_contraction
