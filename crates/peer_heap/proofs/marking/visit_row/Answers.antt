-- A strong row's peer is marked.
use Rattle.row_heap.proofs.Edges.{rest-kept}
use Rattle.peer_heap.proofs.Roots.{Greyed-one, Greyed-weak}
use Rattle.peer_heap.proofs.marking.visit_row.Goals as goal

pub visit-requires-clause-row : goal.visit-requires-clause-row
visit-requires-clause-row c = c.requires.live c.in-Strong.is

pub visit-requires-clause-some : goal.visit-requires-clause-some
visit-requires-clause-some c = (c.requires.live c.in-Strong.is).made.0

pub returns-in-Strong-clause-greyed : goal.returns-in-Strong-clause-greyed
returns-in-Strong-clause-greyed c = Greyed-one c.args.row _ _ _ _ _ _ c.in-Strong.is c.visit.ensures.greyed

pub returns-in-Strong-clause-rest : goal.returns-in-Strong-clause-rest
returns-in-Strong-clause-rest c = rest-kept c.args.heap.now c.visit.new.g c.visit.ensures.kept

pub returns-in_default-clause-greyed : goal.returns-in_default-clause-greyed
returns-in_default-clause-greyed c = Greyed-weak c.args.row _ _ _ c.in_default.is
