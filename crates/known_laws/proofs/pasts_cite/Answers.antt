use Rattle.known_laws.proofs.Citing.{pasts_cite}
use Rattle.known_laws.proofs.CitedOnce.{none_is_cited_twice, each_stands_behind}
use Rattle.known_laws.proofs.CitedData.{mirrors_add_mirror_edges, weakens_take_next}
use Rattle.known_laws.proofs.Restoring.{resolves_free_by_restores, resolves_free_cleared, restored_hold_the_new}
use Rattle.known_laws.proofs.pasts_cite.Goals as goal

pub returns-clause-cite : goal.returns-clause-cite
returns-clause-cite c = pasts_cite

pub returns-clause-once : goal.returns-clause-once
returns-clause-once c = none_is_cited_twice

pub returns-clause-behind : goal.returns-clause-behind
returns-clause-behind c = each_stands_behind

pub returns-clause-mirror : goal.returns-clause-mirror
returns-clause-mirror c = mirrors_add_mirror_edges

pub returns-clause-weaken : goal.returns-clause-weaken
returns-clause-weaken c = weakens_take_next

pub returns-clause-resolve : goal.returns-clause-resolve
returns-clause-resolve c = resolves_free_by_restores

pub returns-clause-cleared : goal.returns-clause-cleared
returns-clause-cleared c = resolves_free_cleared

pub returns-clause-renewed : goal.returns-clause-renewed
returns-clause-renewed c = restored_hold_the_new
