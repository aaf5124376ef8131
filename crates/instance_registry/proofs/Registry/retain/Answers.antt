-- The call keeps no state, so what it leaves is the filter of the pairs by what it answers.
use Rattle.std.proofs.Common.{rules}
use Rattle.indexmap.proofs.CallerLemmas.{filter-RetainsPairs}
use Rattle.instance_registry.proofs.Pairs.{PeersDistinct-keys}
use Rattle.instance_registry.proofs.Registry.retain.Goals as goal

pub returns-clause-distinct : goal.returns-clause-distinct
returns-clause-distinct g c = PeersDistinct-keys _ c.retain.ensures.unique

pub returns-clause-pairs : goal.returns-clause-pairs
returns-clause-pairs g c = λ test told. rw (← c.self.view_is) (filter-RetainsPairs _ test _ (λ k v b w h call. search rules) _ _ c.retain.ensures.filtered)
