use Rattle.instance_registry.proofs.Pairs.{PeersDistinct-keys}
use Rattle.instance_registry.proofs.Registry.twin.Goals as goal

pub returns-clause-distinct : goal.returns-clause-distinct
returns-clause-distinct c = rw (← c.self.view_is) (PeersDistinct-keys _ c.len-unique.ensures.unique)
