use Rattle.instance_registry.proofs.Pairs.{PeersDistinct-keys}
use Rattle.instance_registry.proofs.Registry.len.Goals as goal

pub returns-clause-distinct : goal.returns-clause-distinct
returns-clause-distinct c = rw (← c.self.view_is) (PeersDistinct-keys _ c.len.ensures.unique)
