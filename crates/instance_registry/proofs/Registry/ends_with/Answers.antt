use Rattle.std.proofs.Common.{sym, ◌∙◌}
use Rattle.instance_registry.proofs.Pairs.{PeersDistinct-keys, named-last}
use Rattle.instance_registry.proofs.Registry.ends_with.Goals as goal

pub returns-in-None-clause-distinct : goal.returns-in-None-clause-distinct
returns-in-None-clause-distinct c = rw (← c.self.view_is) (PeersDistinct-keys _ c.len-unique.ensures.unique)

pub returns-in-Some-clause-distinct : goal.returns-in-Some-clause-distinct
returns-in-Some-clause-distinct c = rw (← c.self.view_is) (PeersDistinct-keys _ c.len-unique.ensures.unique)

pub returns-in-Some-clause-last : goal.returns-in-Some-clause-last
returns-in-Some-clause-last c = λ same. (
  c.in-Some.field-0-1.now,
  rw (← c.self.view_is) (named-last _ c.in-Some.last.now c.args.p c.in-Some.field-0-1.now c.in-Some.ensures.entry (sym c.eq.ensures ∙ same)),
)
