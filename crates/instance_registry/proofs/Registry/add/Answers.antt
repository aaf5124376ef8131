use Rattle.std.proofs.Common.{◌≡◌, ◌∙◌, None}
use Rattle.indexmap.proofs.CallerLemmas.{insert_entry-new}
use Rattle.instance_registry.specs.Pairs.{twin_in}
use Rattle.instance_registry.proofs.Pairs.{PeersDistinct-keys}
use Rattle.instance_registry.proofs.Registry.add.Goals as goal
use Rattle.instance_registry.proofs.Registry.add.Goals.{in-Ok, in-Err}

pub returns-then-len-eq-MOST-clause-distinct : goal.returns-then-len-eq-MOST-clause-distinct
returns-then-len-eq-MOST-clause-distinct c = rw (← c.self.view_is) (PeersDistinct-keys _ c.len.ensures.unique)

pub returns-clause-distinct : goal.returns-clause-distinct
returns-clause-distinct c = PeersDistinct-keys _ c.insert.ensures.unique

pub returns-clause-ok : goal.returns-clause-ok
returns-clause-ok c =
    let none : twin_in c.self.inside.pairs.entries c.args.p ≡ None = rw c.self.view_is c.requires in
    elim c.match-insert.branch [
      | in-Ok w ↦ rw (w.result-is, ← c.self.view_is) (w.in-Ok.ensures.entries ∙ insert_entry-new _ c.self.inside.pairs c.args.p c.args.m none)
      | in-Err w ↦ rw w.result-is tt
    ]
