-- The place of the cell gets the target.
use Rattle.std.proofs.Common.{ap, ◌∙◌}
use Rattle.std.specs.Prelude.{map, slice_set}
use Rattle.std.proofs.lemmas.List.{map-set}
use Rattle.managed_heap.proofs.targets.Cells.set.Goals as goal

pub returns : goal.returns
returns c = rw (← c.self.view_is) (map-set (λ s. s.value) c.self.inside.list.items c.args.k c.of.result ∙ ap (λ o. slice_set (map (λ s. s.value) c.self.inside.list.items) c.args.k o) c.of.ensures)
