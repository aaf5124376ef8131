-- The lists say where the end's references begin.
use Rattle.std.proofs.Common.{refl}
use Rattle.row_heap.specs.Ends.{first_in}
use Rattle.row_heap.proofs.Linked.{last-at}
use Rattle.row_heap.proofs.references.References.recall_lasts.Goals as goal

pub returns : goal.returns
returns c = λ e. (first_in c.self.inside.objects.items c.self.inside.temporaries.items e, last-at _ _ _ _ _ _ _ _ _ e _ c.self.view_is c.self.invariant refl)
