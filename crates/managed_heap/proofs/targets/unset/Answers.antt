-- One more cell comes last, and it isn't set.
use Rattle.std.proofs.Common.{◌≡◌, ◌++◌, ◌∷◌, [], ◌∙◌, map, None, ap, length}
use Rattle.std.proofs.lemmas.List.{map_push, replicate_more}
use Rattle.managed_heap.proofs.targets.unset.Goals as goal

pub loop-preserved : goal.loop-preserved
loop-preserved c =
    rw (c.in_ok-push.ensures.items, map_push, c.of.ensures, c.loop.invariant) (replicate_more c.loop.counter None)
