-- The row is marked now, and comes first.
use Rattle.row_marking.proofs.Greys.{Greyed-new}
use Rattle.store_tests.proofs.markings.Five.see.Goals as goal

pub returns-then-not-is_marked : goal.returns-then-not-is_marked
returns-then-not-is_marked c = rw (c.mark.ensures.marks, c.mark.ensures.links) (Greyed-new c.args.y _ _ _ (rw c.if-not-is_marked.true at c.is_marked.ensures) c.requires.0 c.mark.ensures.len)
