-- A row that isn't marked gets its mark and comes first in the grey list; a marked one is left alone.
use Rattle.row_marking.proofs.Greys.{Greyed-new}
use Rattle.row_marking.proofs.visit.Goals as goal

pub returns-then-not-is_marked-clause-greyed : goal.returns-then-not-is_marked-clause-greyed
returns-then-not-is_marked-clause-greyed g c =
    rw (c.mark.ensures.marks, c.mark.ensures.links) (Greyed-new c.args.y _ _ _ (rw c.if-not-is_marked.true at c.is_marked.ensures) c.requires.some c.mark.ensures.len)
