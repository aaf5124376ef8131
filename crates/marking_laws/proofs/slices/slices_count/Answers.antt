-- By the lemmas.
use Rattle.marking_laws.proofs.SliceCounts.{black-counts, brought-counts, done-black, shading-counts}
use Rattle.marking_laws.proofs.slices.slices_count.Goals as goal

pub returns-clause-black : goal.returns-clause-black
returns-clause-black c = black-counts

pub returns-clause-shade : goal.returns-clause-shade
returns-clause-shade c = shading-counts

pub returns-clause-brought : goal.returns-clause-brought
returns-clause-brought c = brought-counts

pub returns-clause-done : goal.returns-clause-done
returns-clause-done c = done-black
