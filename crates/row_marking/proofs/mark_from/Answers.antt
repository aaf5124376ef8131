-- The marking is on its way once the roots are marked.
use Rattle.row_marking.proofs.Greys.{Greying-begins}
use Rattle.row_marking.proofs.mark_from.Goals as goal

pub finish-requires : goal.finish-requires
finish-requires g c = record {
  roots = c.args.roots.now;
  before = g.G.Traced.marks c.args.g.now;
  greying = rw c.mark_roots.ensures.kept (Greying-begins c.args.roots.now _ _ _ _ _ _ c.requires.shut c.mark_roots.ensures.greyed);
}

pub returns-clause-marks : goal.returns-clause-marks
returns-clause-marks g c = λ k.
    let marks = rw c.mark_roots.ensures.kept at c.finish.ensures.marks in
    marks c.args.roots.now (g.G.Traced.marks c.args.g.now) (Greying-begins c.args.roots.now _ _ _ _ _ _ c.requires.shut c.mark_roots.ensures.greyed) k
