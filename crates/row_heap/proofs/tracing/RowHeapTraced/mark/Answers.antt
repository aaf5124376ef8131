-- Only the mark and the link of the one row change.
use Rattle.std.proofs.Common.{refl}
use Rattle.row_heap.proofs.FieldCounts.{count-set}
use Rattle.row_heap.proofs.Walked.{stands-seen, IsRowHeap-marked, kept-marked, marks-written, links-written, link-at}
use Rattle.std.proofs.lemmas.Option.{slice_get_within}
use Rattle.row_heap.proofs.tracing.RowHeapTraced.mark.Goals as goal

pub mark-requires : goal.mark-requires
mark-requires g c = stands-seen _ _ _ _ c.self.inside.references _ _ c.args.self.now c.args.x c.self.view_is c.self.invariant.0.sound c.requires

pub invariant_of-self : goal.invariant_of-self
invariant_of-self g c = (
  IsRowHeap-marked _ _ _ _ _ c.self.inside.references _ _ c.args.x c.args.link c.self.invariant.0 c.mark.ensures,
  c.self.invariant.1,
  count-set _ _ _ c.args.x _ c.mark.ensures refl c.self.invariant.2,
)

pub returns-clause-kept : goal.returns-clause-kept
returns-clause-kept g c = kept-marked _ _ _ _ _ c.self.inside.references _ c.args.x c.args.link c.args.self.now c.self.view_is c.mark.ensures

pub returns-clause-marks : goal.returns-clause-marks
returns-clause-marks g c = marks-written _ _ _ _ _ c.self.inside.references _ c.args.x c.args.link c.args.self.now c.self.view_is c.requires.made.0 c.mark.ensures

pub returns-clause-links : goal.returns-clause-links
returns-clause-links g c = links-written _ _ _ _ _ c.self.inside.references _ c.args.x c.args.link c.args.self.now c.self.view_is c.requires.made.0 c.mark.ensures

pub returns-clause-len : goal.returns-clause-len
returns-clause-len g c =
    slice_get_within c.args.self.now.links c.args.x _ (link-at _ _ _ _ c.self.inside.references _ c.args.self.now c.args.x c.self.view_is
    (stands-seen _ _ _ _ c.self.inside.references _ _ c.args.self.now c.args.x c.self.view_is c.self.invariant.0.sound c.requires))
