-- With no candidate the marks stand already.
use Rattle.std.proofs.Common.{◌∙◌, length, sym}
use Rattle.std.proofs.lemmas.Bool.{eqb-true}
use Rattle.std.proofs.lemmas.List.{nil_from_length}
use Rattle.managed_heap.proofs.snapshots.mark_slots_again.Goals as goal

pub returns-then-is_empty-clause-marks : goal.returns-then-is_empty-clause-marks
returns-then-is_empty-clause-marks c = c.requires.still (nil_from_length c.args.candidates.now (eqb-true (length c.args.candidates.now) 0 (sym c.is_empty.ensures ∙ c.if-is_empty.true)))
