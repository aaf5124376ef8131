use Rattle.std.proofs.Common.{◌-◌, ◌≤◌}
use Rattle.limited_reports.specs.Pieces.{IsTaken}
use Rattle.limited_reports.proofs.pieces.take_pieces.Given as goal

abbrev pub invariant-loop-count : goal.invariant-loop-count
invariant-loop-count g l = record {
  taken : IsTaken l.most (g.S.Source.left l.fn.src) (g.S.Source.left l.src) l.draft l.held.items l.count;
  within : l.count ≤ l.most;
  later : g.S.Source.faults l.fn.src ≤ g.S.Source.faults l.src;
}

abbrev pub decreases-loop-count : goal.decreases-loop-count
decreases-loop-count g l = l.most - l.count
