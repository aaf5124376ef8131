use Rattle.std.proofs.Common.{ℕ, length}
use Rattle.std.specs.List.{Contains}
use Rattle.joint_machine.proofs.WalkLemmas.{Reached-mono}
use Rattle.array_graphs.specs.Graphs.{LeadsInRow}
use Rattle.reachability.specs.Marks.{Leads}
use Rattle.cycle_check.specs.Walking.{row_targets}
use Rattle.cycle_check.proofs.Walked.{leads-row, row-leads}
use Rattle.cycle_check.proofs.reaching.mark_rows.Goals as goal

pub returns-clause-marks : goal.returns-clause-marks
returns-clause-marks c =
    let starts = c.args.starts.now in
    let targets = c.args.targets.now in
    let Root : ℕ → Type 0 = Contains c.args.roots.now in
    let On : ℕ → ℕ → Type 0 = Leads (length starts) (row_targets starts targets) in
    let In : ℕ → ℕ → Type 0 = LeadsInRow starts targets in λ k. (
      (λ m. Reached-mono Root Root On In (λ x r. r) (leads-row starts targets) k ((c.in_ok-marks.ensures.marks k).0 m)),
      (λ r. (c.in_ok-marks.ensures.marks k).1 (Reached-mono Root Root In On (λ x s. s) (row-leads starts targets) k r)),
    )
