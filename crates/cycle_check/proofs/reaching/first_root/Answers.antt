use Rattle.std.proofs.Common.{length}
use Rattle.std.specs.List.{Contains}
use Rattle.joint_machine.proofs.WalkLemmas.{Reached-mono, Reaches-mono}
use Rattle.array_graphs.specs.Graphs.{LeadsInRow}
use Rattle.reachability.specs.Marks.{Leads}
use Rattle.cycle_check.specs.Walking.{row_targets}
use Rattle.cycle_check.proofs.Walked.{leads-row, row-leads}
use Rattle.cycle_check.proofs.reaching.first_root.Goals as goal

pub first_to_reach-requires-clause-reached : goal.first_to_reach-requires-clause-reached
first_to_reach-requires-clause-reached c =
    let starts = c.args.starts.now in
    let targets = c.args.targets.now in
    Reached-mono (Contains c.args.roots.now) (Contains c.args.roots.now) (LeadsInRow starts targets) (Leads (length starts) (row_targets starts targets))
    (λ x r. r) (row-leads starts targets) c.args.y c.requires.reached

pub returns-clause-reaches : goal.returns-clause-reaches
returns-clause-reaches c =
    let starts = c.args.starts.now in
    let targets = c.args.targets.now in
    Reaches-mono (Leads (length starts) (row_targets starts targets)) (LeadsInRow starts targets) (leads-row starts targets) c.in_ok-root.root c.args.y c.in_ok-root.ensures.reaches
