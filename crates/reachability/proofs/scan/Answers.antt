-- One more place of the node is done in each turn: its target is marked, or it is empty.
use Rattle.std.proofs.Common.{◌∙◌, ◌≤◌, length, Some, None, arith}
use Rattle.std.proofs.lemmas.List.{take_all}
use Rattle.reachability.proofs.Marking.{Scans-push_some, Scans-push_none}
use Rattle.reachability.proofs.scan.Goals as goal
use Rattle.reachability.proofs.scan.Goals.{in-Some, in_default}
use Rattle.joint_machine.proofs.Members.{take-next}

pub loop-i-preserved : goal.loop-i-preserved
loop-i-preserved g c =
    let xs = g.G.Walked.targets c.args.g.now c.args.x in
    elim c.match-target.branch [
      | in-Some w ↦ record {
        scans = rw (w.marks-is, w.waiting-is, take-next xs c.loop-i.i (Some w.in-Some.y) w.in-Some.ensures.at)
            (Scans-push_some _ _ _ _ _ _ _ _ c.loop-i.invariant.scans w.visit.ensures.scans);
        capacity = rw w.waiting-is (w.visit.ensures.capacity ∙ c.loop-i.invariant.capacity);
      }
      | in_default w ↦ record {
        scans = rw (w.marks-is, w.waiting-is, take-next xs c.loop-i.i None w.in_default.ensures.at)
            (Scans-push_none _ _ _ _ _ c.loop-i.invariant.scans);
        capacity = rw w.waiting-is c.loop-i.invariant.capacity;
      }
    ]

pub returns-clause-scans : goal.returns-clause-scans
returns-clause-scans g c =
    let xs = g.G.Walked.targets c.args.g.now c.args.x in
    let all : length xs ≤ c.loop-i.i = omega (arith, c.loop-i-test.false, c.degree-i-end.ensures) in
    rw take_all at c.loop-i.invariant.scans
