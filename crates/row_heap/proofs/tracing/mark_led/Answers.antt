-- A row without a reference of its own refers to nothing.
use Rattle.joint_machine.specs.PeerReplay.{Refers}
use Rattle.row_marking.proofs.Greys.{Greyed-none}
use Rattle.row_heap.proofs.Sound.{refers-from}
use Rattle.row_heap.proofs.tracing.mark_led.Goals as goal

pub mark_references-requires-clause-ends : goal.mark_references-requires-clause-ends
mark_references-requires-clause-ends c = c.requires.ends

pub mark_references-requires-clause-sights : goal.mark_references-requires-clause-sights
mark_references-requires-clause-sights c = c.requires.sights

pub returns-then-lead_from-clause-sights : goal.returns-then-lead_from-clause-sights
returns-then-lead_from-clause-sights c = c.mark_references.ensures.sights

pub returns-then-lead_from-clause-greyed : goal.returns-then-lead_from-clause-greyed
returns-then-lead_from-clause-greyed c = c.mark_references.ensures.greyed

pub returns-else-lead_from-clause-sights : goal.returns-else-lead_from-clause-sights
returns-else-lead_from-clause-sights c = c.requires.sights

pub returns-else-lead_from-clause-greyed : goal.returns-else-lead_from-clause-greyed
returns-else-lead_from-clause-greyed c =
    Greyed-none (Refers c.args.references.now.refs c.args.x) _ _ _ (λ y w. (let r = refers-from c.args.references.now.refs c.args.x y w in c.lead_from.ensures c.if-lead_from.false r.0 r.1))
