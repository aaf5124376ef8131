-- A sweep is refused where no marking is open, or another thread's; else its entry is the one in turn.
use Rattle.std.proofs.Common.{None, refl}
use Rattle.joint_machine.specs.declared.events.Op.TheVariants as op
use Rattle.joint_machine.specs.Told.{sweep_of}
use Rattle.peer_heap.specs.Makings.{gone_since, step_makings}
use Rattle.peer_heap.specs.Sides.{ends}
use Rattle.peer_heap.proofs.Makings.{none-passes, open-ends, other-passes, turn-one, turn-refused}
use Rattle.peer_heap.proofs.side.PeerSide.end.Goals as goal

pub refuse-requires-clause-passes : goal.refuse-requires-clause-passes
refuse-requires-clause-passes g c = none-passes _ c.args.caller c.args.index c.in-None.ensures c.requires.caller c.requires.open

pub close_marking-span-requires-clause-ended : goal.close_marking-span-requires-clause-ended
close_marking-span-requires-clause-ended g c = open-ends _ _ c.args.caller c.in-Some.ensures c.if-may_end.ensures

pub refuse-requires-else-may_end-clause-passes : goal.refuse-requires-else-may_end-clause-passes
refuse-requires-else-may_end-clause-passes g c = other-passes _ c.args.caller c.args.index _ c.in-Some.ensures c.requires.caller c.if-may_end.ensures

pub returns-in-None-clause-adds : goal.returns-in-None-clause-adds
returns-in-None-clause-adds g c = turn-refused _ _ _ _ _ c.args.caller c.args.index op.Sweep _ c.refuse.result
    (λ r. step_makings c.args.caller c.args.index op.Sweep None r (gone_since c.args.self.now.state c.refuse.new.self.state)) refl c.refuse.ensures.reply c.refuse.ensures.adds

pub returns-then-may_end-clause-adds : goal.returns-then-may_end-clause-adds
returns-then-may_end-clause-adds g c =
    turn-one _ _ _ _ _ (ends c.args.caller c.args.index c.in-Some.marking c.close_marking-span.result)
    (sweep_of (gone_since c.args.self.now.state c.close_marking-span.new.self.state)) c.close_marking-span.ensures.swept

pub returns-else-may_end-clause-adds : goal.returns-else-may_end-clause-adds
returns-else-may_end-clause-adds g c =
    turn-refused _ _ _ _ _ c.args.caller c.args.index op.Sweep _ c.refuse-else-may_end.result
    (λ r. step_makings c.args.caller c.args.index op.Sweep None r (gone_since c.args.self.now.state c.refuse-else-may_end.new.self.state)) refl
    c.refuse-else-may_end.ensures.reply c.refuse-else-may_end.ensures.adds
