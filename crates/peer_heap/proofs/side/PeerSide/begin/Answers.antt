-- A begin is refused where a marking is open, which the side tells; else its entry is the one in turn.
use Rattle.std.proofs.Common.{None, refl}
use Rattle.joint_machine.specs.declared.events.Op.TheVariants as op
use Rattle.joint_machine.specs.Told.{nothing}
use Rattle.peer_heap.specs.Makings.{gone_since, step_makings}
use Rattle.peer_heap.specs.Sides.{begins}
use Rattle.peer_heap.proofs.Ends.{none-open}
use Rattle.std.proofs.lemmas.Result.{IfOk-from_err}
use Rattle.peer_heap.proofs.Makings.{begin-passes, turn-one, turn-refused}
use Rattle.peer_heap.proofs.side.PeerSide.begin.Goals as goal

pub refuse-requires-clause-passes : goal.refuse-requires-clause-passes
refuse-requires-clause-passes g c = begin-passes _ c.args.caller c.args.index _ c.in-Some.ensures c.requires.caller

pub open_marking-requires-clause-closed : goal.open_marking-requires-clause-closed
open_marking-requires-clause-closed g c = none-open _ c.in-None.ensures

pub returns-in-Some-clause-adds : goal.returns-in-Some-clause-adds
returns-in-Some-clause-adds g c = turn-refused _ _ _ _ _ c.args.caller c.args.index op.Begin
    _ c.refuse.result (λ r. step_makings c.args.caller c.args.index op.Begin None r (gone_since c.args.self.now.state c.refuse.new.self.state)) refl c.refuse.ensures.reply c.refuse.ensures.adds

pub returns-in_ok-marking-in-None-clause-adds : goal.returns-in_ok-marking-in-None-clause-adds
returns-in_ok-marking-in-None-clause-adds g c = turn-one _ _ _ _ _ (begins c.args.caller c.args.index c.in_ok-marking-in-None.marking) nothing c.in_ok-marking-in-None.ensures.begun

pub returns-in_err-marking-in-None-clause-adds : goal.returns-in_err-marking-in-None-clause-adds
returns-in_err-marking-in-None-clause-adds g c = IfOk-from_err c.from_residual.result _ c.from_residual.ensures.0
