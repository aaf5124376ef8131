-- A begin and the sweep of its marking come in turn; where a marking is open the begin is refused.
use Rattle.std.proofs.Common.{inl, refl}
use Rattle.joint_machine.specs.declared.events.Op.TheVariants as op
use Rattle.joint_machine.specs.Told.{nothing}
use Rattle.peer_heap.specs.Makings.{collect_makings, gone_since}
use Rattle.peer_heap.specs.Sides.{begins}
use Rattle.peer_heap.proofs.Ends.{none-open}
use Rattle.std.proofs.lemmas.Result.{IfOk-from_err}
use Rattle.peer_heap.proofs.Makings.{begin-passes, begun-ended, draws-on, turn-collect, turn-refused}
use Rattle.peer_heap.proofs.side.PeerSide.collect.Goals as goal

pub refuse-requires-clause-passes : goal.refuse-requires-clause-passes
refuse-requires-clause-passes g c = begin-passes _ c.args.caller c.args.index _ c.in-Some.ensures (inl c.requires.caller)

pub open_marking-requires-clause-closed : goal.open_marking-requires-clause-closed
open_marking-requires-clause-closed g c = none-open _ c.in-None.ensures

pub close_marking-freed-requires-clause-ended : goal.close_marking-freed-requires-clause-ended
close_marking-freed-requires-clause-ended g c = begun-ended _ _ c.args.caller c.args.index c.in_ok-marking-in-None.marking c.in_ok-marking-in-None.ensures.begun.goes

pub close_marking-freed-requires-clause-may : goal.close_marking-freed-requires-clause-may
close_marking-freed-requires-clause-may g c = draws-on _ _ _ _ _
    (begins c.args.caller c.args.index c.in_ok-marking-in-None.marking) nothing c.args.caller op.Sweep c.in_ok-marking-in-None.ensures.begun refl c.requires.may_sweep

pub returns-in-Some-clause-adds : goal.returns-in-Some-clause-adds
returns-in-Some-clause-adds g c = turn-refused _ _ _ _ _ c.args.caller c.args.index op.Begin
    _ c.refuse.result (λ r. collect_makings c.args.caller c.args.index r (gone_since c.args.self.now.state c.refuse.new.self.state)) refl c.refuse.ensures.reply c.refuse.ensures.adds

pub returns-in_ok-marking-in-None-clause-adds : goal.returns-in_ok-marking-in-None-clause-adds
returns-in_ok-marking-in-None-clause-adds g c = turn-collect _ _ _ _ _ _ _ c.args.caller c.args.index
    c.in_ok-marking-in-None.marking _ c.in_ok-marking-in-None.ensures.begun c.close_marking-freed.ensures.swept

pub returns-in_err-marking-in-None-clause-adds : goal.returns-in_err-marking-in-None-clause-adds
returns-in_err-marking-in-None-clause-adds g c = IfOk-from_err c.from_residual.result _ c.from_residual.ensures.0
