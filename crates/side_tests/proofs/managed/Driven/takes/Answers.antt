-- A `take` adopts no handle and leaves an open cycle as it is.
use Rattle.std.proofs.Common.{ap, inl, refl}
use Rattle.joint_machine.specs.declared.lines.Act.TheVariants as act
use Rattle.joint_machine.specs.Run.{thread_number}
use Rattle.joint_machine.specs.Told.{kept_pins, nothing}
use Rattle.joint_laws.proofs.ManagedMoves.{managed_line-goes_on}
use Rattle.joint_machine.specs.PinsTold.{with_pins}
use Rattle.managed_heap.specs.Pinned.{pin_given}
use Rattle.joint_machine.specs.Sides.{managed_rules}
use Rattle.managed_heap.specs.Steps.{take_op}
use Rattle.managed_heap.specs.Sides.{as_side}
use Rattle.side_tests.proofs.Counting.{counted-may}
use Rattle.side_tests.proofs.ManagedDrives.{driven-still, driven-same, thread-taken}
use Rattle.side_tests.proofs.PinsHeld.{take-stands}
use Rattle.side_tests.proofs.managed.Driven.takes.Goals as goal

pub invariant_of-self : goal.invariant_of-self
invariant_of-self c = driven-same (as_side c.self.inside.side) (as_side c.take.new.self) c.self.inside.gate.count c.take.new.draw c.self.inside.waiting c.self.inside.answered
    (ap as_side c.in_err-reply.ensures.err.0, c.in_err-reply.ensures.err.1) c.self.invariant

pub invariant_of-self-2 : goal.invariant_of-self-2
invariant_of-self-2 c =
    let k = c.recall_replays.ensures.kept in
    let pins = pin_given (thread_number c.args.caller) c.args.pin in
    driven-still (as_side c.self.inside.side) (as_side c.take.new.self) c.self.inside.gate.count c.take.new.draw c.self.inside.waiting c.self.inside.answered _
    (kept_pins pins nothing) c.in_ok-reply.ensures.adds (λ h k. inl k)
    (managed_line-goes_on (with_pins c.self.inside.side.state pins).managed (thread_number c.args.caller) (act.Take record { 0 = c.args.v }) k.managed.places k.managed.cells).cycle c.self.invariant

pub take-requires-clause-stands : goal.take-requires-clause-stands
take-requires-clause-stands c = take-stands c.self.inside.side.state.managed (thread_number c.args.caller) c.args.pin (c.if-not-may_hold.ensures refl)

pub take-requires-clause-may : goal.take-requires-clause-may
take-requires-clause-may c = counted-may managed_rules (as_side c.self.inside.side) c.self.inside.gate.count c.args.caller
    (take_op record { 0 = c.args.v }) (thread-taken c.args.caller (c.if-not-is_managed.ensures refl)) c.self.invariant.counted
