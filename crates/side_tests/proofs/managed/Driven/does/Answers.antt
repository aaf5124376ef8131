-- The handle that an event names is the next one, which none of those that rows took is.
use Rattle.std.proofs.Common.{ap, ◌+◌, length, subst, refl}
use Rattle.joint_machine.specs.Sides.{managed_rules}
use Rattle.joint_machine.specs.Told.{nothing}
use Rattle.joint_machine.specs.PinsTold.{no_pins, with_pins}
use Rattle.known_laws.proofs.Pinned.{none_stand}
use Rattle.managed_heap.proofs.Kept.{kept-pinned}
use Rattle.managed_heap.specs.Sides.{as_side}
use Rattle.side_tests.specs.Drives.{NamesNext}
use Rattle.side_tests.proofs.Counting.{counted-may}
use Rattle.side_tests.proofs.ManagedDrives.{driven-still, driven-same, fresh-next, managed-taken, step-cycle, step-named}
use Rattle.side_tests.proofs.managed.Driven.does.Goals as goal

pub step-requires-clause-fresh : goal.step-requires-clause-fresh
step-requires-clause-fresh c =
    let i = c.self.inside in
    fresh-next i.side.state c.args.op (length i.side.entries + i.answered) (subst (λ n. NamesNext c.args.op n) c.in-Some.ensures (c.if-not-names_next.ensures refl)) c.self.invariant.adopts

pub step-requires-clause-may : goal.step-requires-clause-may
step-requires-clause-may c = counted-may managed_rules (as_side c.self.inside.side) c.self.inside.gate.count c.args.caller c.args.op
    (managed-taken c.args.caller c.args.op (c.if-not-is_step.ensures refl)) c.self.invariant.counted

pub invariant_of-self : goal.invariant_of-self
invariant_of-self c = driven-same (as_side c.self.inside.side) (as_side c.step.new.self) c.self.inside.gate.count c.step.new.draw c.self.inside.waiting c.self.inside.answered
    (ap as_side c.in_err-reply.ensures.err.0, c.in_err-reply.ensures.err.1) c.self.invariant

pub invariant_of-self-2 : goal.invariant_of-self-2
invariant_of-self-2 c =
    let i = c.self.inside in
    let s = with_pins c.self.inside.side.state no_pins in
    let by = (c.if-not-is_step.ensures refl).1 in
    driven-still (as_side c.self.inside.side) (as_side c.step.new.self) c.self.inside.gate.count c.step.new.draw c.self.inside.waiting c.self.inside.answered _ nothing c.in_ok-reply.ensures.adds
    (step-named s c.args.caller c.args.op (length i.side.entries + i.answered) by (subst (λ n. NamesNext c.args.op n) c.in-Some.ensures (c.if-not-names_next.ensures refl)))
    (step-cycle s c.args.caller c.args.op (kept-pinned c.self.inside.side.state no_pins (none_stand c.self.inside.side.state.managed) c.recall_replays.ensures.kept) by) c.self.invariant
