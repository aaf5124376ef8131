use Rattle.std.proofs.Common.{arith, ◌∙◌, sym}
use Rattle.managed_heap.specs.Sides.{as_side}
use Rattle.joint_history.proofs.LockedReads.{called_read}
use Rattle.joint_history.proofs.managed.Locked+N+ManagedSide.read.Goals as goal

pub invariant_of-self : goal.invariant_of-self
invariant_of-self g c =
    let w = called_read c.args.caller c.reader_of-reader.result c.args.index c.args.act.now c.read_locked-number.result.0 c.read_locked-number.result.1 c.reply_of.result
    c.self.inside.seat.view c.args.mine.now.view c.read_locked-number.new.locked.view c.read_locked-number.new.mine.view (as_side c.self.inside.side) _ _
    c.requires.pass.0 c.reader_of-reader.ensures.number c.reader_of-reader.ensures.few.0 c.reader_of-reader.ensures.few.1 c.requires.act
    (omega (arith, c.ranges.index.fits)) c.reply_of.ensures c.self.invariant.1 c.self.invariant.2.0 c.read_locked-number.ensures.reads c.requires.pass.1 c.requires.may c.requires.reads in
    (c.read_locked-number.ensures.order.0 ∙ c.requires.order.0, w.owns, (w.knows, c.self.invariant.2.1), c.read_locked-number.ensures.settled.0)

pub returns-clause-makes : goal.returns-clause-makes
returns-clause-makes g c =
    (called_read c.args.caller c.reader_of-reader.result c.args.index c.args.act.now c.read_locked-number.result.0 c.read_locked-number.result.1 c.reply_of.result
    c.self.inside.seat.view c.args.mine.now.view c.read_locked-number.new.locked.view c.read_locked-number.new.mine.view (as_side c.self.inside.side) _ _
    c.requires.pass.0 c.reader_of-reader.ensures.number c.reader_of-reader.ensures.few.0 c.reader_of-reader.ensures.few.1 c.requires.act
    (omega (arith, c.ranges.index.fits)) c.reply_of.ensures c.self.invariant.1 c.self.invariant.2.0 c.read_locked-number.ensures.reads c.requires.pass.1 c.requires.may c.requires.reads).makes

pub read_locked-number-requires-clause-order : goal.read_locked-number-requires-clause-order
read_locked-number-requires-clause-order g c = (c.self.invariant.0 ∙ sym c.requires.order.0, c.requires.order.1 ∙ sym c.requires.order.0)

pub read_locked-number-requires-clause-settled : goal.read_locked-number-requires-clause-settled
read_locked-number-requires-clause-settled g c = (c.self.invariant.3, c.requires.settled)

pub read_locked-number-requires-clause-reader : goal.read_locked-number-requires-clause-reader
read_locked-number-requires-clause-reader g c = c.reader_of-reader.ensures.few

pub read_locked-number-requires-clause-act : goal.read_locked-number-requires-clause-act
read_locked-number-requires-clause-act g c = c.requires.act

pub read_locked-number-requires-clause-spare : goal.read_locked-number-requires-clause-spare
read_locked-number-requires-clause-spare g c = c.requires.spare

pub returns-clause-order : goal.returns-clause-order
returns-clause-order g c = c.read_locked-number.ensures.order.1 ∙ c.requires.order.0

pub returns-clause-settled : goal.returns-clause-settled
returns-clause-settled g c = c.read_locked-number.ensures.settled.1
