use Rattle.std.proofs.Common.{◌∙◌, sym}
use Rattle.joint_machine.specs.HistoryLines.{caller_line}
use Rattle.joint_history.proofs.Fitting.{is_lent}
use Rattle.joint_history.proofs.KnownCallers.{own_line}
use Rattle.joint_history.proofs.LockedSteps.{did, more_back}
use Rattle.joint_history.proofs.steps.Locked.make.Goals as goal

pub lend-requires-clause-order : goal.lend-requires-clause-order
lend-requires-clause-order g c = (c.self.invariant.0 ∙ sym c.requires.order.0, c.requires.order.1 ∙ sym c.requires.order.0)

pub lend-requires-clause-settled : goal.lend-requires-clause-settled
lend-requires-clause-settled g c = (c.self.invariant.3, c.requires.settled)

pub draw-out-requires-clause-asks : goal.draw-out-requires-clause-asks
draw-out-requires-clause-asks g c = c.requires.fits.asked c.args.order.now c.lend.new.locked c.lend.new.mine.view c.self.inside.side
    (is_lent g.S.Sided.line (g.S.Sided.knows g.N.OrderName.managed g.N.OrderName.peers) c.args.caller c.args.order.now c.self.inside.seat.view c.args.mine.now.view c.lend.new.locked
    c.lend.new.mine.view c.self.inside.side c.requires.pass c.self.invariant.1 c.self.invariant.2 c.lend.ensures.order.0 c.lend.ensures.settled.0 c.lend.ensures.lent)

pub draw-out-requires-clause-settled : goal.draw-out-requires-clause-settled
draw-out-requires-clause-settled g c = c.lend.ensures.settled.0

pub give_back-requires-clause-order : goal.give_back-requires-clause-order
give_back-requires-clause-order g c =
    let w = c.requires.fits.further c.args.order.now c.lend.new.locked c.draw-out.new.seat c.self.inside.side c.draw-out.new.side c.draw-out.result c.draw-out.ensures.drew in
    (w.order ∙ c.lend.ensures.order.0, c.lend.ensures.order.1)

pub give_back-requires-clause-settled : goal.give_back-requires-clause-settled
give_back-requires-clause-settled g c = (c.draw-out.ensures.settled, c.lend.ensures.settled.1)

pub give_back-requires-clause-pass : goal.give_back-requires-clause-pass
give_back-requires-clause-pass g c =
    let t = c.args.caller in
    let w = c.requires.fits.further c.args.order.now c.lend.new.locked c.draw-out.new.seat c.self.inside.side c.draw-out.new.side c.draw-out.result c.draw-out.ensures.drew in
    (c.requires.pass.0, w.owns (caller_line t) (c.lend.ensures.lent.lines (caller_line t) (own_line t) (c.requires.pass.1 (caller_line t) (own_line t))))

pub give_back-requires-clause-more : goal.give_back-requires-clause-more
give_back-requires-clause-more g c =
    let w = c.requires.fits.further c.args.order.now c.lend.new.locked c.draw-out.new.seat c.self.inside.side c.draw-out.new.side c.draw-out.result c.draw-out.ensures.drew in
    more_back c.args.caller c.self.inside.seat.view c.args.mine.now.view c.lend.new.locked.view c.lend.new.mine.view c.draw-out.new.seat.view c.lend.ensures.lent w.more

pub invariant_of-self : goal.invariant_of-self
invariant_of-self g c =
    let w = c.requires.fits.further c.args.order.now c.lend.new.locked c.draw-out.new.seat c.self.inside.side c.draw-out.new.side c.draw-out.result c.draw-out.ensures.drew in
    let d = did c.args.caller c.self.inside.seat.view c.args.mine.now.view c.lend.new.locked.view c.lend.new.mine.view c.draw-out.new.seat.view c.give_back.new.locked.view
    c.give_back.new.mine.view g.S.Sided.line c.requires.pass.0 c.requires.fits.side c.requires.pass.1 c.self.invariant.1 c.lend.ensures.lent w.owns c.give_back.ensures.returned in
    let l = is_lent g.S.Sided.line (g.S.Sided.knows g.N.OrderName.managed g.N.OrderName.peers) c.args.caller c.args.order.now c.self.inside.seat.view c.args.mine.now.view c.lend.new.locked
    c.lend.new.mine.view c.self.inside.side c.requires.pass c.self.invariant.1 c.self.invariant.2 c.lend.ensures.order.0 c.lend.ensures.settled.0 c.lend.ensures.lent in
    let k = c.requires.fits.left c.args.order.now c.lend.new.locked c.draw-out.new.seat c.lend.new.mine.view c.give_back.new.locked.view
    c.give_back.new.mine.view c.self.inside.side c.draw-out.new.side c.draw-out.result l c.draw-out.ensures.drew c.give_back.ensures.returned in
    (c.give_back.ensures.order.0 ∙ c.requires.order.0, d.owns, k.0, c.give_back.ensures.settled.0)

pub returns-clause-order : goal.returns-clause-order
returns-clause-order g c = c.give_back.ensures.order.1 ∙ c.requires.order.0

pub returns-clause-settled : goal.returns-clause-settled
returns-clause-settled g c = c.give_back.ensures.settled.1

pub returns-clause-pass : goal.returns-clause-pass
returns-clause-pass g c =
    let w = c.requires.fits.further c.args.order.now c.lend.new.locked c.draw-out.new.seat c.self.inside.side c.draw-out.new.side c.draw-out.result c.draw-out.ensures.drew in
    (did c.args.caller c.self.inside.seat.view c.args.mine.now.view c.lend.new.locked.view c.lend.new.mine.view c.draw-out.new.seat.view c.give_back.new.locked.view c.give_back.new.mine.view
    g.S.Sided.line c.requires.pass.0 c.requires.fits.side c.requires.pass.1 c.self.invariant.1 c.lend.ensures.lent w.owns c.give_back.ensures.returned).pass

pub returns-clause-makes : goal.returns-clause-makes
returns-clause-makes g c =
    let l = is_lent g.S.Sided.line (g.S.Sided.knows g.N.OrderName.managed g.N.OrderName.peers) c.args.caller c.args.order.now c.self.inside.seat.view c.args.mine.now.view c.lend.new.locked
    c.lend.new.mine.view c.self.inside.side c.requires.pass c.self.invariant.1 c.self.invariant.2 c.lend.ensures.order.0 c.lend.ensures.settled.0 c.lend.ensures.lent in
    (c.requires.fits.left c.args.order.now c.lend.new.locked c.draw-out.new.seat c.lend.new.mine.view c.give_back.new.locked.view
    c.give_back.new.mine.view c.self.inside.side c.draw-out.new.side c.draw-out.result l c.draw-out.ensures.drew c.give_back.ensures.returned).1
