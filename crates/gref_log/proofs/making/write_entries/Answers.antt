use Rattle.std.proofs.Common.{arith}
use Rattle.joint_model.specs.Leaders.{entry_of}
use Rattle.gref_log.proofs.Writing.{all-walked, none-walked, one-entry}
use Rattle.gref_log.proofs.making.write_entries.Goals as goal

pub loop-step-init : goal.loop-step-init
loop-step-init g c = rw c.walk-walk.ensures.all (none-walked c.args.h.now.entries c.args.making.now
    (g.K.Sink.held c.args.out.now) c.args.line.now.text (g.K.Sink.faults c.args.out.now) tt c.requires.nothing c.requires.room c.requires.limit)

pub take_step-lines-requires : goal.take_step-lines-requires
take_step-lines-requires g c = (let r = rw c.in-Some.ensures at c.loop-step.invariant.room in omega (arith, r))

pub loop-step-preserved : goal.loop-step-preserved
loop-step-preserved g c =
    let l = c.loop-step in
    let w = rw c.in-Some.ensures at l.invariant in
    rw c.len-count.ensures.length
    (one-entry c.args.h.now.entries c.next.new.self (entry_of c.in-Some.step) l.making c.take_step-lines.new.self l.count (g.K.Sink.held c.args.out.now)
    (g.K.Sink.held l.out) (g.K.Sink.held c.write_after-sent.new.out) c.args.line.now.text l.line.text c.write_after-sent.new.line.text
    (g.K.Sink.faults c.args.out.now) (g.K.Sink.faults l.out) (g.K.Sink.faults c.write_after-sent.new.out) l.sent c.write_after-sent.result
    c.take_step-lines.result w c.take_step-lines.ensures.lines c.take_step-lines.ensures.fits c.take_step-lines.ensures.room
    (λ x s. c.write_after-sent.ensures (g.K.Sink.held c.args.out.now) c.args.line.now.text x (g.K.Sink.faults c.args.out.now) s))

pub returns-clause-count : goal.returns-clause-count
returns-clause-count g c =
    let w = rw c.in_default.ensures.0 at c.loop-step.invariant in
    let a = all-walked c.args.h.now.entries c.loop-step.making c.loop-step.count (g.K.Sink.held c.args.out.now)
    (g.K.Sink.held c.loop-step.out) c.args.line.now.text c.loop-step.line.text (g.K.Sink.faults c.args.out.now) (g.K.Sink.faults c.loop-step.out) c.loop-step.sent w in
    a.counts

pub returns-clause-fits : goal.returns-clause-fits
returns-clause-fits g c =
    let w = rw c.in_default.ensures.0 at c.loop-step.invariant in
    let a = all-walked c.args.h.now.entries c.loop-step.making c.loop-step.count (g.K.Sink.held c.args.out.now)
    (g.K.Sink.held c.loop-step.out) c.args.line.now.text c.loop-step.line.text (g.K.Sink.faults c.args.out.now) (g.K.Sink.faults c.loop-step.out) c.loop-step.sent w in
    a.fits

pub returns-clause-handles : goal.returns-clause-handles
returns-clause-handles g c =
    let w = rw c.in_default.ensures.0 at c.loop-step.invariant in
    let a = all-walked c.args.h.now.entries c.loop-step.making c.loop-step.count (g.K.Sink.held c.args.out.now)
    (g.K.Sink.held c.loop-step.out) c.args.line.now.text c.loop-step.line.text (g.K.Sink.faults c.args.out.now) (g.K.Sink.faults c.loop-step.out) c.loop-step.sent w in
    omega (arith, a.handles, c.recall_numbers_fit.ensures)

pub returns-clause-sends : goal.returns-clause-sends
returns-clause-sends g c =
    let w = rw c.in_default.ensures.0 at c.loop-step.invariant in
    let a = all-walked c.args.h.now.entries c.loop-step.making c.loop-step.count (g.K.Sink.held c.args.out.now)
    (g.K.Sink.held c.loop-step.out) c.args.line.now.text c.loop-step.line.text (g.K.Sink.faults c.args.out.now) (g.K.Sink.faults c.loop-step.out) c.loop-step.sent w in
    a.sends
