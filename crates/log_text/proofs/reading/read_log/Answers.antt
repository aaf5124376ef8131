use Rattle.std.proofs.Common.{subst}
use Rattle.byte_streams.proofs.Passing.{passed_on}
use Rattle.log_text.specs.Behind.{IsLog}
use Rattle.log_text.proofs.ReadLines.{ended, grew, not-finished, room, stopped}
use Rattle.log_text.proofs.reading.read_log.Goals as goal

pub take-requires : goal.take-requires
take-requires c = room c.args.bytes.now c.loop-line.lines c.loop-line.log c.loop-line.invariant c.requires

pub returns-in_err-take-clause-err : goal.returns-in_err-take-clause-err
returns-in_err-take-clause-err c =
    rw (passed_on c.from_residual.result c.in_err-take.field-0.0 c.from_residual.ensures.0 c.from_residual.ensures.1)
    (stopped c.args.bytes.now c.requires c.loop-line.log c.take.ensures.log c.loop-line.lines c.loop-line.invariant
    c.in-Some.line.text c.next.new.self c.in-Some.line.closed c.in_err-take.field-0.0 c.in-Some.ensures c.in_err-take.ensures.line)

pub finish-requires : goal.finish-requires
finish-requires c =
    let taken = rw c.if-not-branch.true at c.in_ok-take.ensures.line in
    rw (taken.1.kept) (room c.args.bytes.now c.loop-line.lines c.loop-line.log c.loop-line.invariant c.requires)

pub returns-then-not-branch-clause-err : goal.returns-then-not-branch-clause-err
returns-then-not-branch-clause-err c =
    let taken = rw c.if-not-branch.true at c.in_ok-take.ensures.line in
    not-finished c.args.bytes.now c.requires c.loop-line.log c.take.ensures.log c.loop-line.lines c.loop-line.invariant c.in-Some.line.text
    c.next.new.self c.in-Some.line.closed c.in-Some.ensures taken.0 c.take.new.self c.finish.result taken.1 c.finish.ensures.log c.finish.ensures.end

pub loop-line-preserved : goal.loop-line-preserved
loop-line-preserved c =
    let taken = rw c.if-not-branch.false at c.in_ok-take.ensures.line in
    grew c.args.bytes.now c.requires c.loop-line.log c.take.ensures.log c.loop-line.lines c.loop-line.invariant
    c.in-Some.line.text c.next.new.self c.in-Some.line.closed c.in-Some.ensures taken.0 c.take.new.self taken.1

pub refusal-requires : goal.refusal-requires
refusal-requires c = room c.args.bytes.now c.loop-line.lines c.loop-line.log c.loop-line.invariant c.requires

pub returns-clause-err : goal.returns-clause-err
returns-clause-err c = ended c.args.bytes.now c.requires c.loop-line.log
    (subst IsLog c.log-2.view_is c.log-2.invariant.lawful) c.loop-line.lines c.loop-line.invariant c.in_default.ensures.0 c.refusal.result c.refusal.ensures
