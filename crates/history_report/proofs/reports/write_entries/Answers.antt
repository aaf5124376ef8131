use Rattle.std.proofs.Common.{arith, ap}
use Rattle.joint_model.specs.declared.leaders.Step.TheVariants as step
use Rattle.joint_model.specs.Leaders.{entry_of}
use Rattle.byte_streams.proofs.Passing.{passed_on}
use Rattle.history_report.proofs.Written.{none_reported, one_more, not_reported, all_reported}
use Rattle.history_report.proofs.reports.write_entries.Goals as goal

pub loop-step-init : goal.loop-step-init
loop-step-init g c = record { reported = rw c.walk-walk.ensures.all (none_reported c.args.h.now (g.K.Sink.held c.args.out.now) c.args.line.now.text); later = omega arith }

pub returns-in_err-write_entry-in-Kept : goal.returns-in_err-write_entry-in-Kept
returns-in_err-write_entry-in-Kept g c =
    let reported = rw (c.in-Some.ensures, ap entry_of c.in-Kept.is) at c.loop-step.invariant.reported in
    rw (passed_on c.from_residual.result c.in_err-write_entry-in-Kept.field-0.0 c.from_residual.ensures.0 c.from_residual.ensures.1)
    (not_reported c.args.h.now (entry_of (step.Kept c.in-Kept.entry)) c.next.new.self (g.K.Sink.held c.args.out.now) (g.K.Sink.held c.loop-step.out)
    (g.K.Sink.held c.write_entry.new.out) c.args.line.now.text c.loop-step.line.text c.write_entry.new.line.text
    (g.K.Sink.faults c.args.out.now) (g.K.Sink.faults c.loop-step.out)
    (g.K.Sink.faults c.write_entry.new.out) c.in_err-write_entry-in-Kept.field-0.0 reported c.loop-step.invariant.later c.in_err-write_entry-in-Kept.ensures)

pub loop-step-preserved-in-Continue-1 : goal.loop-step-preserved-in-Continue-1
loop-step-preserved-in-Continue-1 g c =
    let reported = rw (c.in-Some.ensures, ap entry_of c.in-Kept.is) at c.loop-step.invariant.reported in
    let w = c.in_ok-write_entry-in-Kept.ensures in
    record {
      reported = one_more c.args.h.now (entry_of (step.Kept c.in-Kept.entry)) c.next.new.self (g.K.Sink.held c.args.out.now) (g.K.Sink.held c.loop-step.out)
          (g.K.Sink.held c.write_entry.new.out) c.args.line.now.text c.loop-step.line.text c.write_entry.new.line.text
          reported w.whole;
      later = omega (arith, w.cause.later);
    }

pub returns-in_err-write_told-in-Spelled : goal.returns-in_err-write_told-in-Spelled
returns-in_err-write_told-in-Spelled g c =
    let reported = rw (c.in-Some.ensures, ap entry_of c.in-Spelled.is) at c.loop-step.invariant.reported in
    rw (passed_on c.from_residual-in_err-write_told-in-Spelled.result c.in_err-write_told-in-Spelled.field-0.0
    c.from_residual-in_err-write_told-in-Spelled.ensures.0 c.from_residual-in_err-write_told-in-Spelled.ensures.1)
    (not_reported c.args.h.now c.in-Spelled.entry c.next.new.self (g.K.Sink.held c.args.out.now) (g.K.Sink.held c.loop-step.out)
    (g.K.Sink.held c.write_told.new.out) c.args.line.now.text c.loop-step.line.text c.write_told.new.line.text
    (g.K.Sink.faults c.args.out.now) (g.K.Sink.faults c.loop-step.out)
    (g.K.Sink.faults c.write_told.new.out) c.in_err-write_told-in-Spelled.field-0.0 reported c.loop-step.invariant.later c.in_err-write_told-in-Spelled.ensures)

pub loop-step-preserved : goal.loop-step-preserved
loop-step-preserved g c =
    let reported = rw (c.in-Some.ensures, ap entry_of c.in-Spelled.is) at c.loop-step.invariant.reported in
    let w = c.in_ok-write_told-in-Spelled.ensures in
    record {
      reported = one_more c.args.h.now c.in-Spelled.entry c.next.new.self (g.K.Sink.held c.args.out.now) (g.K.Sink.held c.loop-step.out)
          (g.K.Sink.held c.write_told.new.out) c.args.line.now.text c.loop-step.line.text c.write_told.new.line.text
          reported w.whole;
      later = omega (arith, w.cause.later);
    }

pub returns : goal.returns
returns g c =
    let reported = rw c.in_default.ensures.0 at c.loop-step.invariant.reported in
    record {
      whole = all_reported c.args.h.now (g.K.Sink.held c.args.out.now) (g.K.Sink.held c.loop-step.out) c.args.line.now.text c.loop-step.line.text reported;
      part = tt;
      cause = record { later = c.loop-step.invariant.later; failed = tt };
    }
