use Rattle.std.proofs.Common.{get_or, arith, add-one}
use Rattle.std.proofs.Math.Seq.{drop-cons}
use Rattle.byte_streams.proofs.Passing.{passed_on}
use Rattle.log_text.specs.declared.lines.LogLine.{LogLine}
use Rattle.log_text.specs.declared.lines.Mark.TheVariants.{GPlus}
use Rattle.log_text.proofs.LinesWritten.{not-wrote, one-more}
use Rattle.log_text.proofs.writing.write_lines.Goals as goal

nothing : LogLine
nothing = record { mark = GPlus; h = record { 0 = 0 }; p = record { 0 = 0 }; grefc = 0; gwrefc = 0; entry = 0 }

pub returns-in_err-write_line : goal.returns-in_err-write_line
unfolding nothing
returns-in_err-write_line g c =
    let i = c.loop-entry.entry-index in
    let ls = c.args.entries.now in
    let wrote = rw (drop-cons ls i nothing c.loop-entry-test.true) at c.loop-entry.invariant.wrote in
    rw (passed_on c.from_residual.result c.in_err-write_line.field-0.0 c.from_residual.ensures.0 c.from_residual.ensures.1)
    (not-wrote ls (get_or ls i nothing) _ (g.K.Sink.held c.args.out.now) (g.K.Sink.held c.loop-entry.out)
    (g.K.Sink.held c.write_line.new.out) c.args.line.now.text c.loop-entry.line.text c.write_line.new.line.text
    (g.K.Sink.faults c.args.out.now) (g.K.Sink.faults c.loop-entry.out)
    (g.K.Sink.faults c.write_line.new.out) c.in_err-write_line.field-0.0 wrote c.loop-entry.invariant.later c.in_err-write_line.ensures)

pub loop-entry-preserved : goal.loop-entry-preserved
unfolding nothing
loop-entry-preserved g c =
    let i = c.loop-entry.entry-index in
    let ls = c.args.entries.now in
    let wrote = rw (drop-cons ls i nothing c.loop-entry-test.true) at c.loop-entry.invariant.wrote in
    let w = c.in_ok-write_line.ensures in
    record {
      wrote = rw add-one (one-more ls (get_or ls i nothing) _ (g.K.Sink.held c.args.out.now) (g.K.Sink.held c.loop-entry.out)
          (g.K.Sink.held c.write_line.new.out) c.args.line.now.text c.loop-entry.line.text c.write_line.new.line.text wrote w.whole);
      later = omega (arith, w.cause.later);
    }
