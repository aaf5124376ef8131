use Rattle.std.proofs.Common.{inl, inr, subst, arith}
use Rattle.std.specs.Io.KnownBytes.{Appends}
use Rattle.byte_streams.specs.Faults.{AppendsPart}
use Rattle.log_text.specs.Taking.{IsLogRefusal}
use Rattle.bridge_program.proofs.Leaking.{puts_left, puts_wrong}
use Rattle.bridge_program.proofs.leaks.judge.Goals as goal

pub returns-in-Ok-clause-done : goal.returns-in-Ok-clause-done
returns-in-Ok-clause-done g c = λ e. (
  omega (arith, c.if-bytes-gt-MOST_BYTES.false),
  puts_left c.args.bytes.now (Appends (g.K.Sink.held c.args.out.now) (g.K.Sink.held c.print_left.new.out)) c.in-Ok.log c.in-Ok.ensures.ok (c.print_left.ensures.done e),
)

pub returns-in-Ok-clause-part : goal.returns-in-Ok-clause-part
returns-in-Ok-clause-part g c = λ e. inr (
  omega (arith, c.if-bytes-gt-MOST_BYTES.false),
  puts_left c.args.bytes.now (AppendsPart (g.K.Sink.held c.args.out.now) (g.K.Sink.held c.print_left.new.out)) c.in-Ok.log c.in-Ok.ensures.ok (c.print_left.ensures.part e),
)

pub returns-in-Err-Refused-clause-part : goal.returns-in-Err-Refused-clause-part
returns-in-Err-Refused-clause-part g c = λ e.
    let put = rw c.in-Err-Refused.field-0-is at c.refuse.ensures.part in
    let f = subst (IsLogRefusal c.args.bytes.now) c.in-Err-Refused.field-0-is c.in-Err-Refused.ensures.err in
    inl (puts_wrong c.args.bytes.now (AppendsPart (g.K.Sink.held c.args.out.now) (g.K.Sink.held c.refuse.new.out)) c.in-Err-Refused.line c.in-Err-Refused.cause
    (inl (omega (arith, c.if-bytes-gt-MOST_BYTES.false), f.0, f.1)) (put e))
