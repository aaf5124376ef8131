use Rattle.std.proofs.Common.{take, drop, sym, arith, take-add, take-append-drop, length-drop}
use Rattle.byte_streams.proofs.Passing.{passed_on}
use Rattle.byte_streams.proofs.Bytes.{rest_of}
use Rattle.byte_streams.proofs.Written.{Appends-then, Appends-kept}
use Rattle.byte_streams.proofs.streams.write_text.Goals as goal

pub loop-at-preserved : goal.loop-at-preserved
loop-at-preserved g c =
    let i = c.loop-at.invariant in
    let e = rest_of c.loop-at.at c.args.text.now in
    let w = rw e at c.in_ok-at.ensures in
    record {
      within = omega (arith, w.bound, length-drop c.loop-at.at c.args.text.now);
      so_far = rw (take-add c.loop-at.at c.in_ok-at.field-0 c.args.text.now)
          (Appends-then (g.K.Sink.held c.args.out.now) (g.K.Sink.held c.loop-at.out) (g.K.Sink.held c.write.new.self)
          (take c.loop-at.at c.args.text.now) (take c.in_ok-at.field-0 (drop c.loop-at.at c.args.text.now)) i.so_far w.bytes);
      later = omega (arith, w.cause.later);
    }

pub returns-in_err-at : goal.returns-in_err-at
returns-in_err-at g c =
    let i = c.loop-at.invariant in
    let w = c.in_err-at.ensures in
    rw (passed_on c.from_residual.result c.in_err-at.field-0.0 c.from_residual.ensures.0 c.from_residual.ensures.1) (record {
      whole = tt;
      part = record {
        part = take c.loop-at.at c.args.text.now;
        rest = drop c.loop-at.at c.args.text.now;
        whole = sym (take-append-drop c.loop-at.at c.args.text.now);
        appends = Appends-kept (g.K.Sink.held c.args.out.now) (g.K.Sink.held c.loop-at.out) (g.K.Sink.held c.write.new.self) (take c.loop-at.at c.args.text.now) i.so_far w.bytes;
      };
      cause = record { later = omega (arith, w.cause.later); failed = omega (arith, w.cause.failed) };
    })
