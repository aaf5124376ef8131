use Rattle.std.proofs.Common.{take, arith}
use Rattle.byte_streams.proofs.Passing.{passed_on}
use Rattle.byte_streams.proofs.Written.{BuffersText-then, Sends-into}
use Rattle.graph_listing.specs.Listing.{reference_text, references_text}
use Rattle.graph_listing.proofs.Lines.{references_next, references_split}
use Rattle.graph_listing.proofs.listing.write_references.Goals as goal

pub returns-in_err-write_reference : goal.returns-in_err-write_reference
returns-in_err-write_reference g c =
    let pairs = c.args.comps.now.pairs in
    let k = c.loop-i.i in
    let p = c.xref.result in
    let s = references_split pairs k p c.xref.ensures in
    rw (passed_on c.from_residual.result c.in_err-write_reference.field-0.0 c.from_residual.ensures.0 c.from_residual.ensures.1)
    (Sends-into (g.K.Sink.held c.args.out.now) (g.K.Sink.held c.loop-i.out) (g.K.Sink.held c.write_reference.new.out) c.args.line.now.text c.loop-i.line.text c.write_reference.new.line.text
    (g.K.Sink.faults c.args.out.now) (g.K.Sink.faults c.loop-i.out) (g.K.Sink.faults c.write_reference.new.out) c.in_err-write_reference.field-0.0
    (references_text (take k pairs)) (reference_text p) s.rest (references_text pairs) s.whole_is c.loop-i.invariant.so_far c.loop-i.invariant.later c.in_err-write_reference.ensures)

pub loop-i-preserved : goal.loop-i-preserved
loop-i-preserved g c =
    let pairs = c.args.comps.now.pairs in
    let k = c.loop-i.i in
    let p = c.xref.result in
    let w = c.in_ok-write_reference.ensures in
    record {
      so_far = rw (references_next pairs k p c.xref.ensures)
          (BuffersText-then (g.K.Sink.held c.args.out.now) (g.K.Sink.held c.loop-i.out) (g.K.Sink.held c.write_reference.new.out) c.args.line.now.text
          c.loop-i.line.text c.write_reference.new.line.text (references_text (take k pairs)) (reference_text p) c.loop-i.invariant.so_far w.whole);
      later = omega (arith, w.cause.later);
    }
