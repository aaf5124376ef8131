use Rattle.std.proofs.Common.{◌≡◌, ◌++◌, ◌∙◌, [], refl, arith}
use Rattle.byte_streams.proofs.Passing.{passed_on}
use Rattle.byte_streams.proofs.Written.{BuffersText-none, BuffersText-put, BuffersText-then, Sends-after, Sends-short, Writes-flushed, Writes-open}
use Rattle.graph_listing.specs.Listing.{all_comps, components_text, cycle_text, references_text}
use Rattle.graph_listing.specs.Numbers.{listed_of}
use Rattle.graph_listing.proofs.listing.write_listing.Goals as goal

pub returns-in_err-write_components : goal.returns-in_err-write_components
returns-in_err-write_components g c =
    let t = c.text-2.new.self.text in
    let head = cycle_text c.args.cycle.0 in
    let comps = components_text 0 (all_comps (listed_of c.args.cycle.0 c.args.graph.now c.args.comps.now)) in
    let refs = references_text c.args.comps.now.pairs in
    let piece : t ≡ head = c.text-2.ensures.added ∙ rw (c.number.ensures.added, c.text.ensures.added, c.new-line.ensures.text) refl in
    let start = BuffersText-put (g.K.Sink.held c.args.out.now) (g.K.Sink.held c.args.out.now) [] [] t [] head (BuffersText-none (g.K.Sink.held c.args.out.now) []) piece in
    rw (passed_on c.from_residual.result c.in_err-write_components.field-0.0 c.from_residual.ensures.0 c.from_residual.ensures.1)
    (Writes-open (g.K.Sink.held c.args.out.now) (g.K.Sink.held c.write_components.new.out) c.write_components.new.line.text
    (g.K.Sink.faults c.args.out.now) (g.K.Sink.faults c.write_components.new.out) c.in_err-write_components.field-0.0 _
    (Sends-after (g.K.Sink.held c.args.out.now) (g.K.Sink.held c.args.out.now) (g.K.Sink.held c.write_components.new.out) [] t c.write_components.new.line.text
    (g.K.Sink.faults c.args.out.now) (g.K.Sink.faults c.args.out.now) (g.K.Sink.faults c.write_components.new.out) _ head (comps ++ refs) start (omega arith)
    (Sends-short (g.K.Sink.held c.args.out.now) (g.K.Sink.held c.write_components.new.out) t c.write_components.new.line.text (g.K.Sink.faults c.args.out.now)
    (g.K.Sink.faults c.write_components.new.out) c.in_err-write_components.field-0.0 comps refs c.in_err-write_components.ensures)))

pub returns-in_err-write_references : goal.returns-in_err-write_references
returns-in_err-write_references g c =
    let t = c.text-2.new.self.text in
    let head = cycle_text c.args.cycle.0 in
    let comps = components_text 0 (all_comps (listed_of c.args.cycle.0 c.args.graph.now c.args.comps.now)) in
    let refs = references_text c.args.comps.now.pairs in
    let piece : t ≡ head = c.text-2.ensures.added ∙ rw (c.number.ensures.added, c.text.ensures.added, c.new-line.ensures.text) refl in
    let start = BuffersText-put (g.K.Sink.held c.args.out.now) (g.K.Sink.held c.args.out.now) [] [] t [] head (BuffersText-none (g.K.Sink.held c.args.out.now) []) piece in
    let w = c.in_ok-write_components.ensures in
    rw (passed_on c.from_residual-in_err-write_references.result c.in_err-write_references.field-0.0
    c.from_residual-in_err-write_references.ensures.0 c.from_residual-in_err-write_references.ensures.1)
    (Writes-open (g.K.Sink.held c.args.out.now) (g.K.Sink.held c.write_references.new.out) c.write_references.new.line.text
    (g.K.Sink.faults c.args.out.now) (g.K.Sink.faults c.write_references.new.out) c.in_err-write_references.field-0.0 _
    (Sends-after (g.K.Sink.held c.args.out.now) (g.K.Sink.held c.args.out.now) (g.K.Sink.held c.write_references.new.out) [] t c.write_references.new.line.text
    (g.K.Sink.faults c.args.out.now) (g.K.Sink.faults c.args.out.now) (g.K.Sink.faults c.write_references.new.out) _ head (comps ++ refs) start (omega arith)
    (Sends-after (g.K.Sink.held c.args.out.now) (g.K.Sink.held c.write_components.new.out)
    (g.K.Sink.held c.write_references.new.out) t c.write_components.new.line.text c.write_references.new.line.text (g.K.Sink.faults c.args.out.now)
    (g.K.Sink.faults c.write_components.new.out) (g.K.Sink.faults c.write_references.new.out) _ comps refs w.whole w.cause.later c.in_err-write_references.ensures)))

pub returns : goal.returns
returns g c =
    let t = c.text-2.new.self.text in
    let head = cycle_text c.args.cycle.0 in
    let comps = components_text 0 (all_comps (listed_of c.args.cycle.0 c.args.graph.now c.args.comps.now)) in
    let refs = references_text c.args.comps.now.pairs in
    let piece : t ≡ head = c.text-2.ensures.added ∙ rw (c.number.ensures.added, c.text.ensures.added, c.new-line.ensures.text) refl in
    let start = BuffersText-put (g.K.Sink.held c.args.out.now) (g.K.Sink.held c.args.out.now) [] [] t [] head (BuffersText-none (g.K.Sink.held c.args.out.now) []) piece in
    let w = c.in_ok-write_components.ensures in
    let v = c.in_ok-write_references.ensures in
    let lines = BuffersText-then (g.K.Sink.held c.args.out.now) (g.K.Sink.held c.write_components.new.out)
    (g.K.Sink.held c.write_references.new.out) t c.write_components.new.line.text c.write_references.new.line.text comps refs w.whole v.whole in
    let all = BuffersText-then (g.K.Sink.held c.args.out.now) (g.K.Sink.held c.args.out.now)
    (g.K.Sink.held c.write_references.new.out) [] t c.write_references.new.line.text head (comps ++ refs) start lines in
    Writes-flushed (g.K.Sink.held c.args.out.now) (g.K.Sink.held c.write_references.new.out) (g.K.Sink.held c.flush.new.out) c.write_references.new.line.text
    (g.K.Sink.faults c.args.out.now) (g.K.Sink.faults c.write_references.new.out) (g.K.Sink.faults c.flush.new.out) c.flush.result _
    all (omega (arith, w.cause.later, v.cause.later)) c.flush.ensures.written
