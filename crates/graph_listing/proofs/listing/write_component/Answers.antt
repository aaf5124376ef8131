use Rattle.std.proofs.Common.{[], ◌∷◌, ◌++◌, map}
use Rattle.byte_streams.specs.Spaced.{after_spaces}
use Rattle.byte_streams.proofs.Passing.{passed_on}
use Rattle.byte_streams.proofs.Written.{Sends-after, Sends-short}
use Rattle.history_report.specs.Lists.{listed}
use Rattle.graph_listing.specs.Listing.{head_text}
use Rattle.graph_listing.specs.Numbers.{number_in}
use Rattle.graph_listing.proofs.listing.write_component.Goals as goal

pub returns-in_err-write_head : goal.returns-in_err-write_head
returns-in_err-write_head g c =
    let list = after_spaces (listed 109 (map (number_in c.args.graph.now.nodes) c.args.objs.now)) in
    rw (passed_on c.from_residual.result c.in_err-write_head.field-0.0 c.from_residual.ensures.0 c.from_residual.ensures.1)
    (Sends-short (g.K.Sink.held c.args.out.now) (g.K.Sink.held c.write_head.new.out) c.args.line.now.text c.write_head.new.line.text (g.K.Sink.faults c.args.out.now)
    (g.K.Sink.faults c.write_head.new.out) c.in_err-write_head.field-0.0 (head_text c.args.c) (list ++ 10 ∷ []) c.in_err-write_head.ensures.sent)

pub returns-in_err-write_list : goal.returns-in_err-write_list
returns-in_err-write_list g c =
    let list = after_spaces (listed 109 (map (number_in c.args.graph.now.nodes) c.args.objs.now)) in
    let w = c.in_ok-write_head.ensures.sent in
    rw (passed_on c.from_residual-in_err-write_list.result c.in_err-write_list.field-0.0 c.from_residual-in_err-write_list.ensures.0 c.from_residual-in_err-write_list.ensures.1)
    (Sends-after (g.K.Sink.held c.args.out.now) (g.K.Sink.held c.write_head.new.out) (g.K.Sink.held c.write_list.new.out) c.args.line.now.text c.write_head.new.line.text c.write_list.new.line.text
    (g.K.Sink.faults c.args.out.now) (g.K.Sink.faults c.write_head.new.out) (g.K.Sink.faults c.write_list.new.out) _ (head_text c.args.c) (list ++ 10 ∷ []) w.whole w.cause.later
    (Sends-short (g.K.Sink.held c.write_head.new.out) (g.K.Sink.held c.write_list.new.out) c.write_head.new.line.text c.write_list.new.line.text
    (g.K.Sink.faults c.write_head.new.out) (g.K.Sink.faults c.write_list.new.out) c.in_err-write_list.field-0.0 list (10 ∷ []) c.in_err-write_list.ensures))

pub returns : goal.returns
returns g c =
    let list = after_spaces (listed 109 (map (number_in c.args.graph.now.nodes) c.args.objs.now)) in
    let w = c.in_ok-write_head.ensures.sent in
    let v = c.in_ok-write_list.ensures in
    Sends-after (g.K.Sink.held c.args.out.now) (g.K.Sink.held c.write_head.new.out)
    (g.K.Sink.held c.write_newline.new.out) c.args.line.now.text c.write_head.new.line.text c.write_newline.new.line.text (g.K.Sink.faults c.args.out.now)
    (g.K.Sink.faults c.write_head.new.out) (g.K.Sink.faults c.write_newline.new.out) c.write_newline.result (head_text c.args.c) (list ++ 10 ∷ []) w.whole w.cause.later
    (Sends-after (g.K.Sink.held c.write_head.new.out) (g.K.Sink.held c.write_list.new.out)
    (g.K.Sink.held c.write_newline.new.out) c.write_head.new.line.text c.write_list.new.line.text c.write_newline.new.line.text (g.K.Sink.faults c.write_head.new.out)
    (g.K.Sink.faults c.write_list.new.out) (g.K.Sink.faults c.write_newline.new.out) c.write_newline.result list (10 ∷ []) v.whole v.cause.later c.write_newline.ensures)
