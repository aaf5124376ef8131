use Rattle.std.proofs.Common.{◌≡◌, ◌+◌, ◌<◌, length, map, take, Some, arith}
use Rattle.std.specs.Prelude.{slice_get}
use Rattle.byte_streams.proofs.Passing.{passed_on}
use Rattle.byte_streams.proofs.Written.{BuffersText-then, Sends-into}
use Rattle.graph_listing.specs.Listing.{all_comps, component_text, components_text}
use Rattle.graph_listing.specs.Numbers.{listed_of, number_in}
use Rattle.graph_listing.proofs.Lines.{components_next, components_split, row_at}
use Rattle.graph_listing.proofs.listing.write_components.Goals as goal

pub returns-in_err-write_component : goal.returns-in_err-write_component
returns-in_err-write_component g c =
    let nodes = c.args.graph.now.nodes in
    let l = c.args.comps.now in
    let all = all_comps (listed_of 0 c.args.graph.now l) in
    let k = c.loop-c.c in
    let row = map (number_in nodes) c.objs.result.now in
    let few : k < length l.comps + l.heavy = (let a = c.loop-c-test.true in let b = c.len-c-end.ensures.count in omega (arith, a, b)) in
    let at : slice_get all k ≡ Some row = row_at (number_in nodes) l.comps l.heavy k c.objs.result.now few c.objs.ensures.members c.objs.ensures.none in
    let s = components_split all k row at in
    rw (passed_on c.from_residual.result c.in_err-write_component.field-0.0 c.from_residual.ensures.0 c.from_residual.ensures.1)
    (Sends-into (g.K.Sink.held c.args.out.now) (g.K.Sink.held c.loop-c.out) (g.K.Sink.held c.write_component.new.out) c.args.line.now.text c.loop-c.line.text c.write_component.new.line.text
    (g.K.Sink.faults c.args.out.now) (g.K.Sink.faults c.loop-c.out) (g.K.Sink.faults c.write_component.new.out) c.in_err-write_component.field-0.0
    (components_text 0 (take k all)) (component_text k row) s.rest (components_text 0 all) s.whole_is c.loop-c.invariant.so_far c.loop-c.invariant.later c.in_err-write_component.ensures)

pub loop-c-preserved : goal.loop-c-preserved
loop-c-preserved g c =
    let nodes = c.args.graph.now.nodes in
    let l = c.args.comps.now in
    let all = all_comps (listed_of 0 c.args.graph.now l) in
    let k = c.loop-c.c in
    let row = map (number_in nodes) c.objs.result.now in
    let few : k < length l.comps + l.heavy = (let a = c.loop-c-test.true in let b = c.len-c-end.ensures.count in omega (arith, a, b)) in
    let at : slice_get all k ≡ Some row = row_at (number_in nodes) l.comps l.heavy k c.objs.result.now few c.objs.ensures.members c.objs.ensures.none in
    let w = c.in_ok-write_component.ensures in
    record {
      so_far = rw (components_next all k row at)
          (BuffersText-then (g.K.Sink.held c.args.out.now) (g.K.Sink.held c.loop-c.out) (g.K.Sink.held c.write_component.new.out) c.args.line.now.text
          c.loop-c.line.text c.write_component.new.line.text (components_text 0 (take k all)) (component_text k row) c.loop-c.invariant.so_far w.whole);
      later = omega (arith, w.cause.later);
    }
