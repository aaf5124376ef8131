-- One field more in each turn.
use Rattle.std.proofs.Common.{◌≡◌, ◌∙◌, None, take, arith}
use Rattle.std.proofs.lemmas.List.{take_all}
use Rattle.std.proofs.lemmas.Option.{slice_get-get_or}
use Rattle.joint_machine.proofs.Members.{Contains-at}
use Rattle.managed_heap.proofs.DeadGraphs.{field-within, fields-more}
use Rattle.managed_heap.proofs.graphs.add_row.Goals as goal

pub add_edge-requires-clause-named : goal.add_edge-requires-clause-named
add_edge-requires-clause-named c =
    let held = c.row_fields-held.result.now in
    let here = slice_get-get_or held c.loop-field.field-index None c.loop-field-test.true in
    field-within c.args.heap.now.heap c.args.x.0 _ held _ c.recall_tidy.ensures c.requires.live c.row_fields-held.ensures c.requires.places
    (Contains-at held c.loop-field.field-index _ here)

pub loop-field-preserved : goal.loop-field-preserved
loop-field-preserved c =
    let held = c.row_fields-held.result.now in
    record {
      nodes = c.add_edge.ensures.nodes ∙ c.loop-field.invariant.nodes;
      edges = fields-more c.args.places.now held c.loop-field.field-index c.args.i _ c.args.builder.now.edges c.loop-field.builder.edges c.add_edge.new.builder.edges
          (slice_get-get_or held c.loop-field.field-index None c.loop-field-test.true) c.loop-field.invariant.edges c.in_ok-add_edge.ensures.edges;
      spare = omega (arith, c.loop-field.invariant.spare, c.in_ok-add_edge.ensures.spare);
    }

pub returns-clause-edges : goal.returns-clause-edges
returns-clause-edges c =
    let held = c.row_fields-held.result.now in
    let all : take c.loop-field.field-index held ≡ held = take_all _ held (omega (arith, c.loop-field-test.false)) in
    rw (← c.row_fields-held.ensures) (rw all at c.loop-field.invariant.edges)
