-- One row more in each turn.
use Rattle.std.proofs.Common.{◌≡◌, ◌∙◌, ◌+◌, ◌<◌, true≢false, length, get_or, ap, sym, subst, arith}
use Rattle.std.proofs.lemmas.List.{length-map}
use Rattle.std.proofs.lemmas.Option.{slice_get-get_or, slice_get_within}
use Rattle.joint_machine.specs.declared.names.MNum.{MNum}
use Rattle.joint_machine.specs.Histories.{managed_numbers}
use Rattle.joint_machine.proofs.Members.{Contains-at}
use Rattle.managed_heap.specs.Graphs.{ArePlaces, node_of}
use Rattle.managed_heap.proofs.DeadGraphs.{number-at, opaque-row, rows-more, rows-all}
use Rattle.managed_heap.proofs.FieldRoom.{fields-next, fields-take}
use Rattle.managed_heap.proofs.graphs.add_edges.Goals as goal

pub add_row-requires-clause-live : goal.add_row-requires-clause-live
add_row-requires-clause-live c =
    let d : MNum = record { 0 = 0 } in
    let x = get_or c.args.dead.now c.loop-i.i d in
    c.requires.live x.0 (Contains-at (managed_numbers c.args.dead.now) c.loop-i.i x.0 (number-at c.args.dead.now c.loop-i.i x (slice_get-get_or c.args.dead.now c.loop-i.i d c.loop-i-test.true)))

pub add_row-requires-clause-clear : goal.add_row-requires-clause-clear
add_row-requires-clause-clear c =
    let d : MNum = record { 0 = 0 } in
    opaque-row c.args.heap.now.heap c.requires.nodes.0 c.args.dead.now c.loop-i.i (get_or c.args.dead.now c.loop-i.i d) c.loop-i.builder.nodes
    (c.loop-i.invariant.nodes ∙ c.requires.nodes.1) (slice_get-get_or c.args.dead.now c.loop-i.i d c.loop-i-test.true)

pub add_row-requires-clause-within : goal.add_row-requires-clause-within
add_row-requires-clause-within c = λ y k e.
    let many : length c.loop-i.builder.nodes ≡ length c.args.dead.now = ap length (c.loop-i.invariant.nodes ∙ c.requires.nodes.1)
    ∙ length-map c.args.dead.now (node_of c.args.heap.now.heap c.requires.nodes.0) in
    let low = slice_get_within (managed_numbers c.args.dead.now) k y (c.requires.places.sound y k e) in
    let below : k < length c.loop-i.builder.nodes = omega (arith, low, many, length-map c.args.dead.now (λ (m : MNum). m.0)) in
    below

pub loop-i-preserved : goal.loop-i-preserved
loop-i-preserved c =
    let d : MNum = record { 0 = 0 } in
    let x = get_or c.args.dead.now c.loop-i.i d in
    let numbers = managed_numbers c.args.dead.now in
    let places = subst (λ n. ArePlaces n numbers c.args.places.now) (sym (length-map c.args.dead.now (λ (m : MNum). m.0))) c.requires.places in
    record {
      nodes = c.add_row.ensures.nodes ∙ c.loop-i.invariant.nodes;
      edges = rows-more c.args.heap.now.heap numbers c.args.places.now c.loop-i.i x.0 c.args.builder.now.edges c.loop-i.builder.edges c.add_row.new.builder.edges places
          (number-at c.args.dead.now c.loop-i.i x (slice_get-get_or c.args.dead.now c.loop-i.i d c.loop-i-test.true)) c.loop-i.invariant.edges c.in_ok-add_row.ensures.edges;
      spare = (let one = fields-next c.args.heap.now.heap numbers c.loop-i.i x.0 (number-at c.args.dead.now c.loop-i.i x (slice_get-get_or c.args.dead.now c.loop-i.i d c.loop-i-test.true)) in
          omega (arith, c.loop-i.invariant.spare, c.in_ok-add_row.ensures.spare, one));
    }

pub returns-clause-edges : goal.returns-clause-edges
returns-clause-edges c =
    rows-all c.args.heap.now.heap (managed_numbers c.args.dead.now) c.loop-i.i c.args.builder.now.edges c.loop-i.builder.edges
    (omega (arith, c.loop-i-test.false, length-map c.args.dead.now (λ (m : MNum). m.0))) c.loop-i.invariant.edges

-- the fields of this row are among those for which there is room
pub returns-in_err-add_row-clause-ready : goal.returns-in_err-add_row-clause-ready
returns-in_err-add_row-clause-ready c = λ room. (
    let d : MNum = record { 0 = 0 } in
    let x = get_or c.args.dead.now c.loop-i.i d in
    let h = c.args.heap.now.heap in
    let numbers = managed_numbers c.args.dead.now in
    let one = fields-next h numbers c.loop-i.i x.0 (number-at c.args.dead.now c.loop-i.i x (slice_get-get_or c.args.dead.now c.loop-i.i d c.loop-i-test.true)) in
    absurd (true≢false (sym (c.in_err-add_row.ensures.ready (omega (arith, room, one, fields-take h numbers (c.loop-i.i + 1), c.loop-i.invariant.spare))))))
