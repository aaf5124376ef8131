-- One node more in each turn.
use Rattle.std.proofs.Common.{◌<◌, List, get_or, map, sym, subst, arith}
use Rattle.std.specs.Prelude.{All}
use Rattle.std.proofs.lemmas.Option.{slice_get-get_or}
use Rattle.joint_machine.specs.declared.names.MNum.{MNum}
use Rattle.joint_machine.specs.Histories.{managed_numbers}
use Rattle.joint_machine.proofs.Members.{Contains-at}
use Rattle.bridge_graph.specs.declared.graph.Node.{Node}
use Rattle.managed_heap.specs.declared.rows.Header.{Header}
use Rattle.managed_heap.proofs.DeadGraphs.{number-at, nodes-below}
use Rattle.managed_heap.proofs.graphs.add_nodes.Goals as goal

pub handle_at-requires : goal.handle_at-requires
handle_at-requires c =
    let d : MNum = record { 0 = 0 } in
    let x = get_or c.args.dead.now c.loop-m.m-index d in
    let live = c.requires.live x.0 (Contains-at (managed_numbers c.args.dead.now) c.loop-m.m-index x.0
    (number-at c.args.dead.now c.loop-m.m-index x (slice_get-get_or c.args.dead.now c.loop-m.m-index d c.loop-m-test.true))) in
    record { row = (live.made.0, omega (arith, live.made.1, c.requires.headers)) }

pub fields_len-requires : goal.fields_len-requires
fields_len-requires c =
    let d : MNum = record { 0 = 0 } in
    let x = get_or c.args.dead.now c.loop-m.m-index d in
    c.requires.live x.0 (Contains-at (managed_numbers c.args.dead.now) c.loop-m.m-index x.0
    (number-at c.args.dead.now c.loop-m.m-index x (slice_get-get_or c.args.dead.now c.loop-m.m-index d c.loop-m-test.true)))

pub node-requires-clause-rising : goal.node-requires-clause-rising
node-requires-clause-rising c =
    let d : MNum = record { 0 = 0 } in
    let x = get_or c.args.dead.now c.loop-m.m-index d in
    subst (λ (ns : List Node). All (λ (n : Node). n.number.0 < x.0) ns) (sym c.loop-m.invariant.nodes)
    (nodes-below c.args.heap.now.heap (map (λ (i : Header). i.handle) c.args.headers.now) c.args.dead.now c.loop-m.m-index d c.requires.rise c.loop-m-test.true)
