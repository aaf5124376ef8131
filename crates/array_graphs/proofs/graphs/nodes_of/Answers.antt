use Rattle.std.proofs.Common.{[], ◌+◌, false, length, ◌∷◌, ◌++◌, sym, ap, subst, ◌∙◌, arith}
use Rattle.array_graphs.specs.Made.{HasNodes}
use Rattle.array_graphs.proofs.Nodes.{nodes-none, nodes-more}
use Rattle.array_graphs.proofs.graphs.nodes_of.Goals as goal

pub loop-i-init : goal.loop-i-init
loop-i-init c = record {
  nodes = rw c.in_ok-nodes.ensures.items (nodes-none c.args.kinds.now);
  count = omega (arith, ap length c.in_ok-nodes.ensures.items, c.in_ok-nodes.nodes.len);
  room = omega (arith, c.in_ok-nodes.ensures.capacity);
}

pub loop-i-preserved : goal.loop-i-preserved
loop-i-preserved c =
    let kinds = c.args.kinds.now in
    let i = c.loop-i.invariant in
    let same = c.push_reserved.ensures.items ∙ ap (λ h. c.loop-i.nodes.items ++ record { number = record { 0 = c.loop-i.i + 1 }; handle = h; opaque = false } ∷ []) c.handle_of.ensures in record {
      nodes = subst (λ ns. HasNodes kinds (c.loop-i.i + 1) ns) (sym same) (nodes-more kinds c.loop-i.i c.loop-i.nodes.items i.nodes);
      count = omega arith;
      room = omega (arith, i.room);
    }
