use Rattle.std.proofs.Common.{arith}
use Rattle.bridge_graph.specs.Parts.{IsBridgeNode, NodeLeads}
use Rattle.pass_c.proofs.Joined.{expansion}
use Rattle.pass_c.proofs.answer.Goals as goal

pub returns-in-Ok-clause-done_in_pairs : goal.returns-in-Ok-clause-done_in_pairs
returns-in-Ok-clause-done_in_pairs c = λ h z.
    let f = c.in-Ok.found in
    let k = c.in-Ok.ensures in
    let p = c.present.ensures.in_pairs h (λ e. omega (arith, z, e)) in record {
      comps = f.comps;
      pairs = p.0;
      exact = expansion (IsBridgeNode c.args.graph.now.nodes) (NodeLeads c.args.graph.now.edges) f.comps k.0 f.pairs k.2 p.0 p.1;
      counted = p.2.counted (λ e. omega (arith, z, e));
      written = p.2.written z;
    }

pub returns-in-Ok-clause-no_room_in_pairs : goal.returns-in-Ok-clause-no_room_in_pairs
returns-in-Ok-clause-no_room_in_pairs c = λ h z.
    let f = c.in-Ok.found in
    let k = c.in-Ok.ensures in
    let p = c.present.ensures.in_pairs h (λ e. omega (arith, z, e)) in record {
      comps = f.comps;
      pairs = p.0;
      exact = expansion (IsBridgeNode c.args.graph.now.nodes) (NodeLeads c.args.graph.now.edges) f.comps k.0 f.pairs k.2 p.0 p.1;
      counted = p.2.counted (λ e. omega (arith, z, e));
      short = p.2.short z;
    }
