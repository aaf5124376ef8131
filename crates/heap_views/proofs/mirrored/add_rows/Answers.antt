-- One row more in each turn.
use Rattle.std.proofs.Common.{◌≡◌, ◌∙◌, ℕ, List, Some, length, get_or, subst, ap, arith}
use Rattle.std.specs.Prelude.{slice_get}
use Rattle.std.proofs.lemmas.Option.{slice_get-get_or}
use Rattle.heap_views.proofs.Edges.{rows-all, rows-more}
use Rattle.heap_views.proofs.mirrored.add_rows.Goals as goal

pub loop-m-preserved : goal.loop-m-preserved
loop-m-preserved c =
    let s = c.args.joint.now.graph.managed in
    let dead = c.dead-m-items.result.now in
    let m = get_or dead c.loop-m.m-index 0 in
    record {
      nodes = c.in_ok-add_row.ensures.nodes ∙ c.loop-m.invariant.nodes;
      edges = rows-more s c.loop-m.m-index m c.loop-m.builder.edges c.add_row.new.builder.edges
          (subst (λ (xs : List ℕ). slice_get xs c.loop-m.m-index ≡ Some m) c.dead-m-items.ensures.rows (slice_get-get_or dead c.loop-m.m-index 0 c.loop-m-test.true))
          c.loop-m.invariant.edges c.in_ok-add_row.ensures.edges;
    }

pub returns-clause-edges : goal.returns-clause-edges
returns-clause-edges c =
    rows-all c.args.joint.now.graph.managed c.loop-m.m-index c.loop-m.builder.edges (omega (arith, c.loop-m-test.false, ap length c.dead-m-items.ensures.rows)) c.loop-m.invariant.edges
