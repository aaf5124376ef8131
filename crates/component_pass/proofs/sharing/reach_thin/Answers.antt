use Rattle.std.proofs.Common.{◌∙◌, length, arith}
use Rattle.std.proofs.lemmas.List.{get_or_default}
use Rattle.component_pass.proofs.Nearness.{nearing-first, nearing-more, nearing-found}
use Rattle.component_pass.proofs.sharing.reach_thin.Goals as goal

pub loop-at-init : goal.loop-at-init
loop-at-init c = record {
  nearing = nearing-first c.args.graph.now.edges
      (length c.args.graph.now.nodes) c.args.thin.now c.args.near.now.items c.args.marks.now c.requires.marks c.requires.below c.requires.unmarked;
}

pub loop-at-preserved : goal.loop-at-preserved
loop-at-preserved c =
    let v = rw c.row.ensures.row at c.in_ok-visit_thin.ensures.visits in
    record {
      nearing = nearing-more c.args.graph.now.nodes c.args.graph.now.edges c.args.thin.now c.args.near.now.items
          c.loop-at.marks c.visit_thin.new.marks c.loop-at.near.items c.visit_thin.new.near.items c.loop-at.at c.index.result.now
          c.row.ensures.part (omega arith) (c.index.ensures ∙ get_or_default c.loop-at.near.items c.loop-at.at c.index.result.now 0 (omega arith))
          c.in_ok-visit_thin.ensures.listed v c.loop-at.invariant.nearing;
    }

pub returns-clause-exact : goal.returns-clause-exact
returns-clause-exact c =
    nearing-found c.args.graph.now.edges (length c.args.graph.now.nodes) c.args.thin.now c.args.near.now.items
    c.loop-at.marks c.loop-at.near.items c.loop-at.at (omega arith) c.loop-at.invariant.nearing
