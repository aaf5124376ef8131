use Rattle.array_graphs.specs.Graphs.{IsSet}
use Rattle.cycle_check.specs.Judging.{IsJudged}
use Rattle.cycle_check.proofs.Holding.{held-pair, held-reached, left, obeyed, roots-within}
use Rattle.cycle_check.proofs.outcome.judge_dead.Goals as goal

pub first_root-requires-clause-roots : goal.first_root-requires-clause-roots
first_root-requires-clause-roots c = roots-within c.args.kinds.now c.args.starts.now c.args.targets.now c.args.kept.now c.args.marks.now c.args.roots.now c.requires.held c.requires.rows.count

pub first_root-requires-clause-reached : goal.first_root-requires-clause-reached
first_root-requires-clause-reached c = held-reached c.args.kinds.now c.args.starts.now c.args.targets.now c.args.kept.now c.args.marks.now c.args.roots.now c.in-Some.y c.requires.held c.in-Some.ensures.1.0

pub returns-in-Some : goal.returns-in-Some
returns-in-Some c = record {
  whole = c.requires.whole;
  early = held-pair c.args.kinds.now c.args.starts.now c.args.targets.now c.args.kept.now c.args.marks.now c.args.roots.now (λ z. IsJudged c.args.kinds.now c.args.bridges z × IsSet c.args.dead.now z) c.in_ok-x.x c.in-Some.y c.requires.held c.in_ok-x.ensures.root c.in_ok-x.ensures.reaches
      (c.in-Some.ensures.1.1, c.in-Some.ensures.1.2);
}

pub returns-in-Some-first_left : goal.returns-in-Some-first_left
returns-in-Some-first_left c = left c.args.kinds.now c.args.starts.now c.args.targets.now c.args.kept.now c.args.marks.now c.args.roots.now c.args.dead.now c.args.bridges c.requires.held c.in-Some-first_left.y c.requires.whole c.in_default.ensures c.in-Some-first_left.ensures.1

pub returns-in-None : goal.returns-in-None
returns-in-None c = obeyed c.args.kinds.now c.args.starts.now c.args.targets.now c.args.kept.now c.args.marks.now c.args.roots.now c.args.dead.now c.args.bridges c.requires.held c.requires.dead c.requires.whole c.in_default.ensures c.in-None.ensures
