use Rattle.std.proofs.Common.{◌++◌, ◌∷◌, [], take, ap, sym, ◌∙◌, arith}
use Rattle.std.proofs.lemmas.List.{take_more, take_all}
use Rattle.compare_pass.proofs.classes.labels_of.Goals as goal

pub loop-x-preserved : goal.loop-x-preserved
loop-x-preserved c = record {
  labels = c.in_ok-push.ensures.items ∙ ap (λ xs. xs ++ c.label_of.result ∷ []) c.loop-x.invariant.labels ∙ ap (λ y. take c.loop-x.x c.args.table.now.labels ++ y ∷ []) c.label_of.ensures
      ∙ sym (take_more c.args.table.now.labels c.loop-x.x 0 (omega arith));
}

pub returns : goal.returns
returns c = c.loop-x.invariant.labels ∙ take_all c.loop-x.x c.args.table.now.labels (omega arith)
