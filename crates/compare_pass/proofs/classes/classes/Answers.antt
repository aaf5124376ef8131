use Rattle.std.proofs.Common.{length, sym, subst}
use Rattle.std.proofs.lemmas.Result.{IfOk-weaker}
use Rattle.compare_pass.specs.Classes.{AreClasses}
use Rattle.compare_pass.proofs.Spreading.{all-classes}
use Rattle.compare_pass.proofs.classes.classes.Goals as goal

pub label_all-requires-clause-part : goal.label_all-requires-clause-part
label_all-requires-clause-part c = c.nodes.ensures.part

pub label_all-requires-clause-numbers : goal.label_all-requires-clause-numbers
label_all-requires-clause-numbers c = c.in_ok-table.ensures.numbers

pub label_all-requires-clause-waiting : goal.label_all-requires-clause-waiting
label_all-requires-clause-waiting c = c.in_ok-waiting.ensures.items

pub returns : goal.returns
returns c = IfOk-weaker c.labels_of.result _ _ (λ v is. subst (λ xs. AreClasses c.args.graph.now.edges (length c.args.graph.now.nodes) xs) (sym is)
    (all-classes c.args.graph.now.edges (length c.args.graph.now.nodes) c.args.order.now c.label_all.new.table.labels c.requires.order c.in_ok-label_all.ensures.labels)) c.labels_of.ensures
