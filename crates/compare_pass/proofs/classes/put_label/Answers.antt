use Rattle.std.proofs.Common.{◌∙◌}
use Rattle.std.proofs.lemmas.Result.{on_ok_weaker}
use Rattle.joint_machine.proofs.Members.{Contains-at}
use Rattle.bridge_graph.specs.Parts.{numbers_of}
use Rattle.compare_pass.proofs.Tabled.{number-at}
use Rattle.compare_pass.proofs.classes.put_label.Goals as goal

pub set-requires : goal.set-requires
set-requires c = rw c.requires.numbers (Contains-at (numbers_of c.args.graph.now.nodes) c.args.x _ (number-at c.args.graph.now.nodes c.args.x c.number.result c.number.ensures))

pub returns-clause-numbers : goal.returns-clause-numbers
returns-clause-numbers c = on_ok_weaker c.set.result (λ e. e ∙ c.requires.numbers) c.set.ensures.numbers

pub returns-clause-labels : goal.returns-clause-labels
returns-clause-labels c = c.set.ensures.labels c.args.x (rw c.requires.numbers (number-at c.args.graph.now.nodes c.args.x c.number.result c.number.ensures))
