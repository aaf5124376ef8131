use Rattle.joint_machine.proofs.Members.{Contains-at}
use Rattle.bridge_graph.specs.Parts.{numbers_of}
use Rattle.compare_pass.proofs.Tabled.{number-at}
use Rattle.compare_pass.proofs.classes.label_of.Goals as goal

pub label-requires : goal.label-requires
label-requires c = rw c.requires.numbers (Contains-at (numbers_of c.args.graph.now.nodes) c.args.x _ (number-at c.args.graph.now.nodes c.args.x c.number.result c.number.ensures))

pub returns : goal.returns
returns c = c.label.ensures c.args.x (rw c.requires.numbers (number-at c.args.graph.now.nodes c.args.x c.number.result c.number.ensures))
