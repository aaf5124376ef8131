-- What is kept is what the test of a mark passes.
use Rattle.std.proofs.Common.{not, rules}
use Rattle.std.proofs.lemmas.Fn.{filter_same}
use Rattle.joint_machine.specs.declared.names.MNum.{MNum}
use Rattle.reachability.specs.Marks.{marked}
use Rattle.managed_heap.proofs.resolving.keep_unmarked.Goals as goal

pub returns : goal.returns
returns c = filter_same _ (λ (m : MNum). not (marked c.args.heap.now.marks m.0)) _ (λ x b f r. (search rules, search rules)) _ _ c.retain.ensures.filtered
