use Rattle.std.proofs.lemmas.List.{get_or_default}
use Rattle.std.proofs.Common.{arith}
use Rattle.component_pass.proofs.sharing.put.Goals as goal

pub returns-clause-taken : goal.returns-clause-taken
returns-clause-taken c = λ k d lt. rw (get_or_default c.args.class.now k d 0 lt) (c.loop-x.invariant.taken k (omega arith))
