use Rattle.std.proofs.Common.{[], sym, subst}
use Rattle.joint_history.specs.Ending.{HasAll}
use Rattle.weak_reads.proofs.Racing.{given_goes_on}
use Rattle.weak_reads.proofs.callers.first_caller.Goals as goal

pub returns-clause-all : goal.returns-clause-all
returns-clause-all g c =
    subst (HasAll c.caller.new.self) (sym c.in_ok-callers.ensures.items)
    (given_goes_on c.args.desk.now c.caller.new.self c.caller.result c.in-Some.one c.make_heap.new.caller [] c.in-Some.is c.caller.ensures.all c.make_heap.ensures.0 c.requires)
