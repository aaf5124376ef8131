-- The candidates and the dead part are the open cycle's.
use Rattle.std.proofs.Common.{◌≡◌, ◌∙◌, ap, subst}
use Rattle.std.specs.Prelude.{Contains}
use Rattle.joint_machine.specs.Histories.{managed_numbers}
use Rattle.joint_machine.specs.Managed.{OpenCycle}
use Rattle.managed_heap.proofs.Lists.{unmarked-numbers}
use Rattle.reachability.specs.Marks.{unmarked_of}
use Rattle.managed_heap.proofs.resolving.settle.Goals as goal

pub bring_back_kept-requires-clause-live : goal.bring_back_kept-requires-clause-live
bring_back_kept-requires-clause-live c =
    let is : c.deref.result.now ≡ c.args.cycle.candidates = c.deref.ensures.value ∙ ap (λ (z : OpenCycle). z.candidates) c.cycle.view_is in
    λ m k. c.requires.live m (subst (λ z. Contains z m) is k)

pub returns-clause-candidates : goal.returns-clause-candidates
returns-clause-candidates c = ap (λ (z : OpenCycle). z.candidates) c.cycle.view_is

pub returns-clause-freed : goal.returns-clause-freed
returns-clause-freed c =
    ap managed_numbers c.keep_unmarked.ensures ∙ (unmarked-numbers c.bring_back_kept.new.heap.marks c.cycle.inside.dead.items
    ∙ ap (λ (z : OpenCycle). unmarked_of c.bring_back_kept.new.heap.marks z.dead) c.cycle.view_is)
