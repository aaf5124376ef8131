-- The number is found at its node.
use Rattle.std.proofs.Common.{◌∙◌}
use Rattle.std.proofs.lemmas.Option.{same_Some}
use Rattle.joint_machine.proofs.Deciding.{none_some}
use Rattle.compare_pass.proofs.Tabled.{found-label}
use Rattle.compare_pass.proofs.table.NodeTable.label.Goals as goal

pub returns-in-Some : goal.returns-in-Some
returns-in-Some c = λ i e.
    let at = rw (← c.self.view_is) at e in
    let f = found-label c.self.inside.entries.entries c.args.m i c.self.invariant at in
    rw (← c.self.view_is) (same_Some _ _ (c.in-Some.ensures.value ∙ f))

pub returns-in-None : goal.returns-in-None
returns-in-None c = λ i e.
    let at = rw (← c.self.view_is) at e in
    let f = found-label c.self.inside.entries.entries c.args.m i c.self.invariant at in
    absurd (none_some _ (c.in-None.ensures.value ∙ f))
