-- The number keeps its place, and gets the label.
use Rattle.std.proofs.Common.{map, ap, ◌∙◌}
use Rattle.joint_machine.proofs.Members.{at-Contains}
use Rattle.compare_pass.proofs.Tabled.{insert-labels, insert-numbers, label_in, number_of, rises-on}
use Rattle.compare_pass.proofs.table.NodeTable.set.Goals as goal
use Rattle.compare_pass.proofs.table.NodeTable.set.Goals.{in-Ok, in-Err}

pub invariant_of-self : goal.invariant_of-self
invariant_of-self c =
    let at = at-Contains _ c.args.m.0 (rw (← c.self.view_is) at c.requires) in
    rises-on c.self.inside.entries.entries c.insert.new.self.entries c.args.m c.args.label at.0 c.insert.result c.self.invariant at.1 c.insert.ensures.entries c.insert.ensures.err

pub returns-clause-labels : goal.returns-clause-labels
returns-clause-labels c = λ i e. elim c.match-insert.branch [
  | in-Ok w ↦ rw (w.result-is, ← c.self.view_is) (ap (λ es. map label_in es) w.in-Ok.ensures.entries
      ∙ insert-labels c.self.inside.entries.entries c.args.m c.args.label i c.self.invariant (rw (← c.self.view_is) at e))
  | in-Err w ↦ rw w.result-is tt
]

pub returns-clause-numbers : goal.returns-clause-numbers
returns-clause-numbers c =
    let at = at-Contains _ c.args.m.0 (rw (← c.self.view_is) at c.requires) in
    elim c.match-insert.branch [
      | in-Ok w ↦ rw (w.result-is, ← c.self.view_is) (ap (λ es. map number_of es) w.in-Ok.ensures.entries
          ∙ insert-numbers c.self.inside.entries.entries c.args.m c.args.label at.0 c.self.invariant at.1)
      | in-Err w ↦ rw w.result-is tt
    ]
