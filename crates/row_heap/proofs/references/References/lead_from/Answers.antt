-- An empty list has no reference, and of those that stand none is an object's whose references begin nowhere.
use Rattle.std.proofs.Common.{◌∙◌, length, ap, sym, arith}
use Rattle.std.specs.Prelude.{◌==◌, vec_len}
use Rattle.std.proofs.lemmas.Bool.{eqb-true, not-false}
use Rattle.std.proofs.lemmas.Option.{slice_get_within}
use Rattle.joint_machine.proofs.Members.{at-Contains}
use Rattle.joint_machine.specs.Components as exact
use Rattle.row_heap.specs.Ends.{Linked}
use Rattle.row_heap.proofs.Linked.{pairs-len}
use Rattle.row_heap.proofs.references.References.lead_from.Goals as goal

pub returns-then-is_empty : goal.returns-then-is_empty
returns-then-is_empty c = λ down f h.
    let at = at-Contains c.args.self.now.refs (exact.node c.args.x, f) h in
    let within = slice_get_within c.args.self.now.refs at.0 (exact.node c.args.x, f) at.1 in
    let none = eqb-true (vec_len c.self.inside.list) 0 (sym c.is_empty.ensures ∙ c.if-is_empty.true) in
    absurd (omega (arith, within, none, c.self.inside.list.ok, pairs-len c.self.inside.list.items, ap (λ (v : Linked). length v.refs) c.self.view_is))

pub returns : goal.returns
returns c = λ down f h.
    let at = at-Contains c.args.self.now.refs (exact.node c.args.x, f) h in
    let within = slice_get_within c.args.self.now.refs at.0 (exact.node c.args.x, f) at.1 in
    let none = eqb-true c.first.result 0 (not-false (c.first.result == 0) down) in
    c.first.ensures.none at.0 f (omega (arith, none)) within at.1
