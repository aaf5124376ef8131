-- A temporary is no row; and a row is a source at the place of its last reference.
use Rattle.std.proofs.Common.{◌≡◌, ℕ, ap, sym, ◌∙◌}
use Rattle.joint_machine.specs.Components.{node, temporary}
use Rattle.row_heap.specs.Ends.{end_of}
use Rattle.row_marking.proofs.Greys.{Greyed-none}
use Rattle.row_heap.specs.Rows.{IsLedFrom}
use Rattle.row_heap.proofs.Sources.{source-led, source-none}
use Rattle.row_heap.proofs.tracing.mark_source.Goals as goal

temporary-none : (t p : ℕ) → temporary t ≡ node p → ⊥
temporary-none t p e = cc

pub mark_references-requires-clause-ends : goal.mark_references-requires-clause-ends
mark_references-requires-clause-ends c = λ y w. c.requires.ends c.in-Object.x y w (c.is_source.ensures.source c.if-is_source.true).1

pub returns-in-Temporary-clause-greyed : goal.returns-in-Temporary-clause-greyed
returns-in-Temporary-clause-greyed c =
    Greyed-none (IsLedFrom c.args.references.now.refs c.args.rows.now (end_of c.args.from) c.args.r) _ _ _ (λ q w. temporary-none _ w.0 (sym (ap end_of c.in-Temporary.is) ∙ w.1))

pub returns-then-is_source-clause-greyed : goal.returns-then-is_source-clause-greyed
returns-then-is_source-clause-greyed c =
    let own = c.is_source.ensures.source c.if-is_source.true in
    rw c.in-Object.is (source-led _ _ c.in-Object.x c.args.r _ _ _ _ _ _ own.0 own.1 c.mark_references.ensures.greyed)

pub returns-else-is_source-clause-greyed : goal.returns-else-is_source-clause-greyed
returns-else-is_source-clause-greyed c = rw c.in-Object.is (source-none _ _ c.in-Object.x c.args.r _ _ _ (c.is_source.ensures.other c.if-is_source.false))
