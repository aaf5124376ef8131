-- A row whose references begin elsewhere isn't one.
use Rattle.std.proofs.Common.{◌∙◌, sym, subst}
use Rattle.std.specs.Prelude.{length}
use Rattle.std.proofs.lemmas.Bool.{true≢false}
use Rattle.joint_machine.specs.Components as exact
use Rattle.row_heap.specs.Ends.{IsLastBelow}
use Rattle.row_heap.proofs.Sources.{last-one}
use Rattle.row_heap.proofs.tracing.is_source.Goals as goal

pub returns-then-first-r-clause-source : goal.returns-then-first-r-clause-source
returns-then-first-r-clause-source c = λ up. (
  subst (IsLastBelow c.args.references.now.refs (exact.node c.args.x) (length c.args.references.now.refs)) c.if-first-r.true c.first.ensures,
  sym c.is_standing.ensures ∙ up,
)

pub returns-then-first-r-clause-other : goal.returns-then-first-r-clause-other
returns-then-first-r-clause-other c = λ down last up. true≢false (sym up ∙ (sym c.is_standing.ensures ∙ down))

pub returns-else-first-r-clause-other : goal.returns-else-first-r-clause-other
returns-else-first-r-clause-other c = λ down last up. c.if-first-r.false
    (last-one c.args.references.now.refs (exact.node c.args.x) (length c.args.references.now.refs) c.first.result c.args.r c.first.ensures last)
