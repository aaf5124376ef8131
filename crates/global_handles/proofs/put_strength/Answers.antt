-- What the place has differs by its strength alone.
use Rattle.std.proofs.lemmas.Option.{none-some}
use Rattle.std.proofs.Common.{sym, ◌∙◌}
use Rattle.global_handles.proofs.Chains.{differing-row, set-strength}
use Rattle.global_handles.proofs.put_strength.Goals as goal

pub unreachable-requires : goal.unreachable-requires
unreachable-requires c = none-some _ (sym c.in_default.is ∙ differing-row _ _ c.index_mut.result.now c.args.kept c.index_mut.ensures.value c.requires.same)

pub returns-clause-items : goal.returns-clause-items
returns-clause-items c = set-strength _ _ c.index_mut.result.now c.in-Some.row c.args.kept c.index_mut.ensures.value c.in-Some.is c.requires.same
