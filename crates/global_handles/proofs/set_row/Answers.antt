use Rattle.global_handles.proofs.Chains.{set-with_row}
use Rattle.global_handles.proofs.set_row.Goals as goal

pub returns-clause-items : goal.returns-clause-items
returns-clause-items c = set-with_row _ _ c.index_mut.result.now _ c.index_mut.ensures.value
