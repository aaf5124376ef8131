use Rattle.worked_histories.proofs.GapExamples.{stores}
use Rattle.worked_histories.proofs.gaps.stores_in_gaps.Goals as goal

pub returns : goal.returns
returns c = stores
