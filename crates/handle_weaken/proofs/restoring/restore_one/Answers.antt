-- A restore changes nothing of the peers but the handles that were issued.
use Rattle.handle_weaken.proofs.Restored.{restored-peers}
use Rattle.handle_weaken.proofs.restoring.restore_one.Goals as goal

pub returns-clause-peers : goal.returns-clause-peers
returns-clause-peers g c = restored-peers c.args.side.now.state c.restore.new.self.state c.args.h.0 c.restore.ensures.adds.goes.state
