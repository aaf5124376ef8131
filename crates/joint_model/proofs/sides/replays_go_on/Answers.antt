use Rattle.joint_machine.specs.Sides.{managed_rules, peer_rules}
use Rattle.joint_machine.proofs.SideLists.{IsReplayed-push}
use Rattle.joint_model.proofs.sides.replays_go_on.Goals as goal

pub returns-clause-managed : goal.returns-clause-managed
returns-clause-managed c = λ old new. IsReplayed-push managed_rules old.entries new.entries old.state new.state

pub returns-clause-peers : goal.returns-clause-peers
returns-clause-peers c = λ old new. IsReplayed-push peer_rules old.entries new.entries old.state new.state
