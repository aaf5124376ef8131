use Rattle.std.proofs.Common.{ap, ◌∙◌, subst}
use Rattle.std.specs.Prelude.{is_some}
use Rattle.joint_machine.specs.PeerReplay.{PeerReplay}
use Rattle.check_laws.specs.Behind.{state_of}
use Rattle.run_check.specs.Cycles.{CycleFollows}
use Rattle.run_check.proofs.Parting.{marking-so, some-part}
use Rattle.run_check.proofs.replays.Replay.part.Goals as goal

pub returns-in-Some : goal.returns-in-Some
returns-in-Some c = λ past k f.
    some-part (state_of past) k.kept c.in-Some.open (subst (CycleFollows (state_of past)) c.in-Some.is f.cycle) c.next.result c.next.ensures c.is_some-marking.result
    (c.is_some-marking.ensures ∙ (marking-so c.marking.result c.args.self.now.peers.state.marking c.marking.ensures ∙ ap (λ (z : PeerReplay). is_some z.marking) f.peers.state))
