-- A verdict on the answer of a part of the joint state is one on the answer of the whole.
use Rattle.std.proofs.Common.{refl, ap}
use Rattle.joint_machine.specs.declared.events.Reply.{Reply}
use Rattle.joint_machine.specs.Heaps.{Answered, answer}
use Rattle.joint_replay.specs.declared.state.Verdict.{Verdict}
use Rattle.joint_replay.specs.declared.state.Verdict.TheVariants.{Lawful, Unlawful}
use Rattle.joint_replay.specs.Judging.{Decides, Gives}

pub Gives-on : {S T : Type 0} (f : S → T) (a : Answered S) (reply : Reply) (v : Verdict) (old new : S)
    → Decides (Gives a reply) v old new → Decides (Gives (answer a.reply (f a.state)) reply) v (f old) (f new)
Gives-on f a reply Lawful old new d = record { replies = d.replies; state = ap f d.state }
Gives-on f a reply Unlawful old new d = (λ n g. d.0 a.state (record { replies = g.replies; state = refl }), ap f d.1)
