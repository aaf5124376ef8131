-- A peer side on which a peer is gripped, as the tests drive it.
use Rattle.std.specs.Prelude.{Some, None}
use Rattle.joint_machine.specs.declared.names.StaticNo.{StaticNo}
use Rattle.joint_machine.specs.declared.names.Thread.{Thread}
use Rattle.joint_machine.specs.declared.names.Thread.TheVariants.{M, P}
use Rattle.joint_machine.specs.declared.names.Var.{Var}
use Rattle.joint_machine.specs.declared.lines.Act.TheVariants as act
use Rattle.joint_machine.specs.declared.events.Op.{Op}
use Rattle.joint_machine.specs.declared.events.Op.TheVariants as op
use Rattle.joint_machine.specs.PeerReplay.{PeerReplay, peer_answer}
use Rattle.joint_machine.specs.Told.{nothing}

-- the state after an event that asks nothing
abbrev pub after : PeerReplay → Thread → Op → PeerReplay
after s t o = (peer_answer s t o None nothing).state

-- the first variable, and the first static
abbrev pub var : Var
var = record { 0 = 0 }

abbrev pub static : StaticNo
static = record { 0 = 0 }

-- p1 makes a peer, puts it in the first static, and drops it; and m1 grips it
abbrev pub newly : Op
newly = op.Line (act.NewPeer var 0)

abbrev pub putting : Op
putting = op.Line (act.Store static (Some var))

abbrev pub dropping : Op
dropping = op.Line (act.Drop var)

abbrev pub gripping : Op
gripping = op.Grip static

unfoldable pub with_grip : PeerReplay → PeerReplay
with_grip s = after (after (after (after s (P 1) newly) (P 1) putting) (P 1) dropping) (M 1) gripping
