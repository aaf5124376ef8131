-- How the operations of both heaps name an object, and what the operations of managed threads ask for.
use Rattle.std.specs.Prelude.{ℕ, ◌<◌, ◌≤◌}
use Rattle.joint_machine.specs.declared.names.Sort.{Sort}
use Rattle.joint_machine.specs.declared.events.Op.{Op}
use Rattle.joint_machine.specs.declared.events.Op.TheVariants as op
use Rattle.joint_machine.specs.declared.events.Reply.{Reply}
use Rattle.joint_machine.specs.Lines.{IsVar, IsBridgeObject}
use Rattle.joint_machine.specs.Managed.{managed_name}
use Rattle.joint_machine.specs.Peers.{peer_name}
use Rattle.joint_replay.specs.declared.operations.Naming.{Naming}
use Rattle.joint_replay.specs.declared.operations.Naming.TheVariants.{Objects, Peers}

-- how a reply names an object
abbrev pub name_of : Naming → ℕ → Reply
name_of Objects = managed_name
name_of Peers = peer_name

-- an event that a managed thread makes on the handles and their objects, within its limits
abbrev pub IsBridgeEvent : Op → Type 0
IsBridgeEvent (op.Make s n) = n ≤ 16
IsBridgeEvent (op.Adopt v k n p h) = IsVar v × ((s : Sort) × IsBridgeObject k n s)
IsBridgeEvent (op.Lend v x) = IsVar v × (x.0 < 16)
IsBridgeEvent (op.Land h x) = x.0 < 16
IsBridgeEvent (op.Grip x) = x.0 < 16
IsBridgeEvent (op.Meet v s n p h) = IsVar v × (n ≤ 16)
IsBridgeEvent (op.Give v) = IsVar v
IsBridgeEvent (op.Release h) = Unit {0}
IsBridgeEvent _ = ⊥
