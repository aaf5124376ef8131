-- The events that a step of the peer side makes, and the room that each wants. (This project's own.)
use Rattle.std.specs.Prelude.{◌≡◌, ℕ, ◌+◌, ◌≤◌, ◌<◌, List, Option, Some}
use Rattle.joint_machine.specs.declared.names.Thread.{Thread}
use Rattle.joint_machine.specs.declared.lines.Act.{Act}
use Rattle.joint_machine.specs.declared.lines.Act.TheVariants as act
use Rattle.joint_machine.specs.declared.events.Op.{Op}
use Rattle.joint_machine.specs.declared.events.Op.TheVariants as op
use Rattle.joint_machine.specs.Heaps.{numbered_at}
use Rattle.joint_machine.specs.Lines.{IsPeerThread, IsManagedThread, IsPeerAct}
use Rattle.joint_machine.specs.PeerReplay.{TableRow}

-- the operations of a peer thread's line that a step makes
abbrev pub IsStepLine : Act → Type 0
IsStepLine (act.NewPeer v n) = Unit {0}
IsStepLine (act.Copy v w) = Unit {0}
IsStepLine (act.Set v i w) = Unit {0}
IsStepLine (act.Get v w i) = Unit {0}
IsStepLine (act.Drop v) = Unit {0}
IsStepLine (act.Load v x) = Unit {0}
IsStepLine (act.Store x v) = Unit {0}
IsStepLine (act.Global g v) = Unit {0}
IsStepLine (act.WGlobal g v) = Unit {0}
IsStepLine (act.UnGlobal g) = Unit {0}
IsStepLine (act.WRead v g) = Unit {0}
IsStepLine _ = ⊥

-- a caller and an event that a step makes: a line of a peer thread, or what a managed thread does with handles
abbrev pub IsPeerStep : Thread → Op → Type 0
IsPeerStep t (op.Line a) = IsPeerThread t × IsPeerAct a × IsStepLine a
IsPeerStep t (op.Make sort n) = IsManagedThread t × (n ≤ 16)
IsPeerStep t (op.Land h x) = IsManagedThread t × (x.0 < 16)
IsPeerStep t (op.Grip x) = IsManagedThread t × (x.0 < 16)
IsPeerStep t (op.Release h) = IsManagedThread t
IsPeerStep t _ = ⊥

-- the event is a release
abbrev pub IsRelease : Op → Type 0
IsRelease (op.Release h) = Unit {0}
IsRelease _ = ⊥

-- a release names a handle of the table
abbrev pub ReleasesTabled : List (Option TableRow) → Op → Type 0
ReleasesTabled table (op.Release h) = (row : TableRow) × (numbered_at table h.0 ≡ Some (Some row))
ReleasesTabled table _ = Unit {0}

-- the room that an event wants where the table has so many handles: for its own entry and for the releases of the
-- handles that the table has then; a release uses its own
abbrev pub room_for : Op → ℕ → ℕ
room_for (op.Release h) n = n
room_for _ n = n + 2
