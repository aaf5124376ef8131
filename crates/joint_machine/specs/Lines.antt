-- Which operations a script line can have, which events an operation has, and on which side of the bridge
-- an event is made. docs/SCRIPT.md has the words. (The limits are this project's own.)
-- Believed: the clauses of the program's top call rest on all that stands here.
use Rattle.std.specs.Prelude.{◌≡◌, ℕ, ◌<◌, ◌≤◌, ◌⊎◌, Bool, true, false, Option, IfSome}
use Rattle.joint_machine.specs.declared.names.Var.{Var}
use Rattle.joint_machine.specs.declared.names.Thread.{Thread}
use Rattle.joint_machine.specs.declared.names.Thread.TheVariants.{M, P, C}
use Rattle.joint_machine.specs.declared.names.Kind.{Kind}
use Rattle.joint_machine.specs.declared.names.Kind.TheVariants as kind
use Rattle.joint_machine.specs.declared.names.Sort.{Sort}
use Rattle.joint_machine.specs.declared.names.Sort.TheVariants.{User}
use Rattle.joint_machine.specs.declared.lines.Act.{Act}
use Rattle.joint_machine.specs.declared.lines.Act.TheVariants as act
use Rattle.joint_machine.specs.declared.events.Op.{Op}
use Rattle.joint_machine.specs.declared.events.Op.TheVariants as op

-- a variable is one of a to h
abbrev pub IsVar : Var → Type 0
IsVar v = v.0 < 8

-- a variable or none
abbrev pub IsVarOrNone : Option Var → Type 0
IsVarOrNone v = IfSome v IsVar

-- a managed thread is one of m1 to m8
abbrev pub IsManagedThread : Thread → Type 0
IsManagedThread (M n) = (1 ≤ n) × (n ≤ 8)
IsManagedThread _ = ⊥

-- a peer thread is one of p1 to p8
abbrev pub IsPeerThread : Thread → Type 0
IsPeerThread (P n) = (1 ≤ n) × (n ≤ 8)
IsPeerThread _ = ⊥

-- the driver's thread is c
abbrev pub IsDriver : Thread → Type 0
IsDriver C = Unit {0}
IsDriver _ = ⊥

-- an object without a peer: plain with up to 16 fields, or a leaf with none
abbrev pub IsPlainObject : Kind → ℕ → Type 0
IsPlainObject kind.Plain n = n ≤ 16
IsPlainObject kind.Leaf n = n ≡ 0
IsPlainObject _ n = ⊥

-- a bridge object with its peer's sort: a bridge with up to 16 fields has a user's peer, a leaf bridge
-- has no fields and a peer of either sort
abbrev pub IsBridgeObject : Kind → ℕ → Sort → Type 0
IsBridgeObject kind.Bridge n s = (n ≤ 16) × (s ≡ User)
IsBridgeObject kind.LeafBridge n s = n ≡ 0
IsBridgeObject _ n s = ⊥

-- the operations that the lines of managed and of peer threads have, each on the thread's own heap
abbrev pub IsHeapAct : Act → Type 0
IsHeapAct (act.Copy v w) = IsVar v × IsVar w
IsHeapAct (act.Set v i w) = IsVar v × IsVarOrNone w × (i ≤ 255)
IsHeapAct (act.Get v w i) = IsVar v × IsVar w × (i ≤ 255)
IsHeapAct (act.Drop v) = IsVar v
IsHeapAct (act.Load v x) = IsVar v × (x.0 < 16)
IsHeapAct (act.Store x v) = (x.0 < 16) × IsVarOrNone v
IsHeapAct _ = ⊥

-- the operations of a managed thread's line
abbrev pub IsManagedAct : Act → Type 0
IsManagedAct (act.New v k n) = IsVar v × IsPlainObject k n
IsManagedAct (act.Bridge v k n s f) = IsVar v × IsBridgeObject k n s × (f ≤ 16)
IsManagedAct (act.Weak k v) = (k.0 < 64) × IsVar v
IsManagedAct (act.Read k) = k.0 < 64
IsManagedAct (act.Await k) = k.0 < 64
IsManagedAct (act.Take v) = IsVar v
IsManagedAct (act.Pass v x) = IsVar v × (x.0 < 16)
IsManagedAct (act.Surface v x) = IsVar v × (x.0 < 16)
IsManagedAct (act.Dispose v) = IsVar v
IsManagedAct (act.Handle v) = IsVar v
IsManagedAct a = IsHeapAct a

-- the operations of a peer thread's line
abbrev pub IsPeerAct : Act → Type 0
IsPeerAct (act.NewPeer v n) = IsVar v × (n ≤ 16)
IsPeerAct (act.Global g v) = (g.0 < 64) × IsVar v
IsPeerAct (act.WGlobal g v) = (g.0 < 64) × IsVar v
IsPeerAct (act.UnGlobal g) = g.0 < 64
IsPeerAct (act.WRead v g) = IsVar v × (g.0 < 64)
IsPeerAct act.Collect = Unit {0}
IsPeerAct act.BeginMark = Unit {0}
IsPeerAct (act.Slice n) = (1 ≤ n) × (n ≤ 65535)
IsPeerAct act.SweepMark = Unit {0}
IsPeerAct a = IsHeapAct a

-- the operations of the driver's line: a phase, or the taking of notices
abbrev pub IsDriverAct : Act → Type 0
IsDriverAct (act.PhaseLine w) = Unit {0}
IsDriverAct (act.Finalise n) = (1 ≤ n) × (n ≤ 65535)
IsDriverAct _ = ⊥

-- a thread and an operation that a script line can have
abbrev pub IsLine : Thread → Act → Type 0
IsLine (M n) a = IsManagedThread (M n) × IsManagedAct a
IsLine (P n) a = IsPeerThread (P n) × IsPeerAct a
IsLine C a = IsDriverAct a

-- the operation is one event, which has the line's own words
abbrev pub IsOneEvent : Act → Type 0
IsOneEvent (act.New v kind n) = Unit {0}
IsOneEvent (act.Copy v w) = Unit {0}
IsOneEvent (act.Set v i w) = Unit {0}
IsOneEvent (act.Get v w i) = Unit {0}
IsOneEvent (act.Drop v) = Unit {0}
IsOneEvent (act.Load v x) = Unit {0}
IsOneEvent (act.Store x v) = Unit {0}
IsOneEvent (act.Weak k v) = Unit {0}
IsOneEvent (act.Read k) = Unit {0}
IsOneEvent (act.Await k) = Unit {0}
IsOneEvent (act.Take v) = Unit {0}
IsOneEvent (act.Handle v) = Unit {0}
IsOneEvent (act.NewPeer v n) = Unit {0}
IsOneEvent (act.Global g v) = Unit {0}
IsOneEvent (act.WGlobal g v) = Unit {0}
IsOneEvent (act.UnGlobal g) = Unit {0}
IsOneEvent (act.WRead v g) = Unit {0}
IsOneEvent (act.Slice n) = Unit {0}
IsOneEvent (act.Finalise n) = Unit {0}
IsOneEvent _ = ⊥

-- a thread and an event that a history can have; those that no line below names are the driver's
abbrev pub IsEvent : Thread → Op → Type 0
IsEvent t (op.Line a) = IsLine t a × IsOneEvent a
IsEvent t (op.Make s n) = IsManagedThread t × (n ≤ 16)
IsEvent t (op.Adopt v k n p h) = IsManagedThread t × IsVar v × ((s : Sort) × IsBridgeObject k n s)
IsEvent t (op.Lend v x) = IsManagedThread t × IsVar v × (x.0 < 16)
IsEvent t (op.Land h x) = IsManagedThread t × (x.0 < 16)
IsEvent t (op.Grip x) = IsManagedThread t × (x.0 < 16)
IsEvent t (op.Meet v s n p h) = IsManagedThread t × IsVar v × (n ≤ 16)
IsEvent t (op.Give v) = IsManagedThread t × IsVar v
IsEvent t (op.Release h) = IsManagedThread t
IsEvent t op.Begin = IsPeerThread t ⊎ IsDriver t
IsEvent t op.Sweep = IsPeerThread t ⊎ IsDriver t
IsEvent t _ = IsDriver t

-- a thread is one of those that a script can have
abbrev pub IsThread : Thread → Type 0
IsThread (M n) = (1 ≤ n) × (n ≤ 8)
IsThread (P n) = (1 ≤ n) × (n ≤ 8)
IsThread C = Unit {0}

-- a number of fields that an adopted row can have
abbrev pub IsAdoptable : Kind → ℕ → Type 0
IsAdoptable kind.LeafBridge n = n ≡ 0
IsAdoptable _ n = n ≤ 16

-- a caller and an event that an entry can name, lawful or not
abbrev pub IsNamed : Thread → Op → Type 0
IsNamed t (op.Line a) = IsLine t a × IsOneEvent a
IsNamed t (op.Make s n) = IsThread t × (n ≤ 16)
IsNamed t (op.Adopt v k n p h) = IsThread t × IsVar v × IsAdoptable k n
IsNamed t (op.Lend v x) = IsThread t × IsVar v × (x.0 < 16)
IsNamed t (op.Land h x) = IsThread t × (x.0 < 16)
IsNamed t (op.Grip x) = IsThread t × (x.0 < 16)
IsNamed t (op.Meet v s n p h) = IsThread t × IsVar v × (n ≤ 16)
IsNamed t (op.Give v) = IsThread t × IsVar v
IsNamed t _ = IsThread t

-- whether a thread's line is made on the peer side
abbrev pub is_peer_thread : Thread → Bool
is_peer_thread (P n) = true
is_peer_thread _ = false

-- whether the event is made on the peer side; the others are made on the managed side
abbrev pub is_peer_event : Thread → Op → Bool
is_peer_event t (op.Line a) = is_peer_thread t
is_peer_event t (op.Make s n) = true
is_peer_event t (op.Land h x) = true
is_peer_event t (op.Grip x) = true
is_peer_event t (op.Release h) = true
is_peer_event t (op.Mirror k) = true
is_peer_event t (op.Weaken h) = true
is_peer_event t op.Begin = true
is_peer_event t op.Sweep = true
is_peer_event t (op.Restore h) = true
is_peer_event t (op.Clear k) = true
is_peer_event t _ = false

-- whether the event is a read of a cell
abbrev pub is_read : Op → Bool
is_read (op.Line (act.Read k)) = true
is_read (op.Line (act.Await k)) = true
is_read _ = false
