-- Whether a script line can have an operation, and whether a history can have an event.
use Rattle.std.specs.Prelude.{ℕ, Bool, true, false, ◌&&◌, ◌||◌, nat_eq, nat_lt, nat_le, Option, Some, None}
use Rattle.joint_machine.specs.declared.names.Var.{Var}
use Rattle.joint_machine.specs.declared.names.Thread.{Thread}
use Rattle.joint_machine.specs.declared.names.Thread.TheVariants.{M, P, C}
use Rattle.joint_machine.specs.declared.names.Kind.{Kind}
use Rattle.joint_machine.specs.declared.names.Kind.TheVariants as kind
use Rattle.joint_machine.specs.declared.names.Sort.{Sort}
use Rattle.joint_machine.specs.declared.names.Sort.TheVariants.{User, Framework}
use Rattle.joint_machine.specs.declared.lines.Act.{Act}
use Rattle.joint_machine.specs.declared.lines.Act.TheVariants as act
use Rattle.joint_machine.specs.declared.events.Op.{Op}
use Rattle.joint_machine.specs.declared.events.Op.TheVariants as op
use Rattle.computed_histories.specs.Replies.{same_sort}

-- whether a variable is one of a to h, and whether it is one of them or none
abbrev pub is_var : Var → Bool
is_var v = nat_lt v.0 8

abbrev pub is_var_or_none : Option Var → Bool
is_var_or_none None = true
is_var_or_none (Some v) = is_var v

-- whether a thread is one of m1 to m8, of p1 to p8, or c
abbrev pub is_managed_thread : Thread → Bool
is_managed_thread (M n) = nat_le 1 n && nat_le n 8
is_managed_thread (P n) = false
is_managed_thread C = false

abbrev pub is_peer_thread : Thread → Bool
is_peer_thread (M n) = false
is_peer_thread (P n) = nat_le 1 n && nat_le n 8
is_peer_thread C = false

abbrev pub is_driver : Thread → Bool
is_driver (M n) = false
is_driver (P n) = false
is_driver C = true

-- whether a kind is that of an object without a peer with so many fields, and whether it is that of a bridge object
-- with its peer's sort
abbrev pub is_plain_object : Kind → ℕ → Bool
is_plain_object kind.Plain n = nat_le n 16
is_plain_object kind.Leaf n = nat_eq n 0
is_plain_object kind.Bridge n = false
is_plain_object kind.LeafBridge n = false

abbrev pub is_bridge_object : Kind → ℕ → Sort → Bool
is_bridge_object kind.Plain n s = false
is_bridge_object kind.Leaf n s = false
is_bridge_object kind.Bridge n s = nat_le n 16 && same_sort s User
is_bridge_object kind.LeafBridge n s = nat_eq n 0

-- the operations of each caller's lines
abbrev pub is_managed_act : Act → Bool
is_managed_act (act.New v k n) = is_var v && is_plain_object k n
is_managed_act (act.Bridge v k n s f) = is_var v && is_bridge_object k n s && nat_le f 16
is_managed_act (act.Copy v w) = is_var v && is_var w
is_managed_act (act.Set v i w) = is_var v && is_var_or_none w && nat_le i 255
is_managed_act (act.Get v w i) = is_var v && is_var w && nat_le i 255
is_managed_act (act.Drop v) = is_var v
is_managed_act (act.Load v x) = is_var v && nat_lt x.0 16
is_managed_act (act.Store x v) = nat_lt x.0 16 && is_var_or_none v
is_managed_act (act.Weak k v) = nat_lt k.0 64 && is_var v
is_managed_act (act.Read k) = nat_lt k.0 64
is_managed_act (act.Await k) = nat_lt k.0 64
is_managed_act (act.Take v) = is_var v
is_managed_act (act.Pass v x) = is_var v && nat_lt x.0 16
is_managed_act (act.Surface v x) = is_var v && nat_lt x.0 16
is_managed_act (act.Dispose v) = is_var v
is_managed_act (act.Handle v) = is_var v
is_managed_act (act.NewPeer v n) = false
is_managed_act (act.Global g v) = false
is_managed_act (act.WGlobal g v) = false
is_managed_act (act.UnGlobal g) = false
is_managed_act (act.WRead v g) = false
is_managed_act act.Collect = false
is_managed_act act.BeginMark = false
is_managed_act (act.Slice n) = false
is_managed_act act.SweepMark = false
is_managed_act (act.PhaseLine w) = false
is_managed_act (act.Finalise n) = false

abbrev pub is_peer_act : Act → Bool
is_peer_act (act.New v k n) = false
is_peer_act (act.Bridge v k n s f) = false
is_peer_act (act.Copy v w) = is_var v && is_var w
is_peer_act (act.Set v i w) = is_var v && is_var_or_none w && nat_le i 255
is_peer_act (act.Get v w i) = is_var v && is_var w && nat_le i 255
is_peer_act (act.Drop v) = is_var v
is_peer_act (act.Load v x) = is_var v && nat_lt x.0 16
is_peer_act (act.Store x v) = nat_lt x.0 16 && is_var_or_none v
is_peer_act (act.Weak k v) = false
is_peer_act (act.Read k) = false
is_peer_act (act.Await k) = false
is_peer_act (act.Take v) = false
is_peer_act (act.Pass v x) = false
is_peer_act (act.Surface v x) = false
is_peer_act (act.Dispose v) = false
is_peer_act (act.Handle v) = false
is_peer_act (act.NewPeer v n) = is_var v && nat_le n 16
is_peer_act (act.Global g v) = nat_lt g.0 64 && is_var v
is_peer_act (act.WGlobal g v) = nat_lt g.0 64 && is_var v
is_peer_act (act.UnGlobal g) = nat_lt g.0 64
is_peer_act (act.WRead v g) = is_var v && nat_lt g.0 64
is_peer_act act.Collect = true
is_peer_act act.BeginMark = true
is_peer_act (act.Slice n) = nat_le 1 n && nat_le n 65535
is_peer_act act.SweepMark = true
is_peer_act (act.PhaseLine w) = false
is_peer_act (act.Finalise n) = false

abbrev pub is_driver_act : Act → Bool
is_driver_act (act.PhaseLine w) = true
is_driver_act (act.Finalise n) = nat_le 1 n && nat_le n 65535
is_driver_act _ = false

-- a thread and an operation that a script line can have, and whether the operation is one event
abbrev pub is_line : Thread → Act → Bool
is_line (M n) a = is_managed_thread (M n) && is_managed_act a
is_line (P n) a = is_peer_thread (P n) && is_peer_act a
is_line C a = is_driver_act a

abbrev pub is_one_event : Act → Bool
is_one_event (act.Bridge v k n s f) = false
is_one_event (act.Pass v x) = false
is_one_event (act.Surface v x) = false
is_one_event (act.Dispose v) = false
is_one_event act.Collect = false
is_one_event act.BeginMark = false
is_one_event act.SweepMark = false
is_one_event (act.PhaseLine w) = false
is_one_event _ = true

-- a thread and an event that a history can have
abbrev pub is_event : Thread → Op → Bool
is_event t (op.Line a) = is_line t a && is_one_event a
is_event t (op.Make s n) = is_managed_thread t && nat_le n 16
is_event t (op.Adopt v k n p h) = is_managed_thread t && is_var v &&
    (is_bridge_object k n User || is_bridge_object k n Framework)
is_event t (op.Lend v x) = is_managed_thread t && is_var v && nat_lt x.0 16
is_event t (op.Land h x) = is_managed_thread t && nat_lt x.0 16
is_event t (op.Grip x) = is_managed_thread t && nat_lt x.0 16
is_event t (op.Meet v s n p h) = is_managed_thread t && is_var v && nat_le n 16
is_event t (op.Give v) = is_managed_thread t && is_var v
is_event t (op.Release h) = is_managed_thread t
is_event t (op.Snap k) = is_driver t
is_event t (op.Contract k) = is_driver t
is_event t (op.Mirror k) = is_driver t
is_event t (op.Weaken h) = is_driver t
is_event t op.Begin = is_peer_thread t || is_driver t
is_event t op.Sweep = is_peer_thread t || is_driver t
is_event t (op.Restore h) = is_driver t
is_event t (op.Clear k) = is_driver t
is_event t (op.Resolve k) = is_driver t
is_event t (op.Abandon k) = is_driver t
is_event t (op.Refused w) = is_driver t
