-- The tests of a line and of an event tell what the definitions say, case by case.
use Rattle.std.proofs.Common.{ℕ, ◌⊎◌, inl, inr, ⊎_elim, ◌||◌, Option, Some, None}
use Rattle.joint_machine.specs.declared.names.Var.{Var}
use Rattle.joint_machine.specs.declared.names.Thread.{Thread}
use Rattle.joint_machine.specs.declared.names.Thread.TheVariants.{M, P, C}
use Rattle.joint_machine.specs.declared.names.Kind.{Kind}
use Rattle.joint_machine.specs.declared.names.Kind.TheVariants as kind
use Rattle.joint_machine.specs.declared.names.Sort.{Sort}
use Rattle.joint_machine.specs.declared.names.Sort.TheVariants.{User, Framework}
use Rattle.joint_machine.specs.declared.lines.Act.{Act}
use Rattle.joint_machine.specs.declared.lines.Act.TheVariants as act
use Rattle.joint_machine.specs.declared.events.Op.{Op}
use Rattle.joint_machine.specs.declared.events.Op.TheVariants as op
use Rattle.joint_machine.specs.Lines.{IsVar, IsVarOrNone, IsManagedThread, IsPeerThread, IsDriver, IsPlainObject, IsBridgeObject, IsManagedAct, IsPeerAct, IsDriverAct, IsLine, IsOneEvent, IsEvent}
use Rattle.computed_histories.specs.Lines.{is_var, is_var_or_none, is_managed_thread, is_peer_thread, is_driver, is_plain_object, is_bridge_object, is_managed_act, is_peer_act, is_driver_act, is_line}
use Rattle.computed_histories.specs.Lines.{is_one_event, is_event}
use Rattle.computed_histories.proofs.Telling.{Tells, always, never, like, and2, and3, or2, same, less, upto}
use Rattle.computed_histories.proofs.ReplyTests.{sorts}

pub tells_var : (v : Var) → Tells (is_var v) (IsVar v)
tells_var v = less v.0 8

pub tells_var_or_none : (v : Option Var) → Tells (is_var_or_none v) (IsVarOrNone v)
tells_var_or_none None = always tt
tells_var_or_none (Some v) = tells_var v

pub tells_managed_thread : (t : Thread) → Tells (is_managed_thread t) (IsManagedThread t)
tells_managed_thread (M n) = and2 (upto 1 n) (upto n 8)
tells_managed_thread (P n) = never (λ z. z)
tells_managed_thread C = never (λ z. z)

pub tells_peer_thread : (t : Thread) → Tells (is_peer_thread t) (IsPeerThread t)
tells_peer_thread (M n) = never (λ z. z)
tells_peer_thread (P n) = and2 (upto 1 n) (upto n 8)
tells_peer_thread C = never (λ z. z)

pub tells_driver : (t : Thread) → Tells (is_driver t) (IsDriver t)
tells_driver (M n) = never (λ z. z)
tells_driver (P n) = never (λ z. z)
tells_driver C = always tt

pub tells_plain_object : (k : Kind) (n : ℕ) → Tells (is_plain_object k n) (IsPlainObject k n)
tells_plain_object kind.Plain n = upto n 16
tells_plain_object kind.Leaf n = same n 0
tells_plain_object kind.Bridge n = never (λ z. z)
tells_plain_object kind.LeafBridge n = never (λ z. z)

pub tells_bridge_object : (k : Kind) (n : ℕ) (s : Sort) → Tells (is_bridge_object k n s) (IsBridgeObject k n s)
tells_bridge_object kind.Plain n s = never (λ z. z)
tells_bridge_object kind.Leaf n s = never (λ z. z)
tells_bridge_object kind.Bridge n s = and2 (upto n 16) (sorts s User)
tells_bridge_object kind.LeafBridge n s = same n 0

pub tells_managed_act : (a : Act) → Tells (is_managed_act a) (IsManagedAct a)
tells_managed_act (act.New v k n) = and2 (tells_var v) (tells_plain_object k n)
tells_managed_act (act.Bridge v k n s f) = and3 (tells_var v) (tells_bridge_object k n s) (upto f 16)
tells_managed_act (act.Copy v w) = and2 (tells_var v) (tells_var w)
tells_managed_act (act.Set v i w) = and3 (tells_var v) (tells_var_or_none w) (upto i 255)
tells_managed_act (act.Get v w i) = and3 (tells_var v) (tells_var w) (upto i 255)
tells_managed_act (act.Drop v) = tells_var v
tells_managed_act (act.Load v x) = and2 (tells_var v) (less x.0 16)
tells_managed_act (act.Store x v) = and2 (less x.0 16) (tells_var_or_none v)
tells_managed_act (act.Weak k v) = and2 (less k.0 64) (tells_var v)
tells_managed_act (act.Read k) = less k.0 64
tells_managed_act (act.Await k) = less k.0 64
tells_managed_act (act.Take v) = tells_var v
tells_managed_act (act.Pass v x) = and2 (tells_var v) (less x.0 16)
tells_managed_act (act.Surface v x) = and2 (tells_var v) (less x.0 16)
tells_managed_act (act.Dispose v) = tells_var v
tells_managed_act (act.Handle v) = tells_var v
tells_managed_act (act.NewPeer v n) = never (λ z. z)
tells_managed_act (act.Global g v) = never (λ z. z)
tells_managed_act (act.WGlobal g v) = never (λ z. z)
tells_managed_act (act.UnGlobal g) = never (λ z. z)
tells_managed_act (act.WRead v g) = never (λ z. z)
tells_managed_act act.Collect = never (λ z. z)
tells_managed_act act.BeginMark = never (λ z. z)
tells_managed_act (act.Slice n) = never (λ z. z)
tells_managed_act act.SweepMark = never (λ z. z)
tells_managed_act (act.PhaseLine w) = never (λ z. z)
tells_managed_act (act.Finalise n) = never (λ z. z)

pub tells_peer_act : (a : Act) → Tells (is_peer_act a) (IsPeerAct a)
tells_peer_act (act.New v k n) = never (λ z. z)
tells_peer_act (act.Bridge v k n s f) = never (λ z. z)
tells_peer_act (act.Copy v w) = and2 (tells_var v) (tells_var w)
tells_peer_act (act.Set v i w) = and3 (tells_var v) (tells_var_or_none w) (upto i 255)
tells_peer_act (act.Get v w i) = and3 (tells_var v) (tells_var w) (upto i 255)
tells_peer_act (act.Drop v) = tells_var v
tells_peer_act (act.Load v x) = and2 (tells_var v) (less x.0 16)
tells_peer_act (act.Store x v) = and2 (less x.0 16) (tells_var_or_none v)
tells_peer_act (act.Weak k v) = never (λ z. z)
tells_peer_act (act.Read k) = never (λ z. z)
tells_peer_act (act.Await k) = never (λ z. z)
tells_peer_act (act.Take v) = never (λ z. z)
tells_peer_act (act.Pass v x) = never (λ z. z)
tells_peer_act (act.Surface v x) = never (λ z. z)
tells_peer_act (act.Dispose v) = never (λ z. z)
tells_peer_act (act.Handle v) = never (λ z. z)
tells_peer_act (act.NewPeer v n) = and2 (tells_var v) (upto n 16)
tells_peer_act (act.Global g v) = and2 (less g.0 64) (tells_var v)
tells_peer_act (act.WGlobal g v) = and2 (less g.0 64) (tells_var v)
tells_peer_act (act.UnGlobal g) = less g.0 64
tells_peer_act (act.WRead v g) = and2 (tells_var v) (less g.0 64)
tells_peer_act act.Collect = always tt
tells_peer_act act.BeginMark = always tt
tells_peer_act (act.Slice n) = and2 (upto 1 n) (upto n 65535)
tells_peer_act act.SweepMark = always tt
tells_peer_act (act.PhaseLine w) = never (λ z. z)
tells_peer_act (act.Finalise n) = never (λ z. z)

pub tells_driver_act : (a : Act) → Tells (is_driver_act a) (IsDriverAct a)
tells_driver_act (act.PhaseLine w) = always tt
tells_driver_act (act.Finalise n) = and2 (upto 1 n) (upto n 65535)
tells_driver_act _ = never (λ z. z)

pub tells_line : (t : Thread) (a : Act) → Tells (is_line t a) (IsLine t a)
tells_line (M n) a = and2 (tells_managed_thread (M n)) (tells_managed_act a)
tells_line (P n) a = and2 (tells_peer_thread (P n)) (tells_peer_act a)
tells_line C a = tells_driver_act a

pub tells_one_event : (a : Act) → Tells (is_one_event a) (IsOneEvent a)
tells_one_event (act.Bridge v k n s f) = never (λ z. z)
tells_one_event (act.Pass v x) = never (λ z. z)
tells_one_event (act.Surface v x) = never (λ z. z)
tells_one_event (act.Dispose v) = never (λ z. z)
tells_one_event act.Collect = never (λ z. z)
tells_one_event act.BeginMark = never (λ z. z)
tells_one_event act.SweepMark = never (λ z. z)
tells_one_event (act.PhaseLine w) = never (λ z. z)
tells_one_event _ = always tt

some_sort : (k : Kind) (n : ℕ) → Tells (is_bridge_object k n User || is_bridge_object k n Framework) ((s : Sort) × IsBridgeObject k n s)
some_sort k n = like {P = IsBridgeObject k n User ⊎ IsBridgeObject k n Framework} (λ s. ⊎_elim (λ p. (User, p)) (λ p. (Framework, p)) s) (λ p. by_sort p.0 p.1)
    (or2 (tells_bridge_object k n User) (tells_bridge_object k n Framework))
  where
    by_sort : (s : Sort) → IsBridgeObject k n s → IsBridgeObject k n User ⊎ IsBridgeObject k n Framework
    by_sort User p = inl p
    by_sort Framework p = inr p

pub tells_event : (t : Thread) (o : Op) → Tells (is_event t o) (IsEvent t o)
tells_event t (op.Line a) = and2 (tells_line t a) (tells_one_event a)
tells_event t (op.Make s n) = and2 (tells_managed_thread t) (upto n 16)
tells_event t (op.Adopt v k n p h) = and3 (tells_managed_thread t) (tells_var v) (some_sort k n)
tells_event t (op.Lend v x) = and3 (tells_managed_thread t) (tells_var v) (less x.0 16)
tells_event t (op.Land h x) = and2 (tells_managed_thread t) (less x.0 16)
tells_event t (op.Grip x) = and2 (tells_managed_thread t) (less x.0 16)
tells_event t (op.Meet v s n p h) = and3 (tells_managed_thread t) (tells_var v) (upto n 16)
tells_event t (op.Give v) = and2 (tells_managed_thread t) (tells_var v)
tells_event t (op.Release h) = tells_managed_thread t
tells_event t (op.Snap k) = tells_driver t
tells_event t (op.Contract k) = tells_driver t
tells_event t (op.Mirror k) = tells_driver t
tells_event t (op.Weaken h) = tells_driver t
tells_event t op.Begin = or2 (tells_peer_thread t) (tells_driver t)
tells_event t op.Sweep = or2 (tells_peer_thread t) (tells_driver t)
tells_event t (op.Restore h) = tells_driver t
tells_event t (op.Clear k) = tells_driver t
tells_event t (op.Resolve k) = tells_driver t
tells_event t (op.Abandon k) = tells_driver t
tells_event t (op.Refused w) = tells_driver t
