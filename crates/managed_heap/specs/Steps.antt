-- The events that a step of a managed side makes, and what its entries tell.
use Rattle.std.specs.Prelude.{◌≡◌, ℕ, List, [], ◌∷◌, Contains, IsSome, Option, None}
use Rattle.joint_machine.specs.declared.names.Cell.{Cell}
use Rattle.joint_machine.specs.declared.names.HNum.{HNum}
use Rattle.joint_machine.specs.declared.names.Thread.{Thread}
use Rattle.joint_machine.specs.declared.names.Var.{Var}
use Rattle.joint_machine.specs.declared.lines.Act.{Act}
use Rattle.joint_machine.specs.declared.lines.Act.TheVariants as act
use Rattle.joint_machine.specs.declared.events.Made.{Made}
use Rattle.joint_machine.specs.declared.events.Op.{Op}
use Rattle.joint_machine.specs.declared.events.Op.TheVariants as op
use Rattle.joint_machine.specs.declared.events.Reply.{Reply}
use Rattle.joint_machine.specs.declared.events.Reply.TheVariants as says
use Rattle.joint_machine.specs.Lines.{IsEvent, IsDriver, IsManagedThread}
use Rattle.joint_machine.specs.ManagedReplay.{ManagedReplay}

-- the handle that an `adopt` takes by its answer
abbrev pub by_adopt : HNum → Reply → List ℕ
by_adopt h (says.M m) = h.0 ∷ []
by_adopt h r = []

-- the handle that a `meet` takes by its answer
abbrev pub by_meet : HNum → Reply → List ℕ
by_meet h (says.New m) = h.0 ∷ []
by_meet h r = []

-- the handle that an entry adopts
abbrev pub adopted_by : Op → Reply → List ℕ
adopted_by (op.Adopt v kind n p h) r = by_adopt h r
adopted_by (op.Meet v sort n p h) r = by_meet h r
adopted_by o r = []

-- a managed thread's line that a step makes; `weak` and `take` are calls of their own, and reads are none of the side's
abbrev pub IsStepAct : Act → Type 0
IsStepAct (act.New v kind n) = Unit {0}
IsStepAct (act.Copy v w) = Unit {0}
IsStepAct (act.Set v i w) = Unit {0}
IsStepAct (act.Get v w i) = Unit {0}
IsStepAct (act.Drop v) = Unit {0}
IsStepAct (act.Load v x) = Unit {0}
IsStepAct (act.Store x v) = Unit {0}
IsStepAct (act.Handle v) = Unit {0}
IsStepAct _ = ⊥

-- a line that a step makes, and by whom: `finalise` by the driver, each other one by a managed thread
abbrev pub IsLineBy : Thread → Act → Type 0
IsLineBy t (act.Finalise n) = IsDriver t
IsLineBy t a = IsManagedThread t × IsStepAct a

-- an event that a step makes, and by whom
abbrev pub IsStepBy : Thread → Op → Type 0
IsStepBy t (op.Line a) = IsLineBy t a
IsStepBy t (op.Lend v x) = IsManagedThread t
IsStepBy t (op.Adopt v kind n p h) = IsManagedThread t
IsStepBy t (op.Meet v sort n p h) = IsManagedThread t
IsStepBy t (op.Give v) = IsManagedThread t
IsStepBy t _ = ⊥

-- a caller and an event that a step takes
abbrev pub IsManagedStep : Thread → Op → Type 0
IsManagedStep t o = IsEvent t o × IsStepBy t o

-- no row ever took the handle that an `adopt` or a `meet` names
abbrev pub IsFresh : ManagedReplay → Op → Type 0
IsFresh s (op.Adopt v kind n p h) = Contains s.adopted h.0 → ⊥
IsFresh s (op.Meet v sort n p h) = Contains s.adopted h.0 → ⊥
IsFresh s o = Unit {0}

-- an `adopt` and a `meet` cite an entry, and no other event of a step does
abbrev pub CitesRightly : Op → Option ℕ → Type 0
CitesRightly (op.Adopt v kind n p h) cites = IsSome cites
CitesRightly (op.Meet v sort n p h) cites = IsSome cites
CitesRightly o cites = cites ≡ None

-- the event `take V`
abbrev pub take_op : Var → Op
take_op v = op.Line (act.Take v)

-- the event `weak K V`
abbrev pub weak_op : Cell → Var → Op
weak_op k v = op.Line (act.Weak k v)
