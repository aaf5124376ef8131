-- Nothing that a snapshot frees is reached, in any joint state; and nothing that a resolution frees is, in any joint
-- state whose managed part keeps what it keeps at every state of a lawful list of entries.
use Rattle.std.specs.Prelude.{◌≡◌, ℕ, List, Contains, Some}
use Rattle.joint_machine.specs.Cycles.{IsSnapshot, IsResolution}
use Rattle.joint_machine.specs.Joint.{Joint, IsReached, object}
use Rattle.joint_machine.specs.Managed.{OpenCycle}
use Rattle.joint_machine.specs.Run.{IsKept}
use Rattle.joint_laws.specs.ManagedInvariants.{ManagedInvariant}

-- no row that a snapshot frees is reached
abbrev pub SnapshotFreesUnreached : Type 0
SnapshotFreesUnreached = (j : Joint) (k m : ℕ) (freed candidates dead : List ℕ)
    → IsSnapshot j.graph.managed k freed candidates dead → Contains freed m → IsReached j (object m) → ⊥

-- no row that a resolution frees is reached, where the managed part is kept, and the candidates that stay are those
-- whose peer is unfreed
abbrev pub ResolutionFreesUnreached : Type 0
ResolutionFreesUnreached = (j : Joint) (c : OpenCycle) (m : ℕ) (freed : List ℕ)
    → ManagedInvariant j.graph.managed → j.graph.managed.cycle ≡ Some c
    → IsResolution j.graph.managed c.dead (IsKept j c) freed → Contains freed m → IsReached j (object m) → ⊥
