-- Laws of the managed side, at every state of a lawful list of entries.
use Rattle.std.specs.Prelude.{◌≡◌, ℕ, ◌+◌, ◌↔◌, List, Contains, Some}
use Rattle.joint_machine.specs.Cycles.{IsDeadContraction}
use Rattle.joint_machine.specs.Heaps.{fields_of}
use Rattle.joint_machine.specs.Managed.{Managed, OpenCycle, ManagedEdge, handle_of}
use Rattle.joint_machine.specs.Walks.{Reaches}
use Rattle.joint_machine.specs.Linked.{opening_linkage}
use Rattle.joint_machine.specs.Replaying.{AllMayCome}
use Rattle.joint_machine.specs.Told.{Noted}
use Rattle.joint_laws.specs.ManagedInvariants.{IsCutOff, ManagedInvariant, ReplayInvariant}
use Rattle.joint_laws.specs.Mirrors.{MirrorEdge}
use Rattle.joint_laws.specs.States.{state_at}

-- the managed objects in the state after so many entries
abbrev pub managed_at : List Noted → ℕ → Managed
managed_at noted i = (state_at noted i).managed.managed

-- what the managed side keeps holds at every state
abbrev pub ManagedInvariantHolds : Type 0
ManagedInvariantHolds = (noted : List Noted) → AllMayCome opening_linkage noted
    → (i : ℕ) → ReplayInvariant (state_at noted i).managed

-- between two states the open cycle stayed, and no field and no handle of a row of its dead part changed; the dead part
-- is cut off at the later one too
pub record IsFrozenSince (s t : Managed) (c : OpenCycle) : Type 0 where
  pub same : t.cycle ≡ Some c
  pub cut_off : IsCutOff t c
  pub fields : (m : ℕ) → Contains c.dead m → fields_of t.heap m ≡ fields_of s.heap m
  pub handles : (m : ℕ) → Contains c.dead m → handle_of t m ≡ handle_of s m

-- while a cycle is open its dead part is frozen: at any two states at which the same cycle is open
abbrev pub DeadPartIsFrozen : Type 0
DeadPartIsFrozen = (noted : List Noted) → AllMayCome opening_linkage noted → (i more : ℕ) (c e : OpenCycle)
    → (managed_at noted i).cycle ≡ Some c → (managed_at noted (i + more)).cycle ≡ Some e → e.number ≡ c.number
    → IsFrozenSince (managed_at noted i) (managed_at noted (i + more)) c

-- in a managed state that is kept, between the candidates of an open cycle the mirror edges of its dead part lead
-- exactly where managed fields lead
abbrev pub DeadPartIsMirrored : Type 0
DeadPartIsMirrored = (s : Managed) (c : OpenCycle) (comps : List (List ℕ)) (heavy : List ℕ) (xrefs : List (ℕ × ℕ))
    → ManagedInvariant s → s.cycle ≡ Some c → IsDeadContraction s c.dead comps heavy xrefs
    → (a b : ℕ) → Contains c.candidates a → Contains c.candidates b
    → Reaches (ManagedEdge s) a b ↔ Reaches (MirrorEdge comps xrefs) a b
