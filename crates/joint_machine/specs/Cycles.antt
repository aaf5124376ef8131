-- What a snapshot and a resolution free, and the components of a dead part. Both the joint machine and the managed
-- side's own replay take them from here. (SGen's bridge header: the collector lists the dead bridge objects and
-- analyses their graph; the client says which stay alive; the rest is freed.)
-- Believed: the clauses of the program's top call rest on all that stands here.
use Rattle.std.specs.Prelude.{◌≡◌, ℕ, ◌+◌, ◌↔◌, List, length, Contains, Some, None, slice_get}
use Rattle.joint_machine.specs.declared.events.Reply.{Reply}
use Rattle.joint_machine.specs.declared.events.Reply.TheVariants as says
use Rattle.joint_machine.specs.Heaps.{IsLive, HasField, freed_span}
use Rattle.joint_machine.specs.Managed.{Managed, OpenCycle, IsBridge, ManagedEdge, IsManagedReached, IsBridgeReached}
use Rattle.joint_machine.specs.Components.{Rises, IsContraction}
use Rattle.joint_machine.specs.Walks.{Reaches}
use Rattle.joint_machine.specs.Told.{Answer, IsKeptAt}

-- a snapshot opens cycle k: it frees exactly the rows that neither a slot nor a bridge row reaches over managed
-- fields; the candidates are the bridge rows that no slot reaches, and the dead part is the rows that no slot
-- reaches and that stay
pub record IsSnapshot (s : Managed) (k : ℕ) (freed candidates dead : List ℕ) : Type 0 where
  pub closed : s.cycle ≡ None
  pub next : k ≡ s.cycles + 1
  pub freed_rise : Rises freed
  pub frees : (m : ℕ) → Contains freed m ↔ (IsLive s.heap m × (IsManagedReached s m → ⊥) × (IsBridgeReached s m → ⊥))
  pub candidates_rise : Rises candidates
  pub picks : (m : ℕ) → Contains candidates m ↔ (IsBridge s m × (IsManagedReached s m → ⊥))
  pub dead_rise : Rises dead
  pub leaves : (m : ℕ) → Contains dead m ↔ (IsLive s.heap m × (IsManagedReached s m → ⊥) × (Contains freed m → ⊥))

-- a snapshot's reply: the number of candidates, and where the freed rows stand in the list of freed ones
abbrev pub snap_reply : Managed → List ℕ → List ℕ → Reply
snap_reply s freed candidates = says.Snapped (length candidates) (freed_span s.heap freed)

-- one row of the dead part has another in a field
abbrev pub DeadEdge : Managed → List ℕ → ℕ → ℕ → Type 0
DeadEdge s dead x y = HasField s.heap x y × Contains dead x × Contains dead y

-- the lists are the components of the dead part, its heavy classes and its cross-references, with walks inside it
abbrev pub IsDeadContraction : Managed → List ℕ → List (List ℕ) → List ℕ → List (ℕ × ℕ) → Type 0
IsDeadContraction s dead comps heavy xrefs = IsContraction
    (λ m. Contains dead m × IsBridge s m) (DeadEdge s dead) comps heavy xrefs

-- a resolution frees exactly the rows of the dead part that no kept candidate reaches over managed fields; a kept
-- candidate reaches itself
pub record IsResolution (s : Managed) (dead : List ℕ) (kept : ℕ → Type 0) (freed : List ℕ) : Type 0 where
  pub rise : Rises freed
  pub frees : (m : ℕ) → Contains freed m ↔ (Contains dead m × (((x : ℕ) × kept x × Reaches (ManagedEdge s) x m) → ⊥))

-- a resolution's reply: where the freed rows stand in the list of freed ones
abbrev pub resolve_reply : Managed → List ℕ → Reply
resolve_reply s freed = says.Freed (freed_span s.heap freed)

-- the candidate is kept by the list of answers
abbrev pub IsAnsweredAlive : List ℕ → List Answer → ℕ → Type 0
IsAnsweredAlive candidates answers m = (i : ℕ) × (slice_get candidates i ≡ Some m) × IsKeptAt answers i

-- cycle k is open, with these candidates and this dead part
abbrev pub IsOpen : Managed → ℕ → OpenCycle → Type 0
IsOpen s k c = (s.cycle ≡ Some c) × (c.number ≡ k)
