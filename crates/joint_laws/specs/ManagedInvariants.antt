-- What every state of the managed side keeps, in a lawful list of its entries.
use Rattle.std.specs.Prelude.{◌≡◌, ℕ, ◌↔◌, length, Contains, Some}
use Rattle.joint_machine.specs.Components.{Rises}
use Rattle.joint_machine.specs.Heaps.{IsMade, IsLive, fields_of}
use Rattle.joint_machine.specs.Managed.{Managed, OpenCycle, Holds, IsBridge, IsManagedRoot}
use Rattle.joint_machine.specs.ManagedReplay.{ManagedReplay}
use Rattle.joint_machine.specs.declared.names.TheConstants.{VARS}

-- a dead part is cut off: its rows are unfreed, no slot and no field of another row names one of them, and the
-- candidates are those of its rows that hold a handle, rising
pub record IsCutOff (s : Managed) (c : OpenCycle) : Type 0 where
  pub live : (m : ℕ) → Contains c.dead m → IsLive s.heap m
  pub unnamed : (m : ℕ) → IsManagedRoot s m → Contains c.dead m → ⊥
  pub unheld : (m n : ℕ) → IsLive s.heap m → (Contains c.dead m → ⊥)
      → Contains (fields_of s.heap m) (Some n) → Contains c.dead n → ⊥
  pub candidates : (m : ℕ) → Contains c.candidates m ↔ (Contains c.dead m × IsBridge s m)
  pub latest : c.number ≡ s.cycles
  pub rise : Rises c.candidates

-- nothing that was freed is named: slots, pins and fields of unfreed rows name unfreed rows, and cells name rows that
-- were made; and an open cycle's dead part is cut off
pub record ManagedInvariant (s : Managed) : Type 0 where
  pub places : length s.held ≡ length s.heap.fields
  pub vars : length s.heap.vars ≡ VARS
  pub freed : (m : ℕ) → Contains s.heap.freed m → IsMade s.heap m
  pub roots : (m : ℕ) → IsManagedRoot s m → IsLive s.heap m
  pub fields : (m n : ℕ) → IsLive s.heap m → Contains (fields_of s.heap m) (Some n) → IsLive s.heap n
  pub cells : (m : ℕ) → Contains s.cells (Some m) → IsMade s.heap m
  pub dead : (c : OpenCycle) → s.cycle ≡ Some c → IsCutOff s c

-- beside it, each handle that a row holds was adopted, by that row alone; each pair of the registry has a row that
-- holds a handle, and no peer and no row stands in two pairs
pub record ReplayInvariant (s : ManagedReplay) : Type 0 where
  pub managed : ManagedInvariant s.managed
  pub adopted : (m h : ℕ) → Holds s.managed m h → Contains s.adopted h
  pub alone : (m n h : ℕ) → Holds s.managed m h → Holds s.managed n h → m ≡ n
  pub pairs : (p m : ℕ) → Contains s.registry (p, m) → IsBridge s.managed m
  pub one_row : (p m n : ℕ) → Contains s.registry (p, m) → Contains s.registry (p, n) → m ≡ n
  pub one_peer : (p q m : ℕ) → Contains s.registry (p, m) → Contains s.registry (q, m) → p ≡ q
