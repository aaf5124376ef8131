-- What a resolution does to the rows of a side.
use Rattle.std.specs.Prelude.{◌≡◌, ℕ, ◌<◌, ◌↔◌, Bool, List, Contains, length, count_by, Option, Some, None, is_some}
use Rattle.std.specs.Prelude.{slice_get}
use Rattle.joint_machine.specs.declared.names.HNum.{HNum}
use Rattle.joint_machine.specs.Cycles.{IsResolution, IsAnsweredAlive}
use Rattle.joint_machine.specs.Heaps.{numbered_at}
use Rattle.joint_model.specs.Listed.{answers_of}
use Rattle.joint_machine.specs.Managed.{IsBridge, Managed, ManagedEdge, OpenCycle, resolved}
use Rattle.joint_machine.specs.ManagedReplay.{AreNew, ManagedReplay, without_twins}
use Rattle.joint_machine.specs.Told.{Answer, handles_given}
use Rattle.joint_machine.specs.Walks.{Reaches}

-- the value at that place has a handle: its restore answered alive
abbrev pub IsAliveAt : List (Option HNum) → ℕ → Type 0
IsAliveAt alive i = (h : HNum) × (slice_get alive i ≡ Some (Some h))

-- the answer at one of the places below n is alive, for this candidate
abbrev pub IsAliveBelow : ℕ → List ℕ → List (Option HNum) → ℕ → Type 0
IsAliveBelow n candidates alive m = (i : ℕ) × (i < n) × (slice_get candidates i ≡ Some m) × IsAliveAt alive i

-- whether there is a handle at the row's place of a list of held handles
abbrev pub has_handle : List (Option ℕ) → ℕ → Bool
has_handle held m = is_some (elim (numbered_at held m) [ None ↦ None | Some h ↦ h ])

-- whether there is a peer at the row's place of a list of peers
abbrev pub has_peer : List (Option ℕ) → ℕ → Bool
has_peer peers m = is_some (elim (numbered_at peers m) [ None ↦ None | Some p ↦ p ])

-- beside these rows stands no peer any more, and beside each other row what stood there
abbrev pub AreCleared : List (Option ℕ) → List (Option ℕ) → List ℕ → Type 0
AreCleared old new rows = (p m : ℕ) → (numbered_at new m ≡ Some (Some p))
    ↔ ((numbered_at old m ≡ Some (Some p)) × (Contains rows m → ⊥))

-- no candidate that was answered alive leads to one that wasn't: the mirrored references see to it
abbrev pub IsAliveClosed : Managed → List ℕ → List Answer → Type 0
IsAliveClosed s candidates alive = (x m : ℕ) → IsAnsweredAlive candidates alive x
    → Contains candidates m → Reaches (ManagedEdge s) x m → IsAnsweredAlive candidates alive m

-- of the rows that are freed those that hold a handle are exactly the candidates that weren't answered alive
abbrev pub FreesUnanswered : Managed → List ℕ → List Answer → List ℕ → Type 0
FreesUnanswered s candidates alive freed = (m : ℕ) → (Contains freed m × IsBridge s m)
    ↔ (Contains candidates m × (IsAnsweredAlive candidates alive m → ⊥))

-- a cycle is open, and there is one answer for each candidate
pub record HasAnswers (s : ManagedReplay) (alive : List (Option HNum)) : Type 0 where
  pub cycle : OpenCycle
  pub opened : s.managed.cycle ≡ Some cycle
  pub one_each : length alive ≡ length cycle.candidates

-- so it is, and the handles of the answers are all different and were taken by no row
pub record MayClose (s : ManagedReplay) (alive : List (Option HNum)) : Type 0 where
  pub answers : HasAnswers s alive
  pub new : AreNew s.adopted (handles_given (answers_of alive))

-- the resolution of the open cycle, the state after it, and what the caller is told
pub record TakesResolution (s next : ManagedReplay) (alive : List (Option HNum))
    (freed : List ℕ) (number first kept : ℕ) : Type 0 where
  pub cycle : OpenCycle
  pub opened : s.managed.cycle ≡ Some cycle
  pub resolution : IsResolution s.managed cycle.dead (IsAnsweredAlive cycle.candidates (answers_of alive)) freed
  pub state : next ≡ record s {
    managed = resolved s.managed (answers_of alive) freed;
    registry = without_twins s.registry freed;
  }
  pub numbered : number ≡ cycle.number
  pub before : first ≡ length s.managed.heap.freed
  pub counted : kept ≡ count_by is_some alive
