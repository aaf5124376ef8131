-- What is told beside an entry: the data that decides it and that its line in the report doesn't have in full.
-- Believed: the clauses of the program's top call rest on all that stands here.
use Rattle.std.specs.Prelude.{◌≡◌, ℕ, List, [], ◌∷◌, Some, slice_get, Option}
use Rattle.joint_machine.specs.declared.names.Phase.{Phase}
use Rattle.joint_machine.specs.declared.events.Entry.{Entry}
use Rattle.joint_machine.specs.Components.{End}

-- what a candidate's restore answered: alive, with the new handle that it gave, or cleared
pub data Answer : Type 0 where
  said_alive : (handle : ℕ) → Answer
  said_cleared : Answer

-- by the answer in that place its candidate is kept
abbrev pub IsKeptAt : List Answer → ℕ → Type 0
IsKeptAt answers i = (h : ℕ) × (slice_get answers i ≡ Some (said_alive h))

-- the handles that the answers gave
abbrev pub handles_given : List Answer → List ℕ
handles_given [] = []
handles_given (said_alive h ∷ answers) = h ∷ handles_given answers
handles_given (said_cleared ∷ answers) = handles_given answers

-- the witness beside an entry: the data that decides it and that its line in the report doesn't have in full. A snap
-- has the rows that it frees, its candidates and its dead part, all rising; a contract has the components, the heavy
-- classes by their least members, and the cross-references; a mirror has the references that it adds; a slice has the
-- peers that the marking reaches so far; a sweep has the peers that it frees; a resolve has the candidates' answers and
-- the rows that it frees; a refusal has the driver's phase. In the managed side's own list a snap and a `take` have
-- besides the pins that were given to them.
pub data Told : Type 0 where
  nothing : Told
  snap_of : (freed candidates dead : List ℕ) → Told
  contraction_of : (comps : List (List ℕ)) (heavy : List ℕ) (xrefs : List (ℕ × ℕ)) → Told
  references_of : (refs : List (End × End)) → Told
  slice_of : (closure : List ℕ) → Told
  sweep_of : (freed : List ℕ) → Told
  resolution_of : (answers : List Answer) (freed : List ℕ) → Told
  phase_of : (phase : Phase) → Told
  kept_pins : (pins : List (Option ℕ)) (told : Told) → Told

-- an entry with its witness, which is told beside it
pub record Noted : Type 0 where
  pub entry : Entry
  pub told : Told
