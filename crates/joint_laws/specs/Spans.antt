-- What the spans in replies name: each freed list is a stretch of the history's freed list, and the notices that an
-- entry takes are a stretch of its notices.
-- Believed: the clauses of the program's top call rest on all that stands here.
use Rattle.std.specs.Prelude.{◌≡◌, ℕ, List, length}
use Rattle.joint_machine.specs.declared.names.Span.{Span}
use Rattle.joint_machine.specs.declared.events.Reply.{Reply}
use Rattle.joint_machine.specs.Components.{Rises}
use Rattle.joint_machine.specs.Histories.{stretch, IsWithin}
use Rattle.joint_machine.specs.Managed.{Managed}
use Rattle.joint_machine.specs.Told.{Told, snap_of, sweep_of, resolution_of, Answer}
use Rattle.joint_machine.specs.declared.events.Reply.TheVariants as says

-- the numbers are the stretch of the list that the span names, which lies within it
pub record IsStretch (list : List ℕ) (s : Span) (numbers : List ℕ) : Type 0 where
  pub within : IsWithin s (length list)
  pub named : numbers ≡ stretch list s

-- a snap's freed rows, which rise, and as many candidates as the reply says
pub record TellsSnap (ms : List ℕ) (count : ℕ) (s : Span) (told : Told) : Type 0 where
  pub freed : List ℕ
  pub candidates : List ℕ
  pub dead : List ℕ
  pub is : told ≡ snap_of freed candidates dead
  pub counted : length candidates ≡ count
  pub rises : Rises freed
  pub stands : IsStretch ms s freed

-- a sweep's freed peers
pub record TellsSweep (ps : List ℕ) (s : Span) (told : Told) : Type 0 where
  pub freed : List ℕ
  pub is : told ≡ sweep_of freed
  pub rises : Rises freed
  pub stands : IsStretch ps s freed

-- a resolution's freed rows
pub record TellsResolution (ms : List ℕ) (s : Span) (told : Told) : Type 0 where
  pub alive : List Answer
  pub freed : List ℕ
  pub is : told ≡ resolution_of alive freed
  pub rises : Rises freed
  pub stands : IsStretch ms s freed

-- nothing freed is told
abbrev pub TellsNoneFreed : Told → Type 0
TellsNoneFreed (snap_of freed candidates dead) = ⊥
TellsNoneFreed (sweep_of freed) = ⊥
TellsNoneFreed (resolution_of alive freed) = ⊥
TellsNoneFreed _ = Unit {0}

-- what is told of freeing is what the reply names in the lists of freed rows and freed peers
abbrev pub TellsNamed : List ℕ → List ℕ → Reply → Told → Type 0
TellsNamed ms ps (says.Snapped count s) told = TellsSnap ms count s told
TellsNamed ms ps (says.Swept j s) told = TellsSweep ps s told
TellsNamed ms ps (says.Freed s) told = TellsResolution ms s told
TellsNamed ms ps _ told = TellsNoneFreed told

-- the notices that an entry takes of those that wait at a state are those that its span names in the history's list: it
-- starts behind those taken before, and ends within the list of those queued by then
pub record TakesNamed (list : List ℕ) (before : Managed) (s : Span) : Type 0 where
  pub first : s.first ≡ before.taken
  pub queued : IsWithin s (length before.notices)
  pub stands : IsStretch list s (stretch before.notices s)
