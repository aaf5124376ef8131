-- Which references stand: those of the last mirror that no clear follows.
use Rattle.std.specs.Prelude.{◌≡◌, ◌⊎◌, ℕ, ◌<◌, ◌≤◌, Bool, true, false, List, [], Some, length, slice_get, take}
use Rattle.joint_machine.specs.declared.events.Op.{Op}
use Rattle.joint_machine.specs.declared.events.Op.TheVariants as op
use Rattle.joint_machine.specs.declared.events.Entry.{Entry}
use Rattle.joint_machine.specs.Components.{End}
use Rattle.joint_machine.specs.Histories.{Finished}
use Rattle.joint_machine.specs.Joint.{Graph}
use Rattle.heap_views.specs.Mirrored.{AreMirrored}
use Rattle.heap_views.specs.Views.{Seen, View, opening_view}

-- whether an event is a mirror
abbrev pub is_mirror : Op → Bool
is_mirror (op.Mirror k) = true
is_mirror _ = false

-- whether it is a clear
abbrev pub is_clear : Op → Bool
is_clear (op.Clear k) = true
is_clear _ = false

-- entry i of the history is a mirror
abbrev pub IsMirrorAt : Finished → ℕ → Type 0
IsMirrorAt h i = (e : Entry) × (slice_get h.entries i ≡ Some e) × (is_mirror e.made.op ≡ true)

-- entry i is a clear
abbrev pub IsClearAt : Finished → ℕ → Type 0
IsClearAt h i = (e : Entry) × (slice_get h.entries i ≡ Some e) × (is_clear e.made.op ≡ true)

-- the references are those that the last mirror among the first n entries adds, behind which there is no clear
pub record StandSince (h : Finished) (n : ℕ) (refs : List (End × End)) : Type 0 where
  pub place : ℕ
  pub within : place < n
  pub mirror : IsMirrorAt h place
  pub last : (i : ℕ) → place < i → i < n → IsMirrorAt h i ⊎ IsClearAt h i → ⊥
  pub before : View
  pub seen : Seen h opening_view (take place h.entries) before
  pub added : AreMirrored before.joint.graph refs

-- there are none, and behind each mirror among the first n entries there is a clear
pub record NoneStand (h : Finished) (n : ℕ) (refs : List (End × End)) : Type 0 where
  pub none : refs ≡ []
  pub cleared : (i : ℕ) → i < n → IsMirrorAt h i → (k : ℕ) × (i < k) × (k < n) × IsClearAt h k

-- the references that stand after the first n entries
abbrev pub ReferencesStand : Finished → ℕ → List (End × End) → Type 0
ReferencesStand h n refs = StandSince h n refs ⊎ NoneStand h n refs

-- so it is of what is seen after them
abbrev pub SeenReferencesStand : Type 0
SeenReferencesStand = (h : Finished) (n : ℕ) (v : View) → n ≤ length h.entries
    → Seen h opening_view (take n h.entries) v → ReferencesStand h n v.refs

-- what a mirror adds is one list
abbrev pub MirroredAreOne : Type 0
MirroredAreOne = (g : Graph) (refs others : List (End × End))
    → AreMirrored g refs → AreMirrored g others → refs ≡ others
