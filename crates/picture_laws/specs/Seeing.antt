-- What is seen of a history whose entries are in order: a view after each of them, and it is that of both sides'
-- states.
use Rattle.std.specs.Prelude.{◌≡◌, ℕ, ◌+◌, ◌<◌, List, length, take}
use Rattle.joint_machine.specs.Histories.{Finished, NumberedFrom}
use Rattle.joint_machine.specs.Joined.{graph_at}
use Rattle.joint_machine.specs.Told.{Noted}
use Rattle.check_laws.specs.declared.findings.Finding.{Finding}
use Rattle.check_laws.specs.declared.findings.Finding.TheVariants as finding
use Rattle.check_laws.specs.Behind.{state_of}
use Rattle.check_laws.specs.Findings.{IsFinding, IsInOrderUpTo}
use Rattle.heap_views.specs.Views.{IsStuck, Seen, View, opening_view}

-- by the finding all entries up to that one are in order
abbrev pub IsInOrderTo : ℕ → Finding → Type 0
IsInOrderTo n (finding.Illegal i why) = n < i
IsInOrderTo n _ = Unit {0}

-- a history has that entry, and by its finding all entries up to it are in order
pub record HasInOrder (h : Finished) (n : ℕ) : Type 0 where
  pub numbers : NumberedFrom 0 h.entries
  pub finding : Finding
  pub found : IsFinding h finding
  pub order : IsInOrderTo n finding
  pub within : n < length h.entries

-- a view has the joint graph of both sides' states after the entries up to that one, which are in order
pub record IsOfBothSides (h : Finished) (n : ℕ) (v : View) : Type 0 where
  pub past : List Noted
  pub order : IsInOrderUpTo h (n + 1) past
  pub graph : v.joint.graph ≡ graph_at (state_of past).managed.managed (state_of past).peer

-- a view is seen after entries in order
abbrev pub OrderIsSeen : Type 0
OrderIsSeen = (h : Finished) (n : ℕ) → HasInOrder h n → (v : View) × Seen h opening_view (take (n + 1) h.entries) v

-- and each of them is gone on by, whatever is seen before it
abbrev pub OrderIsNeverStuck : Type 0
OrderIsNeverStuck = (h : Finished) (n : ℕ) → HasInOrder h n → IsStuck h n → ⊥

-- each view that is seen after them is of both sides' states
abbrev pub SeenIsOfBothSides : Type 0
SeenIsOfBothSides = (h : Finished) (n : ℕ) (v : View) → HasInOrder h n
    → Seen h opening_view (take (n + 1) h.entries) v → IsOfBothSides h n v
