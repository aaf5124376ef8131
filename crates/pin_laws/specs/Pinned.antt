-- Laws: a pinned object lives, in every lawful list of entries and every linked history.
use Rattle.std.specs.Prelude.{◌≡◌, ℕ, ◌<◌, ◌⊎◌, List, Contains}
use Rattle.joint_machine.specs.declared.events.Op.TheVariants as op
use Rattle.joint_machine.specs.Heaps.{IsLive}
use Rattle.joint_machine.specs.Histories.{Finished}
use Rattle.joint_machine.specs.LinkedHistories.{IsLinkedBy}
use Rattle.joint_machine.specs.Places.{At}
use Rattle.joint_machine.specs.Told.{Noted, snap_of}
use Rattle.joint_laws.specs.Afterwards.{ResolveFrees, reading_at}
use Rattle.joint_laws.specs.ReadingLaws.{IsLawfulReading}
use Rattle.pin_laws.specs.Pins.{GivesAt, NoTakeBetween, PinsHold}

-- so it is in each lawful list
abbrev pub PinnedObjectsLive : Type 0
PinnedObjectsLive = (noted : List Noted) → IsLawfulReading noted → PinsHold noted

-- no read gives an object that is freed
abbrev pub GivenObjectsLive : Type 0
GivenObjectsLive = (noted : List Noted) → IsLawfulReading noted → (i t m : ℕ)
    → GivesAt noted i t m → IsLive (reading_at noted i).managed.managed.heap m

-- the entry in that place is a snapshot that frees the object
abbrev pub SnapFrees : List Noted → ℕ → ℕ → ℕ → Type 0
SnapFrees noted i k m = At noted i (λ n. (n.entry.made.op ≡ op.Snap record { 0 = k })
    × (freed : List ℕ) × (candidates : List ℕ) × (dead : List ℕ) × (n.told ≡ snap_of freed candidates dead) × Contains freed m)

-- no snapshot and no resolution between frees it
abbrev pub NoneFreesPinned : Type 0
NoneFreesPinned = (noted : List Noted) → IsLawfulReading noted → (i j t m k : ℕ) → GivesAt noted i t m
    → i < j → NoTakeBetween noted t i j → SnapFrees noted j k m ⊎ ResolveFrees noted j k m → ⊥

-- and so it is in each linked history
abbrev pub LinkedPinsHold : Type 0
LinkedPinsHold = (h : Finished) (noted : List Noted) → IsLinkedBy h noted → PinsHold noted
