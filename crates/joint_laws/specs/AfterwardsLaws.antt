-- What holds once something was freed or cleared: reads of it answer gone, and no mirrored reference stands.
use Rattle.std.specs.Prelude.{◌≡◌, ℕ, ◌<◌, ◌⊎◌, true, List, [], Some, slice_get}
use Rattle.joint_machine.specs.declared.events.Op.TheVariants as op
use Rattle.joint_machine.specs.declared.events.Reply.TheVariants as says
use Rattle.joint_machine.specs.Linked.{opening_linkage}
use Rattle.joint_machine.specs.Replaying.{AllMayCome}
use Rattle.joint_machine.specs.Readers.{HasEventAt, is_aside}
use Rattle.joint_machine.specs.Told.{Noted}
use Rattle.joint_laws.specs.ReadingLaws.{IsLawfulReading}
use Rattle.joint_laws.specs.States.{state_at}
use Rattle.joint_laws.specs.Afterwards.{IsGoneAfter, NoMirrorBetween, ReadsObject, ReadsPeer, ResolveFrees, SweepFrees}
use Rattle.joint_laws.specs.Afterwards.{reading_at}

-- from `resolve k` on, a read of a cell whose target it freed answers gone, unless the caller's pin is filled or a
-- later cycle is open
abbrev pub ReadsAreGone : Type 0
ReadsAreGone = (noted : List Noted) → AllMayCome opening_linkage noted
    → (i j k m : ℕ) (n : Noted) → ResolveFrees noted i k m → i < j → slice_get noted j ≡ Some n
    → ReadsObject (state_at noted j).managed.managed n m
    → IsGoneAfter (state_at noted j).managed.managed n.entry.made.caller k n.entry.made.reply

-- from the sweep of a peer on, a `wread` of it answers gone
abbrev pub WeakReadsAreGone : Type 0
WeakReadsAreGone = (noted : List Noted) → AllMayCome opening_linkage noted
    → (i j p : ℕ) (n : Noted) → SweepFrees noted i p → i < j → slice_get noted j ≡ Some n
    → ReadsPeer (state_at noted j).peer n p → n.entry.made.reply ≡ says.Gone

-- after `clear k` no mirrored reference stands until the next mirror
abbrev pub NoneIsMirrored : Type 0
NoneIsMirrored = (noted : List Noted) → AllMayCome opening_linkage noted → (i j k : ℕ)
    → HasEventAt noted i (op.Clear record { 0 = k }) → i < j
    → NoMirrorBetween noted i j → (state_at noted j).peer.refs ≡ []

-- a read answers gone unless it is set aside, the caller's pin is filled, or a later cycle is open
abbrev pub LockFreeReadsAreGone : Type 0
LockFreeReadsAreGone = (noted : List Noted) → IsLawfulReading noted
    → (i j k m : ℕ) (n : Noted) → ResolveFrees noted i k m → i < j → slice_get noted j ≡ Some n
    → ReadsObject (reading_at noted j).managed.managed n m → (is_aside n ≡ true)
    ⊎ IsGoneAfter (reading_at noted j).managed.managed n.entry.made.caller k n.entry.made.reply

abbrev pub WeakReadsAreGoneReading : Type 0
WeakReadsAreGoneReading = (noted : List Noted) → IsLawfulReading noted
    → (i j p : ℕ) (n : Noted) → SweepFrees noted i p → i < j → slice_get noted j ≡ Some n
    → ReadsPeer (reading_at noted j).peer n p → n.entry.made.reply ≡ says.Gone

abbrev pub NoneIsMirroredReading : Type 0
NoneIsMirroredReading = (noted : List Noted) → IsLawfulReading noted → (i j k : ℕ)
    → HasEventAt noted i (op.Clear record { 0 = k }) → i < j
    → NoMirrorBetween noted i j → (reading_at noted j).peer.refs ≡ []
