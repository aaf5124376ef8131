-- The steps of the joint machine in each lawful list of entries are a run of it, the only one, sound and complete. In
-- such a list reads are events of the managed side; `ReadingLaws` has linked histories.
use Rattle.std.specs.Prelude.{◌≡◌, ℕ, ◌<◌, List, Contains}
use Rattle.joint_machine.specs.Headline.{SnapsAt, SweepsAt, BeginsAt, IsUnreachedBefore, WasUnreached, IsSoundRun}
use Rattle.joint_machine.specs.Headline.{IsCompleteRun}
use Rattle.joint_machine.specs.Joint.{object, peer}
use Rattle.joint_machine.specs.Linked.{opening_linkage}
use Rattle.joint_machine.specs.Replaying.{AllMayCome, machine_entries}
use Rattle.joint_machine.specs.Run.{Moment, IsRun}
use Rattle.joint_machine.specs.Told.{Noted}

-- some moments are a run over the steps
abbrev pub HasRun : List Noted → Type 0
HasRun noted = (run : List Moment) × IsRun (machine_entries noted) run

-- those of a lawful list of entries are a run
abbrev pub ProjectionIsRun : Type 0
ProjectionIsRun = (noted : List Noted) → AllMayCome opening_linkage noted → HasRun noted

-- a list of entries has one run at most
abbrev pub RunIsOne : Type 0
RunIsOne = (entries : List Noted) (run other : List Moment) → IsRun entries run → IsRun entries other → run ≡ other

-- in every run: no row that a snapshot frees was reached just before it
abbrev pub SnapshotsAreSound : Type 0
SnapshotsAreSound = (entries : List Noted) (run : List Moment) → IsRun entries run
    → (i k m : ℕ) (freed candidates : List ℕ) → SnapsAt run i k freed candidates
    → Contains freed m → IsUnreachedBefore run i (object m)

-- in every run: each peer that a sweep frees was unreached at the begin of the marking and just before the sweep
abbrev pub SweepsAreSound : Type 0
SweepsAreSound = (entries : List Noted) (run : List Moment) → IsRun entries run
    → (i j p : ℕ) (freed : List ℕ) → SweepsAt run i j freed → Contains freed p
    → (begin : ℕ) × (begin < i) × BeginsAt run begin j × WasUnreached run begin i (peer p)

-- a sound one
abbrev pub HasSoundRun : List Noted → Type 0
HasSoundRun noted = (run : List Moment) × IsRun (machine_entries noted) run × IsSoundRun run

abbrev pub ProjectionIsSound : Type 0
ProjectionIsSound = (noted : List Noted) → AllMayCome opening_linkage noted → HasSoundRun noted

-- that is sound and complete
abbrev pub HasCompleteRun : List Noted → Type 0
HasCompleteRun noted = (run : List Moment) × IsRun (machine_entries noted) run × IsSoundRun run × IsCompleteRun run

abbrev pub ProjectionIsComplete : Type 0
ProjectionIsComplete = (noted : List Noted) → AllMayCome opening_linkage noted → HasCompleteRun noted

-- each run over the steps of a lawful list of entries is sound
abbrev pub EveryRunIsSound : Type 0
EveryRunIsSound = (noted : List Noted) (run : List Moment)
    → AllMayCome opening_linkage noted → IsRun (machine_entries noted) run → IsSoundRun run

-- and complete
abbrev pub EveryRunIsComplete : Type 0
EveryRunIsComplete = (noted : List Noted) (run : List Moment) → AllMayCome opening_linkage noted
    → IsRun (machine_entries noted) run → IsSoundRun run × IsCompleteRun run
