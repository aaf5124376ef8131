-- The driver's calls on the handles of its mirrored cycle, under the peer lock: each candidate's handle is weakened,
-- one after another; once the cycle's own marking is over each is restored, in the same order; and then the mirrored
-- references are cleared.
use Rattle.std.specs.Prelude.{◌≡◌, ℕ, ◌+◌, Bool, true, false, List, [], ◌∷◌, ◌++◌, length, Some, None}
use Rattle.joint_machine.specs.declared.names.Cycle.{Cycle}
use Rattle.joint_machine.specs.declared.names.HNum.{HNum}
use Rattle.joint_machine.specs.declared.events.Op.TheVariants as op
use Rattle.joint_machine.specs.declared.events.Reply.TheVariants as says
use Rattle.joint_machine.specs.Control.{OpenSnap, weakening, restoring, restored, answer_in, IsCandidateHandle}
use Rattle.joint_machine.specs.Managed.{Managed, candidates_of}
use Rattle.joint_machine.specs.Told.{Answer, nothing}
use Rattle.global_handles.specs.declared.Back.{Back}
use Rattle.peer_heap.specs.Cycles.{reply_of}
use Rattle.order_table.specs.declared.views.View.{View}
use Rattle.joint_history.specs.Driven.{DriverMakes, DriverStands, driver_entry}

-- the handles of the first candidates of the driver's cycle are weakened, and this is the next one's; the cycle's
-- snapshot is the entry with that number
pub record MayWeakenHandle (v : View) (index snap h : ℕ) : Type 0 where
  pub opened : OpenSnap
  pub count : ℕ
  pub weakened : Bool
  pub seen : Managed
  pub stands : DriverStands v index (weakening opened count weakened false) seen
  pub next : IsCandidateHandle seen count h
  pub same : opened.snap ≡ snap

-- the driver weakened that handle
abbrev pub MakesWeaken : View → View → ℕ → ℕ → HNum → ℕ → Type 0
MakesWeaken old new index snap h n = (o : OpenSnap) (count : ℕ) (weakened : Bool) (m : Managed)
    → DriverStands old index (weakening o count weakened false) m → IsCandidateHandle m count h.0 → o.snap ≡ snap
    → DriverMakes old new (weakening o count weakened false) m
    (driver_entry n index (op.Weaken h) says.Ok (Some snap)) nothing
    × DriverStands new index (weakening o (count + 1) true false) m

-- the cycle's own marking is over and the handles of the first candidates are restored, with these answers; and this is
-- the next one's
pub record MayRestoreHandle (v : View) (index h : ℕ) : Type 0 where
  pub opened : OpenSnap
  pub answers : List Answer
  pub seen : Managed
  pub stands : DriverStands v index (restoring opened answers) seen
  pub next : IsCandidateHandle seen (length answers) h

-- the driver restored that handle, which is alive or cleared
abbrev pub MakesRestore : View → View → ℕ → HNum → Back → ℕ → Type 0
MakesRestore old new index h back n = (o : OpenSnap) (answers : List Answer) (m : Managed)
    → DriverStands old index (restoring o answers) m → IsCandidateHandle m (length answers) h.0
    → DriverMakes old new (restoring o answers) m (driver_entry n index (op.Restore h) (reply_of back) None) nothing
    × DriverStands new index (restoring o (answers ++ answer_in (reply_of back) ∷ [])) m

-- all handles of the driver's cycle, which is this one, are restored
pub record MayClearCycle (v : View) (index k : ℕ) : Type 0 where
  pub opened : OpenSnap
  pub answers : List Answer
  pub seen : Managed
  pub stands : DriverStands v index (restoring opened answers) seen
  pub all : length answers ≡ length (candidates_of seen)
  pub same : opened.cycle ≡ k

-- the driver cleared the references of its cycle: no reference is mirrored any more
abbrev pub MakesClear : View → View → ℕ → Cycle → ℕ → Type 0
MakesClear old new index k n = (o : OpenSnap) (answers : List Answer) (m : Managed)
    → DriverStands old index (restoring o answers) m → length answers ≡ length (candidates_of m) → o.cycle ≡ k.0
    → DriverMakes old new (restoring o answers) m (driver_entry n index (op.Clear k) says.Ok None) nothing
    × DriverStands new index (restored o answers n) m
