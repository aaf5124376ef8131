-- What contracts see of a snapshot: the driver's entry, and what the call promises.
use Rattle.std.specs.Prelude.{◌≡◌, ℕ, ◌+◌, ◌++◌, ◌∷◌, [], List, length, Option, None}
use Rattle.joint_machine.specs.declared.names.MNum.{MNum}
use Rattle.joint_machine.specs.declared.names.Thread.TheVariants.{C}
use Rattle.joint_machine.specs.declared.events.Made.{Made}
use Rattle.joint_machine.specs.declared.events.Op.{Op}
use Rattle.joint_machine.specs.declared.events.Op.TheVariants as op
use Rattle.joint_machine.specs.Cycles.{snap_reply}
use Rattle.joint_machine.specs.Draws.{numbered, Drawing}
use Rattle.joint_machine.specs.Managed.{Managed, OpenCycle}
use Rattle.joint_machine.specs.ManagedReplay.{ManagedReplay}
use Rattle.joint_machine.specs.Sides.{Side, AddsLawful, managed_rules, step_made, MayDraw}
use Rattle.joint_machine.specs.Told.{kept_pins, snap_of}
use Rattle.managed_heap.specs.declared.opening.Opened.{Opened}
use Rattle.managed_heap.specs.declared.opening.SnapFault.{SnapFault}
use Rattle.managed_heap.specs.declared.opening.SnapFault.TheVariants as fault
use Rattle.managed_heap.specs.Pinned.{pins_given}
use Rattle.managed_heap.specs.Sides.{ManagedModel, as_side}
use Rattle.managed_heap.specs.Graphs.{IsDeadGraph}

-- the driver's event and its entry
abbrev pub snap_op : Managed → Op
snap_op s = op.Snap record { 0 = s.cycles + 1 }

-- the driver may draw for the snap that comes next
abbrev pub MayDrawSnap : {D : Type 0} → Drawing D → D → ManagedModel → Type 0
MayDrawSnap d draw m = MayDraw managed_rules d draw (as_side m) C (snap_op m.state.managed)

abbrev pub snap_made : Managed → ℕ → List ℕ → List ℕ → Made
snap_made s index freed candidates = step_made C index (snap_op s) (snap_reply s freed candidates) None

-- a snapshot opens the next cycle and makes one entry, with which the pins are told that were given, and whose number
-- it answers and what the entry replies; the graph is the dead part's
pub record OpensBySnap {D : Type 0} (d : Drawing D) (before after : D)
    (old new : Side ManagedReplay) (index : ℕ) (pins : List (Option ℕ)) (out : Opened) : Type 0 where
  pub freed : List ℕ
  pub candidates : List ℕ
  pub dead : List ℕ
  pub adds : AddsLawful managed_rules d before after old new
      (snap_made old.state.managed index freed candidates) (kept_pins pins (snap_of freed candidates dead))
  pub cycle : out.cycle.0 ≡ old.state.managed.cycles + 1
  pub counted : out.candidates ≡ length candidates
  pub span : out.freed ≡ record { first = length old.state.managed.heap.freed; count = length freed }
  pub number : new.entries ≡ old.entries ++ numbered out.number
      (snap_made old.state.managed index freed candidates) ∷ []
  pub graph : IsDeadGraph new.state.managed dead out.graph

-- the gate was closed for the next cycle, which gave the pins, and by these the snapshot was taken
pub record OpensByClosing {D : Type 0} (closed : D → ℕ → List (Option MNum) → D → Type 0) (d : Drawing D)
    (before after : D) (old new : Side ManagedReplay) (index : ℕ) (out : Opened) : Type 0 where
  pub gate : D
  pub pins : List (Option MNum)
  pub closes : closed before (old.state.managed.cycles + 1) pins gate
  pub opens : OpensBySnap d gate after old new index (pins_given pins) out

-- by why no cycle was opened: where none is open, for want of memory, or since the gate wasn't closed; and else since
-- one is
abbrev pub BySnapFault : SnapFault → Option OpenCycle → Type 0 → Type 0 → Type 0
BySnapFault fault.OutOfMemory cycle same refused = (cycle ≡ None) × same
BySnapFault fault.NotClosed cycle same refused = (cycle ≡ None) × refused
BySnapFault (fault.CycleOpen c) cycle same refused = (cycle ≡ None → ⊥) × same
