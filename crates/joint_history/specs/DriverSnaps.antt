-- The driver's snapshot under the managed lock: it opens the next cycle, and the driver has seen its dead part.
use Rattle.std.specs.Prelude.{◌≡◌, ℕ, ◌+◌, ◌<◌, true, List, length, Option, Some, None}
use Rattle.joint_machine.specs.declared.names.MNum.{MNum}
use Rattle.joint_machine.specs.declared.events.Op.TheVariants as op
use Rattle.joint_machine.specs.declared.events.Reply.TheVariants as says
use Rattle.joint_machine.specs.Control.{idle, snapped}
use Rattle.joint_machine.specs.Draws.{numbered}
use Rattle.joint_machine.specs.Managed.{Managed}
use Rattle.joint_machine.specs.ManagedReplay.{ManagedReplay}
use Rattle.joint_machine.specs.Sides.{Side, managed_rules}
use Rattle.joint_machine.specs.Told.{kept_pins, snap_of}
use Rattle.joint_laws.specs.ManagedInvariants.{ManagedInvariant}
use Rattle.known_laws.specs.Known.{PinsStand}
use Rattle.managed_heap.specs.declared.opening.Opened.{Opened}
use Rattle.managed_heap.specs.Graphs.{IsDeadGraph}
use Rattle.managed_heap.specs.Openings.{snap_made}
use Rattle.managed_heap.specs.Pinned.{pins_given}
use Rattle.order_table.specs.declared.views.View.{View}
use Rattle.order_table.specs.Owed.{all_scanned, pin_row}
use Rattle.order_table.specs.Rows.{at}
use Rattle.order_table.specs.Rule.{IsHeld}
use Rattle.order_table.specs.Views.{OrderId, Shown, known}
use Rattle.seat_calls.specs.Gating.{ClosesFor}
use Rattle.view_laws.specs.Knowing.{pins_of}
use Rattle.joint_history.specs.Driven.{DriverMakes, DriverStands, driver_entry}
use Rattle.joint_history.specs.Locked.{Drew}

-- the gate was closed for the cycle, and these are the pins by the words that were scanned, each of which holds what a
-- reader was given
pub record ClosesGate (old new : Shown) (cycle : ℕ) (pins : List (Option MNum)) : Type 0 where
  pub same : new.order ≡ old.order
  pub closes : ClosesFor old.view new.view cycle
  pub all : all_scanned 8 new.view.scanned ≡ true
  pub given : pins_of (pin_row new.view.scanned) ≡ pins_given pins
  pub held : (r m : ℕ) → 0 < r → r < 9 → at 0 (pin_row new.view.scanned) r ≡ m + 1 → IsHeld (known old.view 0) r m

-- the snapshot by the pins of the readers: one entry, and what it answers
pub record DrawsSnapshot (order : OrderId) (seat seat' : Shown)
    (side side' : Side ManagedReplay) (index : ℕ) (out : Opened) : Type 0 where
  pub freed : List ℕ
  pub candidates : List ℕ
  pub dead : List ℕ
  pub number : ℕ
  pub same_number : number ≡ out.number
  pub pins : List (Option ℕ)
  pub stand : PinsStand side.state.managed pins
  pub drew : Drew managed_rules 0 order seat seat' side side'
      (numbered number (snap_made side.state.managed index freed candidates))
      (kept_pins pins (snap_of freed candidates dead))
  pub cycle : out.cycle.0 ≡ side.state.managed.cycles + 1
  pub counted : out.candidates ≡ length candidates
  pub span : out.freed ≡ record { first = length side.state.managed.heap.freed; count = length freed }
  pub graph : IsDeadGraph side'.state.managed dead out.graph

-- the driver opened the next cycle, whose candidates and freed objects the entry counts: it stands at its snapshot, and
-- the graph is that of the dead part in the managed objects that it has seen then, which keep what every state keeps
pub record OpensCycle (old new : View) (index : ℕ) (out : Opened) (m : Managed) : Type 0 where
  pub freed : List ℕ
  pub candidates : List ℕ
  pub dead : List ℕ
  pub counted : out.candidates ≡ length candidates
  pub count : out.freed.count ≡ length freed
  pub pins : List (Option ℕ)
  pub makes : DriverMakes old new idle m
      (driver_entry out.number index (op.Snap out.cycle) (says.Snapped out.candidates out.freed) None)
      (kept_pins pins (snap_of freed candidates dead))
  pub seen : Managed
  pub kept : ManagedInvariant seen
  pub opened : seen.cycle ≡ Some record { number = out.cycle.0; candidates = candidates; dead = dead }
  pub graph : IsDeadGraph seen dead out.graph
  pub stands : DriverStands new index (snapped record { cycle = out.cycle.0; snap = out.number }) seen

-- so it is from wherever the driver was idle
abbrev pub MakesSnapshot : View → View → ℕ → Opened → Type 0
MakesSnapshot old new index out = (m : Managed) → DriverStands old index idle m → OpensCycle old new index out m
