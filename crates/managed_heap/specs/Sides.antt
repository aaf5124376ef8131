-- What contracts see of a managed side.
use Rattle.std.specs.Prelude.{◌≡◌, ℕ, ◌≤◌, Bool, true, false, List, length, Option, Some, None, Result, Ok, Err}
use Rattle.joint_machine.specs.declared.events.Entry.{Entry}
use Rattle.joint_machine.specs.declared.events.Made.{Made}
use Rattle.joint_machine.specs.Draws.{Drawing}
use Rattle.joint_machine.specs.Managed.{OpenCycle}
use Rattle.joint_machine.specs.ManagedReplay.{ManagedReplay}
use Rattle.joint_machine.specs.Told.{Told}
use Rattle.joint_machine.specs.Sides.{Side, AddsLawful, managed_rules}
use Rattle.joint_laws.specs.ManagedInvariants.{ReplayInvariant}
use Rattle.managed_heap.specs.declared.opening.Opened.{Opened}
use Rattle.managed_heap.specs.declared.opening.SnapFault.{SnapFault}
use Rattle.managed_heap.specs.declared.opening.SnapFault.TheVariants as fault
use Rattle.managed_heap.specs.declared.side.TwinAnswer.{TwinAnswer}
use Rattle.managed_heap.specs.declared.side.TwinAnswer.TheVariants as twins
use Rattle.managed_heap.specs.Rows.{with_adopted}
use Rattle.managed_heap.specs.Takings.{taken_in}

-- the state that the rows show, with the handles that were given to them
abbrev pub state_of : List (List ℕ) → ManagedReplay → ManagedReplay
state_of takings rows = with_adopted rows (taken_in takings)

-- what is seen of the managed side: for how many managed threads it is, its entries, the state of their replay, and
-- beside these whether it is ready: all memory that a snapshot needs is taken
pub record ManagedModel : Type 0 where
  pub threads : ℕ
  pub entries : List Entry
  pub state : ManagedReplay
  pub ready : Bool

-- what both sides show
abbrev pub as_side : ManagedModel → Side ManagedReplay
as_side m = record { threads = m.threads; entries = m.entries; state = m.state }

-- a call of the managed side made one entry
abbrev pub AddsManaged : {D : Type 0} → Drawing D → D → D → ManagedModel → ManagedModel → Made → Told → Type 0
AddsManaged d before after old new made told =
    AddsLawful managed_rules d before after (as_side old) (as_side new) made told

-- whether a side is ready after a snapshot was asked for: one that was taken used the room up, and one for which the
-- gate wasn't closed left it
abbrev pub ready_after : Result Opened SnapFault → Bool → Bool
ready_after (Ok out) ready = false
ready_after (Err fault.NotClosed) ready = true
ready_after (Err fault.OutOfMemory) ready = ready
ready_after (Err (fault.CycleOpen c)) ready = ready

-- a side for so many managed threads, by its entries, the handles that were given to rows, and its rows; and with
-- whether it is ready
abbrev pub model_of : ℕ → List Entry → List (List ℕ) → ManagedReplay → Bool → ManagedModel
model_of threads entries takings rows
    ready = record { threads = threads; entries = entries; state = state_of takings rows; ready = ready }

abbrev pub side_of : ℕ → List Entry → List (List ℕ) → ManagedReplay → Side ManagedReplay
side_of threads entries takings rows = record { threads = threads; entries = entries; state = state_of takings rows }

-- how many entries an open cycle owes at most: the contraction's, unless it was made, and the one that closes the cycle
abbrev pub owed_by : Bool → ℕ
owed_by true = 1
owed_by false = 2

-- while a cycle is open there is room for the entries that it owes
abbrev pub HasRoom : ManagedReplay → ℕ → Type 0
HasRoom s spare = (c : OpenCycle) → s.managed.cycle ≡ Some c → owed_by s.contracted ≤ spare

-- what every state of the managed side keeps, which doesn't follow from a lawful list alone, since that says nothing of
-- the pins which a `take` was given; and there are at most as many cycles as entries
pub record SideInvariant (entries : List Entry) (s : ManagedReplay) : Type 0 where
  pub kept : ReplayInvariant s
  pub few : s.managed.cycles ≤ length entries

-- the answer on a peer's twin: pending while a cycle is open, else by the registry
abbrev pub twin_answer : Option OpenCycle → Option ℕ → TwinAnswer
twin_answer (Some c) twin = twins.Pending record { 0 = c.number }
twin_answer None None = twins.NoTwin
twin_answer None (Some m) = twins.Found record { 0 = m }
