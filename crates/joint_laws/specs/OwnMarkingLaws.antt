-- The own marking of a cycle is one: between a cycle's snapshot and its resolution the driver begins exactly one
-- marking.
use Rattle.std.specs.Prelude.{◌≡◌, ℕ, ◌<◌, List, Some, slice_get}
use Rattle.joint_machine.specs.declared.names.Thread.TheVariants.{C}
use Rattle.joint_machine.specs.declared.events.Op.TheVariants as op
use Rattle.joint_machine.specs.declared.events.Reply.TheVariants as says
use Rattle.joint_machine.specs.Headline.{SnapsAt, ResolvesAt, DriverBeginsAt}
use Rattle.joint_machine.specs.Linked.{opening_linkage}
use Rattle.joint_machine.specs.Readers.{HasEventAt}
use Rattle.joint_machine.specs.Replaying.{AllMayCome, machine_entries}
use Rattle.joint_machine.specs.Run.{Moment, IsRun}
use Rattle.joint_machine.specs.Told.{Noted}

-- the driver begins a marking in that place
pub record DriverBegins (noted : List Noted) (i : ℕ) : Type 0 where
  pub entry : Noted
  pub there : slice_get noted i ≡ Some entry
  pub caller : entry.entry.made.caller ≡ C
  pub event : entry.entry.made.op ≡ op.Begin

-- between two places the driver begins exactly one marking, whose number is the reply
pub record HasOneBegin (noted : List Noted) (from to : ℕ) : Type 0 where
  pub begin : ℕ
  pub later : from < begin
  pub earlier : begin < to
  pub begins : DriverBegins noted begin
  pub marking : ℕ
  pub replies : begins.entry.entry.made.reply ≡ says.Mark record { 0 = marking }
  pub alone : (i : ℕ) → from < i → i < to → DriverBegins noted i → i ≡ begin

-- so it is between the snapshot of a cycle and its resolution, which comes later, in a lawful list of entries
pub record IsMarkedOnce (noted : List Noted) (from to : ℕ) : Type 0 where
  pub in_order : from < to
  pub one : HasOneBegin noted from to

abbrev pub OwnMarkingIsOne : Type 0
OwnMarkingIsOne = (noted : List Noted) → AllMayCome opening_linkage noted → (i e k : ℕ)
    → HasEventAt noted i (op.Snap record { 0 = k })
    → HasEventAt noted e (op.Resolve record { 0 = k }) → IsMarkedOnce noted i e

-- and in its run no two places between them have a begin of the driver
abbrev pub RunMarksOnce : Type 0
RunMarksOnce = (noted : List Noted) (run : List Moment)
    → AllMayCome opening_linkage noted → IsRun (machine_entries noted) run
    → (a e k : ℕ) (freed candidates resolved : List ℕ) → SnapsAt run a k freed candidates → ResolvesAt run e k resolved
    → (b c i j : ℕ) → DriverBeginsAt run b i → DriverBeginsAt run c j → a < b → b < e → a < c → c < e → b ≡ c
