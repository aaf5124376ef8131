-- The entries that a seat knows: a part of a history, whose numbers rise and may leave numbers out.
use Rattle.std.specs.Prelude.{◌≡◌, ℕ, ◌≤◌, Bool, true, false, List, Contains, Option, Some}
use Rattle.joint_machine.specs.declared.events.Op.TheVariants as op
use Rattle.joint_machine.specs.declared.events.Made.{Made}
use Rattle.joint_machine.specs.Control.{control_after}
use Rattle.joint_machine.specs.Heaps.{IsLive}
use Rattle.joint_machine.specs.Lines.{is_peer_event, is_read}
use Rattle.joint_machine.specs.PinsTold.{is_pinned, bare_told, no_pins, pins_told, tells_pins, with_pins}
use Rattle.joint_machine.specs.Linked.{Linkage, MayCome, peer_after}
use Rattle.joint_machine.specs.Managed.{Managed, OpenCycle}
use Rattle.joint_machine.specs.ManagedReplay.{ManagedReplay, managed_answer}
use Rattle.joint_machine.specs.Readers.{ReaderMayCome}
use Rattle.joint_machine.specs.Told.{Told, Noted}
use Rattle.known_laws.specs.PastEntries.{TellsPlainly}

-- the state with these pins, and with those that are told
abbrev pub pinned : Linkage → List (Option ℕ) → Linkage
pinned s pins = record s { managed = with_pins s.managed pins }

abbrev pub given : Linkage → Told → Linkage
given s told = pinned s (pins_told told)

-- the entry without the pins that are told
abbrev pub without_pins : Noted → Noted
without_pins n = record { entry = n.entry; told = bare_told n.told }

-- pins stand: what they hold is unfreed, and in no open cycle's dead part
pub record PinsStand (s : Managed) (pins : List (Option ℕ)) : Type 0 where
  pub live : (m : ℕ) → Contains pins (Some m) → IsLive s.heap m
  pub outside : (c : OpenCycle) → s.cycle ≡ Some c → (m : ℕ) → Contains pins (Some m) → Contains c.dead m → ⊥

-- an entry of a side's list may come next: pins are told with a snap and a `take` alone, they stand, and in the state
-- with them it may come
pub record SideMayCome (s : Linkage) (n : Noted) : Type 0 where
  pub tells : tells_pins n.told ≡ is_pinned n.entry.made.op
  pub stand : PinsStand s.managed.managed (pins_told n.told)
  pub comes : MayCome (given s n.told) (without_pins n)

-- of a reader's entry its turn is asked for, and not its reply
abbrev pub Comes : Bool → Linkage → Noted → Type 0
Comes true s n = ReaderMayCome s n
Comes false s n = SideMayCome s n

-- the entry may come next, with this number or a greater one
pub record MayComeLater (next : ℕ) (s : Linkage) (n : Noted) : Type 0 where
  pub later : next ≤ n.entry.number
  pub comes : Comes (is_read n.entry.made.op) s n
  pub plain : TellsPlainly s.control.stand n.entry.made.op (bare_told n.told)

-- the managed side after an entry of a past: it has no pins between entries. A peer entry and a reader's leave it
-- alone.
abbrev pub managed_past : ManagedReplay → Made → Told → Bool → Bool → ManagedReplay
managed_past s m told true read = s
managed_past s m told false true = s
managed_past s m told false false = with_pins
    (managed_answer (with_pins s (pins_told told)) m.caller m.op (bare_told told)).state no_pins

-- the state after an entry of a past: a reader's changes its caller's control alone
abbrev pub past_after : Linkage → Noted → Linkage
past_after s n = record {
  managed = managed_past s.managed n.entry.made n.told
      (is_peer_event n.entry.made.caller n.entry.made.op) (is_read n.entry.made.op);
  peer = peer_after s.peer n.entry.made (bare_told n.told) (is_peer_event n.entry.made.caller n.entry.made.op);
  control = control_after s.control n.entry.made.caller n.entry.number
      n.entry.made.index n.entry.made.op n.entry.made.reply (bare_told n.told);
}
