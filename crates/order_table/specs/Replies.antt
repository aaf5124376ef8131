-- What the rule says of readers' replies, in the words of linked histories: entries by their numbers.
use Rattle.std.specs.Prelude.{◌≡◌, ℕ, zero, suc, ◌+◌, ◌<◌, ◌≤◌, true, List, [], ◌∷◌, map, Option, Some, None}
use mathlib.Core.Option.{some}
use lib.ListN.{get_elem?}
use Rattle.joint_machine.specs.declared.names.Cycle.{Cycle}
use Rattle.joint_machine.specs.declared.names.Var.{Var}
use Rattle.joint_machine.specs.declared.lines.Act.TheVariants as act
use Rattle.joint_machine.specs.declared.events.Op.TheVariants as op
use Rattle.joint_machine.specs.declared.events.Reply.TheVariants as says
use Rattle.joint_machine.specs.Control.{caller_place}
use Rattle.joint_machine.specs.Heaps.{slot, is_freed}
use Rattle.joint_machine.specs.Managed.{Managed}
use Rattle.joint_machine.specs.Told.{Noted}
use Rattle.joint_machine.specs.Readers.{SetsCell, ReadsCell, FreesObject, IsReadReply, replayed_reading}
use Rattle.joint_machine.specs.Linked.{opening_linkage}
use Rattle.joint_machine.specs.HistoryLines.{caller_line}
use Rattle.order_table.specs.Rows.{at}
use Rattle.order_table.specs.Stages.{IsClosed}
use Rattle.order_table.specs.Owed.{marked, target, has, pin}
use Rattle.order_table.specs.Rule.{Item, of_line}
use Rattle.order_table.specs.Facts.{entries_of}
use Rattle.order_table.specs.Gated.{IsGated}
use Rattle.order_table.specs.Owed as lists

-- a note of an entry: what it says is freed was told to `append`, and a `weak` that set its cell was told with the
-- object
pub record IsNoteOf (x : Item) (n : Noted) : Type 0 where
  pub entry : n.entry ≡ x.kept.entry
  pub freed : (m : ℕ) → FreesObject n.told m → has x.kept.freed m ≡ true
  pub set : (c : ℕ) → SetsCell n.entry.made.op c
      → n.entry.made.reply ≡ says.Ok → (m : ℕ) × (marked x.kept ≡ Some (c, m))

abbrev pub AreNotes : List Item → List Noted → Type 0
AreNotes [] [] = Unit {0}
AreNotes [] (n ∷ ns) = ⊥
AreNotes (x ∷ xs) [] = ⊥
AreNotes (x ∷ xs) (n ∷ ns) = IsNoteOf x n × AreNotes xs ns

-- the first n entries
abbrev pub first_of : {A : Type 0} → ℕ → List A → List A
first_of zero xs = []
first_of (suc n) [] = []
first_of (suc n) (x ∷ xs) = x ∷ first_of n xs

-- the object that a pin's word names
abbrev pub object_of : ℕ → Option ℕ
object_of zero = None
object_of (suc m) = Some m

-- a managed state has the pins, cells, freed objects and the open cycle that these entries leave
pub record IsStateOf (before : List Item) (s : Managed) : Type 0 where
  pub pins : (r : ℕ) → 0 < r → r < 9 → slot s.pins r ≡ object_of (pin (of_line (r + 10) before))
  pub cells : (c : ℕ) → slot s.cells c ≡ target (of_line 0 before) c
  pub freed : (m : ℕ) → is_freed s.heap m ≡ lists.is_freed (of_line 0 before) m
  pub open_cycle : IsClosed (of_line 0 before) → s.cycle ≡ None

-- each reader's entry has a reply that linked histories allow
abbrev pub RepliesAreRight : List Item → Type 0
RepliesAreRight whole = (ns : List Noted) (cells : List (Option ℕ))
    → AreNotes whole ns → ((c : ℕ) → slot cells c ≡ target (of_line 0 whole) c)
    → (i : ℕ) (x : Item) → get_elem? whole i ≡ some x → 2 ≤ x.role → (s : Managed) → IsStateOf (first_of i whole) s
    → (k : ℕ) → ReadsCell x.kept.entry.made.op k
    → IsReadReply ns cells s i x.kept.entry.made.caller k x.kept.entry.made.reply

-- the reads are such as the gate lets in
abbrev pub ReadsAreGated : List Item → Type 0
ReadsAreGated whole = (ns : List Noted) → AreNotes whole ns → IsGated ns

-- the managed state that replays the first of these entries has the pins that their lines leave
abbrev pub PinsAreReplayed : List Item → Type 0
PinsAreReplayed whole = (ns : List Noted) → map (λ n. n.entry) ns ≡ entries_of whole → (i r : ℕ) → 0 < r → r < 9
    → slot (replayed_reading opening_linkage (first_of i ns)).managed.managed.pins r ≡ object_of
    (pin (of_line (r + 10) (first_of i whole)))

-- the pins that are kept with a snapshot and with a `take` are those that the lines before it leave
pub record KeepsPins (before : List Item) (x : Item) : Type 0 where
  pub snapped : x.role ≡ 0 → (k : Cycle) → x.kept.entry.made.op ≡ op.Snap k
      → (r : ℕ) → 0 < r → r < 9 → at 0 x.kept.pins r ≡ pin (of_line (r + 10) before)
  pub taken : (v : Var) → x.kept.entry.made.op ≡ op.Line (act.Take v)
      → at 0 x.kept.pins (caller_place x.kept.entry.made.caller) ≡ pin
      (of_line (caller_line x.kept.entry.made.caller) before)

abbrev pub KeptPinsAreRight : List Item → Type 0
KeptPinsAreRight whole = (i : ℕ) (x : Item) → get_elem? whole i ≡ some x → KeepsPins (first_of i whole) x
