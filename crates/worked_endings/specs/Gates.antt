-- Lists of entries with a read that the gate doesn't let in, and one in which what a pin holds is freed.
use Rattle.std.specs.Prelude.{ℕ, List, [], ◌∷◌, None}
use Rattle.joint_machine.specs.declared.names.Thread.TheVariants.{M, C}
use Rattle.joint_machine.specs.declared.names.Kind.TheVariants as kind
use Rattle.joint_machine.specs.declared.lines.Act.TheVariants as act
use Rattle.joint_machine.specs.declared.events.Reply.{Reply}
use Rattle.joint_machine.specs.declared.events.Op.TheVariants as op
use Rattle.joint_machine.specs.declared.events.Reply.TheVariants as says
use Rattle.joint_machine.specs.Told.{nothing, resolution_of, snap_of, Noted}
use Rattle.order_table.specs.Gated.{IsGated}
use Rattle.pin_laws.specs.Pins.{PinsHold}
use Rattle.worked_histories.specs.Notes.{note, var, cell_no, object_no, cycle_no, span}

-- a cycle's snap and its resolve
abbrev pub snapped : ℕ → Noted
snapped k = note 0 C 1 (op.Snap (cycle_no k)) (says.Snapped 0 (span 0 0)) None (snap_of [] [] [])

abbrev pub resolved : ℕ → Noted
resolved k = note 0 C 1 (op.Resolve (cycle_no k)) (says.Freed (span 0 0)) None (resolution_of [] [])

-- a read of a cell by a managed thread, with its reply; and what sets the cell
abbrev pub read_by : ℕ → Reply → Noted
read_by t reply = note 0 (M t) 1 (op.Line (act.Read (cell_no 0))) reply None nothing

abbrev pub pending : ℕ → Reply
pending k = says.Pending (cycle_no k)

abbrev pub set : Noted
set = note 0 (M 1) 1 (op.Line (act.Weak (cell_no 0) (var 0))) says.Ok None nothing

-- unset while a cycle is open; an object between a `pending` and its snap; `pending` by a thread that was let in behind the
-- cycle, or that found the gate held for a later one; unset behind a cycle though the cell was set before it
abbrev pub unset_while_open : List Noted
unset_while_open = snapped 1 ∷ read_by 1 says.Unset ∷ []

abbrev pub given_before_a_snap : List Noted
given_before_a_snap = read_by 2 (pending 1) ∷ read_by 1 (says.M (object_no 1)) ∷ snapped 1 ∷ []

abbrev pub pending_once_let_in : List Noted
pending_once_let_in = snapped 1 ∷ resolved 1 ∷ read_by 1 says.Gone ∷ read_by 1 (pending 1) ∷ []

abbrev pub pending_behind_a_later_one : List Noted
pending_behind_a_later_one = snapped 1 ∷ resolved 1 ∷ read_by 1 (pending 2) ∷ read_by 1 (pending 1) ∷ []

abbrev pub unset_behind_a_cycle : List Noted
unset_behind_a_cycle = set ∷ snapped 1 ∷ resolved 1 ∷ read_by 2 says.Unset ∷ []

pub record AreLetInReadsRefused : Type 0 where
  pub unset_open : IsGated unset_while_open → ⊥
  pub given_early : IsGated given_before_a_snap → ⊥
  pub let_in : IsGated pending_once_let_in → ⊥
  pub later : IsGated pending_behind_a_later_one → ⊥
  pub unset_behind : IsGated unset_behind_a_cycle → ⊥

-- a read gives an object to a thread, and a resolution frees it while it is in the thread's pin
abbrev pub freed_in_its_pin : List Noted
freed_in_its_pin =
    note 0 (M 1) 1 (op.Line (act.New (var 0) kind.Plain 0)) (says.M (object_no 1)) None nothing
    ∷ note 1 (M 1) 2 (op.Line (act.Weak (cell_no 0) (var 0))) says.Ok None nothing
    ∷ note 2 (M 1) 3 (op.Line (act.Read (cell_no 0))) (says.M (object_no 1)) None nothing
    ∷ note 3 C 4 (op.Resolve (cycle_no 1)) (says.Freed (span 0 1)) None (resolution_of [] (1 ∷ []))
    ∷ []

abbrev pub IsFreedPinRefused : Type 0
IsFreedPinRefused = PinsHold freed_in_its_pin → ⊥
