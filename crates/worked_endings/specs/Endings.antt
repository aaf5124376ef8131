-- Lists of entries, each with one fault at its end: what was freed is read, or a cycle has no end of its own.
use Rattle.std.specs.Prelude.{ℕ, List, [], ◌∷◌, map, None}
use Rattle.joint_machine.specs.declared.names.Thread.TheVariants.{M, P, C}
use Rattle.joint_machine.specs.declared.names.Kind.TheVariants as kind
use Rattle.joint_machine.specs.declared.names.Cell.{Cell}
use Rattle.joint_machine.specs.declared.names.Cycle.{Cycle}
use Rattle.joint_machine.specs.declared.lines.Act.{Act}
use Rattle.joint_machine.specs.declared.lines.Act.TheVariants as act
use Rattle.joint_machine.specs.declared.events.Entry.{Entry}
use Rattle.joint_machine.specs.declared.events.Reply.{Reply}
use Rattle.joint_machine.specs.declared.events.Op.TheVariants as op
use Rattle.joint_machine.specs.declared.events.Reply.TheVariants as says
use Rattle.joint_machine.specs.Told.{nothing, snap_of, sweep_of, resolution_of, Noted}
use Rattle.script_laws.specs.Ending.{AllCyclesEnd}
use Rattle.run_laws.specs.Final.{FreedReadsAreGone, FreedPeersAreGone}
use Rattle.run_laws.specs.Waits.{WaitsEnd}
use Rattle.worked_histories.specs.Notes.{note, var, cell_no, name_no, object_no, peer_no, handle_no, cycle_no}
use Rattle.worked_histories.specs.Notes.{marking_no, span}

-- an object that a weak cell names is freed by a resolution, and a read of the cell, which may wait, has that reply
abbrev pub reads : Act
reads = act.Read (cell_no 0)

abbrev pub waits : Act
waits = act.Await (cell_no 0)

abbrev pub read_after : Act → Reply → List Noted
read_after a reply =
    note 0 (M 1) 1 (op.Line (act.New (var 0) kind.Plain 0)) (says.M (object_no 1)) None nothing
    ∷ note 1 (M 1) 2 (op.Line (act.Weak (cell_no 0) (var 0))) says.Ok None nothing
    ∷ note 2 C 3 (op.Resolve (cycle_no 1)) (says.Freed (span 0 1)) None (resolution_of [] (1 ∷ []))
    ∷ note 3 (M 1) 4 (op.Line a) reply None nothing
    ∷ []

-- a peer that a weak global name leads to is freed by a sweep, and a weak read of the name has that reply
abbrev pub weakly_read_after : Reply → List Noted
weakly_read_after reply =
    note 0 (P 1) 1 (op.Line (act.NewPeer (var 0) 0)) (says.P (peer_no 1)) None nothing
    ∷ note 1 (P 1) 2 (op.Line (act.WGlobal (name_no 0) (var 0))) (says.H (handle_no 1)) None nothing
    ∷ note 2 (P 1) 3 op.Sweep (says.Swept (marking_no 1) (span 0 1)) None (sweep_of (1 ∷ []))
    ∷ note 3 (P 1) 4 (op.Line (act.WRead (var 1) (name_no 0))) reply None nothing
    ∷ []

-- a read of a freed object, also one that waits, answers neither the object, nor unset, nor a pin that isn't filled, nor that a variable is empty; a
-- weak read of a freed peer answers neither the peer nor that its name is unset
pub record AreReadsRefused : Type 0 where
  pub object : FreedReadsAreGone (read_after reads (says.M (object_no 1))) → ⊥
  pub awaited : FreedReadsAreGone (read_after waits (says.M (object_no 1))) → ⊥
  pub unset : FreedReadsAreGone (read_after reads says.Unset) → ⊥
  pub unfilled_pin : FreedReadsAreGone (read_after reads (says.Pinned (object_no 1))) → ⊥
  pub empty : FreedReadsAreGone (read_after reads says.Empty) → ⊥
  pub peer : FreedPeersAreGone (weakly_read_after (says.P (peer_no 1))) → ⊥
  pub unset_name : FreedPeersAreGone (weakly_read_after says.Unset) → ⊥

-- the driver's entries of cycles: each opened, resolved or abandoned in turn
abbrev pub opens : ℕ → Noted
opens k = note 0 C 1 (op.Snap (cycle_no k)) (says.Snapped 0 (span 0 0)) None (snap_of [] [] [])

abbrev pub resolves : ℕ → Noted
resolves k = note 0 C 1 (op.Resolve (cycle_no k)) (says.Freed (span 0 0)) None (resolution_of [] [])

abbrev pub abandons : ℕ → Noted
abandons k = note 0 C 1 (op.Abandon (cycle_no k)) says.Ok None nothing

abbrev pub entries_in : List Noted → List Entry
entries_in noted = map (λ n. n.entry) noted

-- each cycle is resolved by its own resolve before the next one is opened; whatever else is refused
pub record AreCyclesRefused : Type 0 where
  pub ends : AllCyclesEnd (entries_in (opens 1 ∷ resolves 1 ∷ opens 2 ∷ resolves 2 ∷ []))
  pub abandoned : AllCyclesEnd (entries_in (opens 1 ∷ abandons 1 ∷ opens 2 ∷ resolves 2 ∷ [])) → ⊥
  pub abandoned_unopened : AllCyclesEnd (entries_in (abandons 1 ∷ [])) → ⊥
  pub unresolved : AllCyclesEnd (entries_in (opens 1 ∷ [])) → ⊥
  pub last_unresolved : AllCyclesEnd (entries_in (opens 1 ∷ resolves 1 ∷ opens 2 ∷ [])) → ⊥
  pub reopened : AllCyclesEnd (entries_in (opens 1 ∷ opens 2 ∷ resolves 2 ∷ [])) → ⊥
  pub resolved_as_another : AllCyclesEnd (entries_in (opens 1 ∷ resolves 2 ∷ [])) → ⊥
  pub later_resolved_as_another : AllCyclesEnd (entries_in (opens 1 ∷ resolves 1 ∷ opens 2 ∷ resolves 1 ∷ [])) → ⊥

-- a line of a managed thread while a cycle is open
abbrev pub while_open : Act → Reply → List Entry
while_open a reply = entries_in (opens 1 ∷ note 1 (M 1) 2 (op.Line a) reply None nothing ∷ [])

-- a read that waits doesn't answer that it is pending, whatever the cell and the cycle; one that doesn't wait may
pub record AreWaitsRefused : Type 0 where
  pub waiting : (k : Cell) (c : Cycle) → WaitsEnd (while_open (act.Await k) (says.Pending c)) → ⊥
  pub reading : (k : Cell) (c : Cycle) → WaitsEnd (while_open (act.Read k) (says.Pending c))
