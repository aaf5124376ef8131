-- A reader's pin holds the object of a weak cell: a cycle doesn't free it, until the reader takes it.
use Rattle.std.specs.Prelude.{◌≡◌, List, [], ◌∷◌, ◌++◌, Some, None}
use Rattle.joint_machine.specs.declared.names.Thread.TheVariants.{M, C}
use Rattle.joint_machine.specs.declared.names.Sort.TheVariants.{User}
use Rattle.joint_machine.specs.declared.names.Kind.TheVariants as kind
use Rattle.joint_machine.specs.declared.lines.Act.TheVariants as act
use Rattle.joint_machine.specs.declared.events.Op.TheVariants as op
use Rattle.joint_machine.specs.declared.events.Reply.{Reply}
use Rattle.joint_machine.specs.declared.events.Reply.TheVariants as says
use Rattle.joint_machine.specs.Linked.{Linkage, opening_linkage, MayCome}
use Rattle.joint_machine.specs.Replaying.{replayed}
use Rattle.joint_machine.specs.Told.{nothing, snap_of, contraction_of, references_of, sweep_of, resolution_of, Noted}
use Rattle.worked_histories.specs.Notes.{note, var, cell_no, object_no, peer_no, handle_no, cycle_no, marking_no, span}

-- an object is made, a weak cell gets it, its variable is emptied, and a read pins it
abbrev pub pinned_once : List Noted
pinned_once =
    note 0 (M 1) 1 (op.Line (act.Take (var 0))) says.Empty None nothing
    ∷ note 1 (M 1) 2 (op.Make User 0) (says.Made (peer_no 1) (handle_no 1)) None nothing
    ∷ note 2 (M 1) 2 (op.Adopt (var 0) kind.Bridge 0 (peer_no 1) (handle_no 1)) (says.M (object_no 1)) (Some 1) nothing
    ∷ note 3 (M 1) 3 (op.Line (act.Weak (cell_no 5) (var 0))) says.Ok None nothing
    ∷ note 4 (M 1) 4 (op.Line (act.Drop (var 0))) says.Ok None nothing
    ∷ note 5 (M 1) 5 (op.Line (act.Read (cell_no 5))) (says.M (object_no 1)) None nothing
    ∷ []

-- a second read finds the pin filled
abbrev pub pinned_twice : List Noted
pinned_twice = note 6 (M 1) 6 (op.Line (act.Read (cell_no 5))) (says.Pinned (object_no 1)) None nothing ∷ []

-- a cycle finds the object reached
abbrev pub pinned_cycle : List Noted
pinned_cycle =
    note 7 C 7 (op.Snap (cycle_no 1)) (says.Snapped 0 (span 0 0)) None (snap_of [] [] [])
    ∷ note 8 C 7 (op.Contract (cycle_no 1)) (says.Sccs 0 0) None (contraction_of [] [] [])
    ∷ note 9 C 7 (op.Mirror (cycle_no 1)) (says.Refs 0) (Some 7) (references_of [])
    ∷ note 10 C 7 op.Begin (says.Mark (marking_no 1)) None nothing
    ∷ note 11 C 7 op.Sweep (says.Swept (marking_no 1) (span 0 0)) None (sweep_of [])
    ∷ note 12 C 7 (op.Clear (cycle_no 1)) says.Ok None nothing
    ∷ note 13 C 7 (op.Resolve (cycle_no 1)) (says.Freed (span 0 0)) (Some 12) (resolution_of [] [])
    ∷ []

-- the reader takes the object; another cell was never set, and the cell can't be set again
abbrev pub taken_out : List Noted
taken_out =
    note 14 (M 1) 8 (op.Line (act.Take (var 1))) (says.M (object_no 1)) None nothing
    ∷ note 15 (M 1) 9 (op.Line (act.Read (cell_no 6))) says.Unset None nothing
    ∷ note 16 (M 1) 10 (op.Line (act.Weak (cell_no 5) (var 1))) says.Taken None nothing
    ∷ []

-- the whole history
abbrev pub pinned_object : List Noted
pinned_object = pinned_once ++ (pinned_twice ++ (pinned_cycle ++ taken_out))

-- the state once the object is pinned, before the cycle, and after it
abbrev pub once_pinned : Linkage
once_pinned = replayed opening_linkage pinned_once

abbrev pub before_pinned_cycle : Linkage
before_pinned_cycle = replayed once_pinned pinned_twice

-- a second read that may come there answers that the object is pinned, and nothing else
abbrev pub ReadsPinned : Type 0
ReadsPinned = (reply : Reply) → MayCome once_pinned (note 6 (M 1) 6 (op.Line (act.Read (cell_no 5))) reply None nothing)
    → reply ≡ says.Pinned (object_no 1)
