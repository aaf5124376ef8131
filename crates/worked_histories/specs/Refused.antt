-- Entries that may not come, each for one reason alone, after an object was made on line 5; and a history that ends in
-- the midst of a dispose.
use Rattle.std.specs.Prelude.{ℕ, List, [], ◌∷◌, Some, None}
use Rattle.joint_machine.specs.declared.names.Thread.TheVariants.{M}
use Rattle.joint_machine.specs.declared.names.Sort.TheVariants.{User}
use Rattle.joint_machine.specs.declared.names.Kind.TheVariants as kind
use Rattle.joint_machine.specs.declared.lines.Act.TheVariants as act
use Rattle.joint_machine.specs.declared.events.Op.TheVariants as op
use Rattle.joint_machine.specs.declared.events.Reply.TheVariants as says
use Rattle.joint_machine.specs.Linked.{Linkage, opening_linkage, MayCome}
use Rattle.joint_machine.specs.Replaying.{AllMayCome, replayed}
use Rattle.joint_machine.specs.LinkedHistories.{IsLinkedBy}
use Rattle.joint_machine.specs.Told.{nothing, snap_of, Noted}
use Rattle.computed_histories.specs.Readings.{finished_of}
use Rattle.worked_histories.specs.Notes.{note, var, object_no, peer_no, handle_no, cycle_no, span}

-- an object with a handle, made on line 5
abbrev pub made_on_five : List Noted
made_on_five =
    note 0 (M 1) 5 (op.Make User 0) (says.Made (peer_no 1) (handle_no 1)) None nothing
    ∷ note 1 (M 1) 5 (op.Adopt (var 0) kind.Bridge 1 (peer_no 1) (handle_no 1)) (says.M (object_no 1)) (Some 0) nothing
    ∷ []

abbrev pub once_made : Linkage
once_made = replayed opening_linkage made_on_five

-- its thread empties a variable on a line, with a reply
abbrev pub drops_on : ℕ → Noted
drops_on line = note 2 (M 1) line (op.Line (act.Drop (var 0))) says.Ok None nothing

-- it gives its handle up, and the history ends
abbrev pub disposed_halfway : List Noted
disposed_halfway =
    note 0 (M 1) 5 (op.Make User 0) (says.Made (peer_no 1) (handle_no 1)) None nothing
    ∷ note 1 (M 1) 5 (op.Adopt (var 0) kind.Bridge 1 (peer_no 1) (handle_no 1)) (says.M (object_no 1)) (Some 0) nothing
    ∷ note 2 (M 1) 6 (op.Give (var 0)) (says.H (handle_no 1)) None nothing
    ∷ []

-- what may come, and what may not: a line before the last one of its thread, or past 32 bits; an event that its caller
-- doesn't have; an answer that isn't the one; a release that nothing came before
pub record AreRefused : Type 0 where
  pub lawful : AllMayCome opening_linkage made_on_five
  pub comes : MayCome once_made (drops_on 5)
  pub line_falls : MayCome once_made (drops_on 4) → ⊥
  pub line_is_long : MayCome once_made (drops_on 4294967296) → ⊥
  pub not_its_event : MayCome once_made
      (note 2 (M 1) 5 (op.Snap (cycle_no 1)) (says.Snapped 0 (span 0 0)) None (snap_of [] [] [])) → ⊥
  pub not_its_answer : MayCome once_made (note 2 (M 1) 5 (op.Line (act.Drop (var 0))) says.Empty None nothing) → ⊥
  pub released_unasked : MayCome once_made (note 2 (M 1) 5 (op.Release (handle_no 1)) says.Ok None nothing) → ⊥
  pub half_lawful : AllMayCome opening_linkage disposed_halfway
  pub half_linked : IsLinkedBy (finished_of disposed_halfway) disposed_halfway → ⊥
