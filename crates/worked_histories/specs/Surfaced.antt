-- An object gives its handle up, its peer surfaces again under a new twin, and a second time under that same twin.
use Rattle.std.specs.Prelude.{List, [], ◌∷◌, ◌++◌, Some, None}
use Rattle.joint_machine.specs.declared.names.Thread.TheVariants.{M}
use Rattle.joint_machine.specs.declared.names.Sort.TheVariants.{User}
use Rattle.joint_machine.specs.declared.names.Kind.TheVariants as kind
use Rattle.joint_machine.specs.declared.lines.Act.TheVariants as act
use Rattle.joint_machine.specs.declared.events.Op.TheVariants as op
use Rattle.joint_machine.specs.declared.events.Reply.TheVariants as says
use Rattle.joint_machine.specs.Told.{nothing, Noted}
use Rattle.worked_histories.specs.Notes.{note, var, static_no, object_no, peer_no, handle_no}

-- the object is made, its peer is put into a static, and the object gives its handle up
abbrev pub disposed : List Noted
disposed =
    note 0 (M 1) 1 (op.Make User 2) (says.Made (peer_no 1) (handle_no 1)) None nothing
    ∷ note 1 (M 1) 1 (op.Adopt (var 0) kind.Bridge 1 (peer_no 1) (handle_no 1)) (says.M (object_no 1)) (Some 0) nothing
    ∷ note 2 (M 1) 2 (op.Lend (var 0) (static_no 0)) (says.H (handle_no 1)) None nothing
    ∷ note 3 (M 1) 2 (op.Land (handle_no 1) (static_no 0)) (says.P (peer_no 1)) (Some 2) nothing
    ∷ note 4 (M 1) 3 (op.Give (var 0)) (says.H (handle_no 1)) None nothing
    ∷ note 5 (M 1) 3 (op.Release (handle_no 1)) says.Ok (Some 4) nothing
    ∷ note 6 (M 1) 4 (op.Line (act.Handle (var 0))) says.Plain None nothing
    ∷ []

-- its peer surfaces twice, and an empty static gives no peer
abbrev pub surfaced : List Noted
surfaced =
    note 7 (M 1) 5 (op.Grip (static_no 0)) (says.Gripped (peer_no 1) (handle_no 2) User 2) None nothing
    ∷ note 8 (M 1) 5 (op.Meet (var 1) User 2 (peer_no 1) (handle_no 2)) (says.New (object_no 2)) (Some 7) nothing
    ∷ note 9 (M 1) 6 (op.Grip (static_no 0)) (says.Gripped (peer_no 1) (handle_no 3) User 2) None nothing
    ∷ note 10 (M 1) 6 (op.Meet (var 2) User 2 (peer_no 1) (handle_no 3)) (says.Twin (object_no 2)) (Some 9) nothing
    ∷ note 11 (M 1) 6 (op.Release (handle_no 3)) says.Ok (Some 10) nothing
    ∷ note 12 (M 1) 7 (op.Line (act.Handle (var 1))) (says.H (handle_no 2)) None nothing
    ∷ note 13 (M 1) 8 (op.Grip (static_no 9)) says.Null None nothing
    ∷ []

-- the whole history
abbrev pub disposed_and_surfaced : List Noted
disposed_and_surfaced = disposed ++ surfaced
