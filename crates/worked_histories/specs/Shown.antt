-- Histories that differ in one list alone: a text tells them apart, but for notices that nobody took.
use Rattle.std.specs.Prelude.{List, [], ◌∷◌, None}
use Rattle.joint_machine.specs.declared.names.MNum.{MNum}
use Rattle.joint_machine.specs.declared.names.PNum.{PNum}
use Rattle.joint_machine.specs.declared.names.Thread.TheVariants.{C}
use Rattle.joint_machine.specs.declared.events.Entry.{Entry}
use Rattle.joint_machine.specs.declared.events.Op.TheVariants as op
use Rattle.joint_machine.specs.declared.events.Reply.TheVariants as says
use Rattle.joint_machine.specs.Histories.{AreShownAlike, Finished}
use Rattle.worked_histories.specs.Notes.{object_no, peer_no}

-- a history with these lists
abbrev pub history_of : List Entry → List MNum → List PNum → List MNum → Finished
history_of entries freed_managed freed_peers
    notices = record {
      entries = entries;
      freed_managed = freed_managed;
      freed_peers = freed_peers;
      notices = notices;
    }

-- an entry of the driver
abbrev pub one_entry : List Entry
one_entry = record {
  number = 0;
  made = record { caller = C; index = 1; op = op.Begin; reply = says.Ok; cites = None };
} ∷ []

-- where one notice was taken, histories with another second notice are shown alike; ones with another entry, freed
-- object, freed peer or first notice aren't
pub record AreTold : Type 0 where
  pub untaken : AreShownAlike 1 (history_of [] [] [] (object_no 1 ∷ object_no 2 ∷ []))
      (history_of [] [] [] (object_no 1 ∷ object_no 3 ∷ []))
  pub entries : AreShownAlike 1 (history_of one_entry [] [] []) (history_of [] [] [] []) → ⊥
  pub freed_managed : AreShownAlike 1 (history_of [] (object_no 1 ∷ []) [] [])
      (history_of [] (object_no 2 ∷ []) [] []) → ⊥
  pub freed_peers : AreShownAlike 1 (history_of [] [] (peer_no 1 ∷ []) []) (history_of [] [] (peer_no 2 ∷ []) []) → ⊥
  pub notices : AreShownAlike 1 (history_of [] [] [] (object_no 1 ∷ []))
      (history_of [] [] [] (object_no 2 ∷ [])) → ⊥
