-- A line of a script may be seen by several threads.
use mathlib.Core.List.{[], ◌∷◌}
use denote.Param.Send.{IsSync, recorded_sync, struct_sync}
use denote.Struct.Declared as fields
use denote.Struct.Tuple.{Tuple, tuple_type}
use Rattle.joint_machine.proofs.lines.Act.TheSendSync.{the_sync as act}
use Rattle.joint_machine.proofs.names.Thread.TheSendSync.{the_sync as thread}
use Rattle.joint_machine.specs.contracts.lines.Act as Act
use Rattle.joint_machine.specs.contracts.names.Thread as Thread

pub line : IsSync (Tuple (Thread.the_row ∷ Act.the_row ∷ []))
line = recorded_sync _ _ _ (tuple_type (Thread.the_row ∷ Act.the_row ∷ [])).to_one (struct_sync (fields.shape (tuple_type (Thread.the_row ∷ Act.the_row ∷ []))) (thread, (act, tt)))
