-- What reading a script from a source does to it, and what the answer rests on.
-- Believed: the clauses of the program's top call rest on all that stands here.
use Rattle.std.specs.Prelude.{ℕ, List, Option}
use Rattle.std.specs.Io.KnownBytes.{Consumes, IsAtEnd}
use Rattle.joint_machine.specs.declared.names.Thread.{Thread}
use Rattle.joint_machine.specs.declared.lines.Act.{Act}
use Rattle.bridge_script.specs.declared.faults.ScriptFault.{ScriptFault}
use Rattle.byte_streams.specs.Reading.{Took}
use Rattle.bridge_script.specs.Scripts.{IsText, IsFault, IsNoText}

-- the source was read to its end, and what was taken is a text of the script
pub record TookScript (left rest : Option (List ℕ)) (script : List (Thread × Act)) : Type 0 where
  pub input : List ℕ
  pub taken : Consumes left rest input
  pub ended : IsAtEnd rest
  pub text : IsText input script

-- the source was read to its end or up to one byte past the limit, and what was taken is no text of a
-- script: the fault names its first faulty line
pub record TookFault (left rest : Option (List ℕ)) (fault : ScriptFault) : Type 0 where
  pub input : List ℕ
  pub took : Took 8388608 left rest input
  pub faulty : IsFault input fault
  pub none : IsNoText input
