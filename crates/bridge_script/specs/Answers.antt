-- What the calls of this crate answer, and words of their contracts alone.
use Rattle.joint_machine.specs.declared.lines.Act.{Act}
use Rattle.bridge_script.specs.declared.grammar.Operation.{Operation}
use Rattle.bridge_script.specs.Grammar.{fields}
use Rattle.std.specs.Prelude.{None, zero, suc, slice_get, ℕ, List, Option}
use Rattle.joint_machine.specs.declared.names.Thread.{Thread}
use Rattle.bridge_script.specs.declared.faults.ScriptError.{ScriptError}
use Rattle.bridge_script.specs.declared.faults.ScriptError.TheVariants.{OutOfMemory, ReadFault, Refused}
use Rattle.bridge_script.specs.Scripts.{IsFault, IsNoText}
use Rattle.byte_streams.specs.Faults.{Rose}
use Rattle.bridge_script.specs.Reading.{TookFault}
use Rattle.joint_machine.specs.declared.lines.Act.TheVariants as act
use Rattle.bridge_script.specs.declared.grammar.Operation.TheVariants as operation

-- the operation of an act
abbrev pub operation_of : Act → Operation
operation_of (act.New v kind fields) = operation.New
operation_of (act.Bridge v kind fields sort peer_fields) = operation.Bridge
operation_of (act.Copy v w) = operation.Copy
operation_of (act.Set v i w) = operation.Set
operation_of (act.Get v w i) = operation.Get
operation_of (act.Drop v) = operation.Drop
operation_of (act.Load v x) = operation.Load
operation_of (act.Store x v) = operation.Store
operation_of (act.Weak k v) = operation.Weak
operation_of (act.Read k) = operation.Read
operation_of (act.Await k) = operation.Await
operation_of (act.Take v) = operation.Take
operation_of (act.Pass v x) = operation.Pass
operation_of (act.Surface v x) = operation.Surface
operation_of (act.Dispose v) = operation.Dispose
operation_of (act.Handle v) = operation.Handle
operation_of (act.NewPeer v fields) = operation.NewPeer
operation_of (act.Global g v) = operation.Global
operation_of (act.WGlobal g v) = operation.WGlobal
operation_of (act.UnGlobal g) = operation.UnGlobal
operation_of (act.WRead v g) = operation.WRead
operation_of act.Collect = operation.Collect
operation_of act.BeginMark = operation.BeginMark
operation_of (act.Slice n) = operation.Slice
operation_of act.SweepMark = operation.SweepMark
operation_of (act.PhaseLine word) = operation.Phase word
operation_of (act.Finalise n) = operation.Finalise

-- what `parse` may answer in place of a script: the first faulty line where there is no script; never a read
-- fault
abbrev pub IsRefusal : List ℕ → ScriptError → Type 0
IsRefusal bytes OutOfMemory = Unit {0}
IsRefusal bytes ReadFault = ⊥
IsRefusal bytes (Refused fault) = IsFault bytes fault × IsNoText bytes

-- the line of that number, counted from 1
abbrev pub line_at : List (Thread × Act) → ℕ → Option (Thread × Act)
line_at script zero = None
line_at script (suc i) = slice_get script i

-- why a source gave no script: no memory, or its count of faults rose, or what it gave is none
abbrev pub IsNoScript : Option (List ℕ) → Option (List ℕ) → ℕ → ℕ → ScriptError → Type 0
IsNoScript left rest before now OutOfMemory = Unit {0}
IsNoScript left rest before now ReadFault = Rose before now
IsNoScript left rest before now (Refused fault) = TookFault left rest fault
