-- The numbers and the names of the causes for which a script is refused.
-- Believed: the clauses of the program's top call rest on all that stands here.
use Rattle.std.specs.Prelude.{ℕ, List, ◌++◌, codes, decimal}
use Rattle.bridge_script.specs.declared.faults.Cause.{Cause}
use Rattle.bridge_script.specs.declared.faults.Cause.TheVariants as cause
use Rattle.bridge_script.specs.declared.faults.ScriptFault.{ScriptFault}

-- the number of a cause, as it is printed
abbrev pub cause_number : Cause → ℕ
cause_number cause.Unknown = 1
cause_number cause.Arity = 2
cause_number cause.Name = 3
cause_number cause.Number = 4
cause_number cause.Limit = 5
cause_number cause.Kind = 6
cause_number cause.Cycles = 7
cause_number cause.Lines = 8
cause_number cause.Bytes = 9

-- the name of a cause, as it is printed
abbrev pub cause_name : Cause → List ℕ
cause_name cause.Unknown = codes "unknown"
cause_name cause.Arity = codes "arity"
cause_name cause.Name = codes "name"
cause_name cause.Number = codes "number"
cause_name cause.Limit = codes "limit"
cause_name cause.Kind = codes "kind"
cause_name cause.Cycles = codes "cycles"
cause_name cause.Lines = codes "lines"
cause_name cause.Bytes = codes "bytes"

-- the line that names a fault: `line N: cause C NAME`, with its newline
abbrev pub fault_text : ScriptFault → List ℕ
fault_text f = codes "line " ++ decimal f.line ++ codes ": cause " ++ decimal
    (cause_number f.cause) ++ codes " " ++ cause_name f.cause ++ codes "\n"
