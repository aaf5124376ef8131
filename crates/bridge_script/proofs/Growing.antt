-- Whether a script goes on with a line is decided in the order of the causes: a line of a script has none of its words,
-- so that of cycles comes first, where there are too many.
use Rattle.std.proofs.Common.{ℕ, ◌+◌, ◌<◌, ◌≤◌, cond, Bool, true, false, List, length, refl, arith, lit≤, inl, inr}
use Rattle.joint_machine.specs.declared.names.PhaseWord.TheVariants as phase
use Rattle.joint_machine.specs.declared.names.Thread.{Thread}
use Rattle.joint_machine.specs.declared.names.Thread.TheVariants.{C}
use Rattle.joint_machine.specs.declared.lines.Act.{Act}
use Rattle.joint_machine.specs.declared.lines.Act.TheVariants as act
use Rattle.bridge_script.specs.declared.faults.Cause.{Cause}
use Rattle.bridge_script.specs.declared.faults.Cause.TheVariants as cause
use Rattle.bridge_script.specs.Words.{line_text, line_words}
use Rattle.bridge_script.specs.Causes.{cause_number}
use Rattle.bridge_script.specs.Faults.{IsFirst, Has, AskCycle}
use Rattle.bridge_script.specs.Scripts.{IsScriptLine, cycles_of, is_cycle}
use Rattle.bridge_script.specs.Steps.{behind}
use Rattle.bridge_script.proofs.LineWords.{words_of_line}
use Rattle.bridge_script.proofs.Fitting.{none_of_line}

-- a line that is counted asks for a cycle
asks : (line : Thread × Act) → 0 < cond (is_cycle line) 1 0 → AskCycle (line_words line)
asks (C, act.PhaseLine phase.Cycle) c = inl refl
asks (C, act.PhaseLine phase.Snap) c = inr refl
asks line c = absurd (omega arith)

after_cycles : (old : List (Thread × Act)) (line : Thread × Act) (end : ℕ) → IsScriptLine line → (d : Cause) → Has (behind old (line_text line) end) d → 7 ≤ cause_number d
after_cycles old line end b cause.Bytes h = lit≤ tt
after_cycles old line end b cause.Lines h = lit≤ tt
after_cycles old line end b cause.Cycles h = lit≤ tt
after_cycles old line end b d h = absurd (none_of_line line b d (rw (words_of_line line b) at h.1))

weigh : (n : ℕ) (b : Bool) → 256 < n + cond b 1 0 → 256 ≤ n
weigh n true m = omega arith
weigh n false m = omega arith

-- a line that asks for one cycle too many
pub cycles_first : (old : List (Thread × Act)) (line : Thread × Act) (end : ℕ) → IsScriptLine line → length old < 20000 → end ≤ 8388608
    → cycles_of old ≤ 256 → 256 < cycles_of old + cond (is_cycle line) 1 0 → IsFirst (Has (behind old (line_text line) end)) cause.Cycles
cycles_first old line end b l s c m = record {
  here = ((s, omega arith), rw (words_of_line line b) (asks line (omega arith)), weigh (cycles_of old) (is_cycle line) m);
  first = after_cycles old line end b;
}
