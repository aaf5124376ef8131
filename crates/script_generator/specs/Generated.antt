-- The script that the generator makes of a seed and a size: so many families one after another, and a cycle after each
-- hundred.
-- Believed: the clauses of the program's top call rest on all that stands here.
use Rattle.std.specs.Prelude.{ℕ, zero, suc, ◌+◌, ◌%◌, ◌==◌, if◌then◌else◌, List, [], ◌∷◌, ◌++◌}
use Rattle.joint_machine.specs.declared.names.StaticNo.{StaticNo}
use Rattle.joint_machine.specs.declared.names.Thread.{Thread}
use Rattle.joint_machine.specs.declared.names.Thread.TheVariants.{C}
use Rattle.joint_machine.specs.declared.names.PhaseWord.TheVariants.{Cycle}
use Rattle.joint_machine.specs.declared.lines.Act.{Act}
use Rattle.joint_machine.specs.declared.lines.Act.TheVariants.{PhaseLine}
use Rattle.script_generator.specs.Families.{family_of}

-- the shape of family i: the shapes come in turn, from that of the seed on
abbrev pub shape_of : ℕ → ℕ → ℕ
shape_of seed i = (seed + i) % 4

-- the thread of family i: the first four threads of its heap have the families in turn
abbrev pub thread_of : ℕ → ℕ
thread_of i = 1 + i % 4

-- the static of family i: the sixteen come in turn
abbrev pub static_of : ℕ → StaticNo
static_of i = record { 0 = i % 16 }

-- the lines of family i
abbrev pub family : ℕ → ℕ → List (Thread × Act)
family seed i = family_of (shape_of seed i) (thread_of i) (static_of i)

-- the line `c cycle`, after each hundredth family
abbrev pub cycle_after : ℕ → List (Thread × Act)
cycle_after i = if i % 100 == 99 then (C, PhaseLine Cycle) ∷ [] else []

-- the script of a seed with so many families
abbrev pub generated : ℕ → ℕ → List (Thread × Act)
generated seed zero = []
generated seed (suc i) = generated seed i ++ family seed i ++ cycle_after i
