-- The commands on a log and on a report are none of the others, and read no script.
use Rattle.std.proofs.Common.{◌≡◌, ℕ}
use Rattle.command_words.specs.declared.commands.Command.{Command}
use Rattle.command_words.specs.declared.commands.Command.TheVariants as command
use Rattle.command_words.specs.declared.commands.Mode.{Mode}
use Rattle.bridge_program.specs.Top.{TakesScript}

pub run_no_leaks : (m : Mode) → command.Run m ≡ command.Leaks → ⊥
run_no_leaks m e = cc

pub compare_no_leaks : command.Compare ≡ command.Leaks → ⊥
compare_no_leaks e = cc

pub references_no_leaks : command.References ≡ command.Leaks → ⊥
references_no_leaks e = cc

pub check_no_leaks : command.Check ≡ command.Leaks → ⊥
check_no_leaks e = cc

pub generate_no_leaks : (seed size : ℕ) (m : Mode) → command.Generate seed size m ≡ command.Leaks → ⊥
generate_no_leaks seed size m e = cc

pub run_no_check : (m : Mode) → command.Run m ≡ command.Check → ⊥
run_no_check m e = cc

pub compare_no_check : command.Compare ≡ command.Check → ⊥
compare_no_check e = cc

pub references_no_check : command.References ≡ command.Check → ⊥
references_no_check e = cc

pub leaks_no_check : command.Leaks ≡ command.Check → ⊥
leaks_no_check e = cc

pub generate_no_check : (seed size : ℕ) (m : Mode) → command.Generate seed size m ≡ command.Check → ⊥
generate_no_check seed size m e = cc

pub leaks_no_script : (c : Command) → command.Leaks ≡ c → TakesScript c → ⊥
leaks_no_script (command.Run n) e t = absurd (let f : ⊥ = cc in f)
leaks_no_script command.Compare e t = absurd (let f : ⊥ = cc in f)
leaks_no_script command.References e t = absurd (let f : ⊥ = cc in f)
leaks_no_script command.Leaks e t = t
leaks_no_script command.Check e t = t
leaks_no_script (command.Generate s z n) e t = t

pub check_no_script : (c : Command) → command.Check ≡ c → TakesScript c → ⊥
check_no_script (command.Run n) e t = absurd (let f : ⊥ = cc in f)
check_no_script command.Compare e t = absurd (let f : ⊥ = cc in f)
check_no_script command.References e t = absurd (let f : ⊥ = cc in f)
check_no_script command.Leaks e t = t
check_no_script command.Check e t = t
check_no_script (command.Generate s z n) e t = t

pub generate_no_script : (seed size : ℕ) (m : Mode) → (c : Command) → command.Generate seed size m ≡ c → TakesScript c → ⊥
generate_no_script seed size m (command.Run n) e t = absurd (let f : ⊥ = cc in f)
generate_no_script seed size m command.Compare e t = absurd (let f : ⊥ = cc in f)
generate_no_script seed size m command.References e t = absurd (let f : ⊥ = cc in f)
generate_no_script seed size m command.Leaks e t = t
generate_no_script seed size m command.Check e t = t
generate_no_script seed size m (command.Generate s z n) e t = t
