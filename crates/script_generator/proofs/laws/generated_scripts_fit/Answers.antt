use Rattle.script_generator.proofs.Counts.{generated_length, generated_cycles, of_known}
use Rattle.script_generator.proofs.EachLine.{is_script}
use Rattle.script_generator.proofs.laws.generated_scripts_fit.Goals as goal

pub returns-clause-lines : goal.returns-clause-lines
returns-clause-lines c = generated_length

pub returns-clause-cycles : goal.returns-clause-cycles
returns-clause-cycles c = generated_cycles

pub returns-clause-known : goal.returns-clause-known
returns-clause-known c = record {
  four = λ seed. of_known seed 1;
  two_thousand = λ seed. of_known seed 500;
  most = λ seed. of_known seed 700;
}

pub returns-clause-scripts : goal.returns-clause-scripts
returns-clause-scripts c = is_script
