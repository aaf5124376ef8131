use Rattle.run_laws.proofs.ByThreads.{others_lines_pass, own_lines_add, own_lines_end, threads_hold_script}
use Rattle.run_laws.proofs.Waits.{callers_waits_end, more_waits_end, operations_waits_end}
use Rattle.run_laws.proofs.laws.threads_hold_scripts.Goals as goal

pub returns : goal.returns
returns c = record {
  pass = others_lines_pass;
  add = own_lines_add;
  end = own_lines_end;
  hold = threads_hold_script;
  more = more_waits_end;
  operation = operations_waits_end;
  waits = callers_waits_end;
}
