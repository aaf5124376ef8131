use Rattle.bridge_script.specs.Words.{line_text}
use Rattle.bridge_script.specs.Scripts.{script_text_of, end_of}
use Rattle.bridge_script.proofs.Texts.{one_script, no_text, one_more, none_in_script}
use Rattle.bridge_script.proofs.Printed.{full_text}
use Rattle.bridge_script.proofs.OneFault.{one_fault}
use Rattle.bridge_script.proofs.laws.texts_tell_scripts.Goals as goal

pub returns : goal.returns
returns c = record {
  one_script = one_script;
  full_text = full_text;
  one_more = one_more;
  fault = no_text;
  one_fault = one_fault;
  no_cause = λ bytes before next s l. none_in_script before next (end_of bytes (script_text_of before) (line_text next)) s l;
}
