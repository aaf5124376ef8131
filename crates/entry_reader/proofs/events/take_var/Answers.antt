use Rattle.joint_machine.specs.Lines.{IsVar}
use Rattle.bridge_script.specs.Words.{var_text}
use Rattle.entry_reader.proofs.Parts.{no_word, one_word}
use Rattle.entry_reader.proofs.events.take_var.Goals as goal

pub returns-in_err-next : goal.returns-in_err-next
returns-in_err-next c = rw c.from_residual.ensures (no_word IsVar var_text c.args.words.now c.next.new.self c.in_err-next.ensures.0)

pub returns : goal.returns
returns c = one_word IsVar var_text c.args.words.now c.next.new.self c.in_ok-next.field-0.now c.var.result c.in_ok-next.ensures c.var.ensures
