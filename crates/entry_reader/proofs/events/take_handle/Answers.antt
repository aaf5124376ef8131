use Rattle.joint_machine.specs.declared.names.HNum.{HNum}
use Rattle.history_report.specs.Report.{handle_text}
use Rattle.entry_reader.specs.Fitting.{Short}
use Rattle.entry_reader.proofs.Parts.{no_word, one_word}
use Rattle.entry_reader.proofs.events.take_handle.Goals as goal

pub returns-in_err-next : goal.returns-in_err-next
returns-in_err-next c = rw c.from_residual.ensures (no_word (λ (h : HNum). Short h.0) handle_text c.args.words.now c.next.new.self c.in_err-next.ensures.0)

pub returns : goal.returns
returns c = one_word (λ (h : HNum). Short h.0) handle_text c.args.words.now c.next.new.self c.in_ok-next.field-0.now c.handle.result c.in_ok-next.ensures c.handle.ensures
