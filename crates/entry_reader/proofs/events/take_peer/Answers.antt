use Rattle.joint_machine.specs.declared.names.PNum.{PNum}
use Rattle.history_report.specs.Report.{peer_text}
use Rattle.entry_reader.specs.Fitting.{Short}
use Rattle.entry_reader.proofs.Parts.{no_word, one_word}
use Rattle.entry_reader.proofs.events.take_peer.Goals as goal

pub returns-in_err-next : goal.returns-in_err-next
returns-in_err-next c = rw c.from_residual.ensures (no_word (λ (p : PNum). Short p.0) peer_text c.args.words.now c.next.new.self c.in_err-next.ensures.0)

pub returns : goal.returns
returns c = one_word (λ (p : PNum). Short p.0) peer_text c.args.words.now c.next.new.self c.in_ok-next.field-0.now c.peer.result c.in_ok-next.ensures c.peer.ensures
