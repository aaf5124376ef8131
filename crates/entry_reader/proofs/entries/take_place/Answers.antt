use Rattle.std.proofs.Common.{ℕ}
use Rattle.joint_machine.specs.declared.names.Thread.{Thread}
use Rattle.history_report.specs.Report.{place_text}
use Rattle.entry_reader.proofs.WholeLines.{IsPlace, place_taken}
use Rattle.entry_reader.proofs.Parts.{no_word}
use Rattle.entry_reader.proofs.entries.take_place.Goals as goal

pub returns-in_err-next : goal.returns-in_err-next
returns-in_err-next c = rw c.from_residual.ensures (no_word IsPlace (λ (p : Thread × ℕ). place_text p.0 p.1) c.args.words.now c.next.new.self c.in_err-next.ensures.0)

pub returns : goal.returns
returns c = place_taken c.args.words.now c.next.new.self c.in_ok-next.field-0.now c.read.result c.in_ok-next.ensures c.read.ensures
