use Rattle.bridge_script.specs.Words.{phase_word_text}
use Rattle.entry_reader.proofs.Parts.{no_plain_word, one_plain_word}
use Rattle.entry_reader.proofs.events.take_phase_word.Goals as goal

pub returns-in_err-next : goal.returns-in_err-next
returns-in_err-next c = rw c.from_residual.ensures (no_plain_word phase_word_text c.args.words.now c.next.new.self c.in_err-next.ensures.0)

pub returns : goal.returns
returns c = one_plain_word phase_word_text c.args.words.now c.next.new.self c.in_ok-next.field-0.now c.phase_word.result c.in_ok-next.ensures c.phase_word.ensures
