use Rattle.std.proofs.Common.{◌≤◌, decimal}
use Rattle.entry_reader.proofs.Parts.{no_word, one_word}
use Rattle.entry_reader.proofs.events.take_fields.Goals as goal

pub returns-in_err-next : goal.returns-in_err-next
returns-in_err-next c = rw c.from_residual.ensures (no_word (λ n. n ≤ 16) decimal c.args.words.now c.next.new.self c.in_err-next.ensures.0)

pub returns : goal.returns
returns c = one_word (λ n. n ≤ 16) decimal c.args.words.now c.next.new.self c.in_ok-next.field-0.now c.fields.result c.in_ok-next.ensures c.fields.ensures
