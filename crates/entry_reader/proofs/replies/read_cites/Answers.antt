use Rattle.entry_reader.proofs.ReplyParts.{more_behind, no_citation}
use Rattle.entry_reader.proofs.replies.read_cites.Goals as goal

pub returns-in_err-n : goal.returns-in_err-n
returns-in_err-n c = rw c.from_residual.ensures (no_citation c.args.words.now c.next.new.self c.in-Some.word.now c.in-Some.ensures c.in_err-n.ensures)

pub returns-else-is_empty : goal.returns-else-is_empty
returns-else-is_empty c = more_behind c.args.words.now c.next.new.self c.in-Some.word.now c.in-Some.ensures c.if-is_empty.ensures
