use Rattle.entry_reader.proofs.Steps.{handle_none, handle_some}
use Rattle.entry_reader.proofs.events.take_of_handle.Goals as goal

pub returns-in_err-h : goal.returns-in_err-h
returns-in_err-h c = rw c.from_residual.ensures (handle_none c.args.word c.args.words.now c.take_handle.new.words c.requires c.in_err-h.ensures)

pub returns : goal.returns
returns c = rw c.with_handle.ensures (handle_some c.args.word c.in_ok-h.h c.args.words.now c.take_handle.new.words c.requires c.in_ok-h.ensures)
