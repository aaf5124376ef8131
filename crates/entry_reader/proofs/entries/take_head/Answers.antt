use Rattle.entry_reader.proofs.WholeLines.{head_eventless, head_taken, head_uncounted, head_unplaced}
use Rattle.entry_reader.proofs.entries.take_head.Goals as goal

pub returns-in_err-take_count : goal.returns-in_err-take_count
returns-in_err-take_count c = rw c.from_residual.ensures (head_uncounted c.args.count c.args.words.now c.take_count.new.words c.in_err-take_count.ensures)

pub returns-in_err-caller : goal.returns-in_err-caller
returns-in_err-caller c = rw c.from_residual-in_err-caller.ensures
    (head_unplaced c.args.count c.args.words.now c.take_count.new.words c.take_place.new.words c.in_ok-take_count.ensures c.in_err-caller.ensures)

pub returns-in_err-op : goal.returns-in_err-op
returns-in_err-op c = rw c.from_residual-in_err-op.ensures (head_eventless c.args.count c.args.words.now c.take_count.new.words c.take_place.new.words c.take_event.new.words
    (c.in_ok-caller.caller, c.in_ok-caller.index) c.in_ok-take_count.ensures c.in_ok-caller.ensures c.in_err-op.ensures)

pub returns : goal.returns
returns c = head_taken c.args.count c.args.words.now c.take_count.new.words c.take_place.new.words c.take_event.new.words
    (c.in_ok-caller.caller, c.in_ok-caller.index) c.in_ok-op.op c.in_ok-take_count.ensures c.in_ok-caller.ensures c.in_ok-op.ensures
