use Rattle.entry_reader.proofs.EventParts.{step_empty, step_none, step_open, step_taken, step_unread}
use Rattle.entry_reader.proofs.events.take_step.Goals as goal

pub returns-in_err-next : goal.returns-in_err-next
returns-in_err-next c = rw c.from_residual.ensures (step_empty c.args.words.now c.next.new.self c.in_err-next.ensures.0)

pub returns-in_err-word : goal.returns-in_err-word
returns-in_err-word c = rw c.from_residual-in_err-word.ensures (step_unread c.args.words.now c.next.new.self c.in_ok-next.field-0.now c.in_ok-next.ensures c.in_err-word.ensures)

pub returns-in_err-op : goal.returns-in_err-op
returns-in_err-op c = rw c.from_residual-in_err-op.ensures (step_none c.args.words.now c.next.new.self c.event_of.new.words
    c.in_ok-next.field-0.now c.in_ok-word.word c.in_ok-next.ensures c.in_ok-word.ensures c.in_err-op.ensures)

pub returns-in_err-take_equals : goal.returns-in_err-take_equals
returns-in_err-take_equals c = rw c.from_residual-in_err-take_equals.ensures
    (step_open c.args.words.now c.next.new.self c.event_of.new.words c.take_equals.new.words c.in_ok-next.field-0.now
    c.in_ok-word.word c.in_ok-op.op c.in_ok-next.ensures c.in_ok-word.ensures c.in_ok-op.ensures c.in_err-take_equals.ensures)

pub returns : goal.returns
returns c = step_taken c.args.words.now c.next.new.self c.event_of.new.words c.take_equals.new.words c.in_ok-next.field-0.now
    c.in_ok-word.word c.in_ok-op.op c.in_ok-next.ensures c.in_ok-word.ensures c.in_ok-op.ensures c.in_ok-take_equals.ensures
