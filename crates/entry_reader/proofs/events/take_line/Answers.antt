use Rattle.entry_reader.proofs.EventParts.{line_more, line_none, line_open, line_taken}
use Rattle.entry_reader.proofs.events.take_line.Goals as goal

pub returns-in_err-act : goal.returns-in_err-act
returns-in_err-act c = rw c.from_residual.ensures (line_none c.args.thread c.args.words.now c.take_act.new.words c.in_err-act.ensures.complete)

pub returns-then-not-is_one_event : goal.returns-then-not-is_one_event
returns-then-not-is_one_event c = line_more c.args.thread c.args.words.now c.take_act.new.words c.in_ok-act.act c.in_ok-act.ensures.complete c.if-not-is_one_event.ensures

pub returns-in_err-take_equals : goal.returns-in_err-take_equals
returns-in_err-take_equals c = rw c.from_residual-in_err-take_equals.ensures
    (line_open c.args.thread c.args.words.now c.take_act.new.words c.take_equals.new.words c.in_ok-act.act c.in_ok-act.ensures.complete c.in_err-take_equals.ensures)

pub returns : goal.returns
returns c = line_taken c.args.thread c.args.words.now c.take_act.new.words c.take_equals.new.words c.in_ok-act.act
    c.in_ok-act.ensures.complete c.in_ok-act.ensures.sound.0 c.in_ok-act.ensures.sound.1 c.if-not-is_one_event.ensures c.in_ok-take_equals.ensures
