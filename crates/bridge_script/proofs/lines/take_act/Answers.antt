use Rattle.joint_machine.proofs.Deciding.{some-same}
use Rattle.bridge_script.proofs.Taking.{lines_all, lines_only, no_row, row_of}
use Rattle.bridge_script.proofs.lines.take_act.Goals as goal

pub returns-in_err-operation-clause-complete : goal.returns-in_err-operation-clause-complete
returns-in_err-operation-clause-complete c = λ a rest l e. absurd (no_row c.args.thread a c.args.words.now rest c.in_err-operation.ensures l e)

pub returns-in_err-operands-clause-complete : goal.returns-in_err-operands-clause-complete
returns-in_err-operands-clause-complete c = λ a rest l e.
    let r = row_of c.args.thread a c.in_ok-operation.operation c.in_ok-operation.places.now c.args.words.now c.take_row.new.words rest c.in_ok-operation.ensures.0 c.in_ok-operation.ensures.1 l e in
    absurd (let h = (c.in_err-operands.ensures.complete r.operands rest r.stand r.words).0 in cc)

pub returns-clause-sound : goal.returns-clause-sound
returns-clause-sound c =
    let row = c.in_ok-operation.ensures in
    let took = c.in_ok-operands.ensures.sound in
    let made = rw c.as_slice.ensures at c.possible_act.ensures in
    lines_only c.args.thread c.in_ok-operation.operation c.in_ok-operation.places.now c.in_ok-operands.operands c.args.words.now
    c.take_row.new.words c.take_operands.new.words c.possible_act.result c.requires row.0 took.0 row.1 took.1 made

pub returns-clause-complete : goal.returns-clause-complete
returns-clause-complete c = λ a rest l e.
    let o = c.in_ok-operation.operation in
    let ps = c.in_ok-operation.places.now in
    let r = row_of c.args.thread a o ps c.args.words.now c.take_row.new.words rest c.in_ok-operation.ensures.0 c.in_ok-operation.ensures.1 l e in
    let h = c.in_ok-operands.ensures.complete r.operands rest r.stand r.words in
    let made = rw c.as_slice.ensures at c.possible_act.ensures in
    (lines_all c.args.thread o ps c.in_ok-operands.operands c.take_row.new.words rest a c.possible_act.result r (some-same c.in_ok-operands.operands r.operands h.0) made, h.1)
