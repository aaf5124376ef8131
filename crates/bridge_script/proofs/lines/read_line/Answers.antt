use Rattle.std.proofs.Common.{◌∷◌, sym, ◌∙◌, ap}
use Rattle.bridge_script.specs.Words.{thread_text}
use Rattle.text_words.specs.Words.{words_of}
use Rattle.bridge_script.specs.Faults.{Reads}
use Rattle.bridge_script.proofs.Readings.{unknown_here, first_behind}
use Rattle.bridge_script.proofs.Fitting.{places_first, kind_first, line_asked}
use Rattle.bridge_script.proofs.lines.read_line.Goals as goal
use Rattle.bridge_script.proofs.lines.read_line.Goals.{After-read_operands}

pub returns-in_default-take_row : goal.returns-in_default-take_row
returns-in_default-take_row c = unknown_here (words_of c.args.text) c.in-Some.thread c.take_thread.new.words
    (sym c.of-words.ensures ∙ c.in-Some.ensures.1) c.in-Some.ensures.0 c.in_default-take_row.ensures

-- how the words of the text begin
begins : (c : After-read_operands) → Reads (words_of c.args.text) c.in-Some.thread c.in-Some-take_row.operation c.in-Some-take_row.places.now c.take_row.new.words
begins c =
    let row = c.in-Some-take_row.ensures in
    record { thread = c.in-Some.ensures.0; form = row.0; begins = sym c.of-words.ensures ∙ (c.in-Some.ensures.1 ∙ ap (λ ws. thread_text c.in-Some.thread ∷ ws) row.1) }

pub returns-in-Err : goal.returns-in-Err
returns-in-Err c =
    let o = c.in-Some-take_row.operation in
    let places = c.in-Some-take_row.places.now in
    let rest = c.take_row.new.words in
    first_behind (words_of c.args.text) c.in-Some.thread o places rest
    (begins (goal.at.returns-in-Err c).After-read_operands) c.in-Err.cause (places_first o places rest c.in-Err.cause c.in-Err.ensures)

pub returns-in-None : goal.returns-in-None
returns-in-None c =
    let o = c.in-Some-take_row.operation in
    let places = c.in-Some-take_row.places.now in
    let rest = c.take_row.new.words in
    let found = c.in-Ok.ensures in
    let none = rw c.as_slice.ensures at c.in-None.ensures in
    first_behind (words_of c.args.text) c.in-Some.thread o places rest (begins (goal.at.returns-in-None c).After-read_operands) _
    (kind_first c.in-Some.thread o places c.in-Ok.operands rest c.in-Some-take_row.ensures.0 found.0 found.1 none)

pub returns-in-Some-possible_act : goal.returns-in-Some-possible_act
returns-in-Some-possible_act c =
    let o = c.in-Some-take_row.operation in
    let found = c.in-Ok.ensures in
    let made = rw c.as_slice.ensures at c.in-Some-possible_act.ensures in
    line_asked c.args.text c.in-Some.thread o c.in-Some-take_row.places.now c.take_row.new.words c.in-Ok.operands c.in-Some-possible_act.act
    (begins (goal.at.returns-in-Some-possible_act c).After-read_operands) found.0 found.1 made.0 made.1
