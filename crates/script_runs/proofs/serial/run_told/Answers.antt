use Rattle.std.proofs.lemmas.Result.{on_ok_weaker}
use Rattle.script_runs.specs.Running.{AnswersLine}
use Rattle.script_runs.proofs.Told.{tells_line}
use Rattle.script_runs.proofs.serial.run_told.Goals as goal

pub returns-clause-ok : goal.returns-clause-ok
returns-clause-ok g c = on_ok_weaker c.run_line_alone-made.result
    (λ (k : AnswersLine c.tell.new.to.thread c.tell.new.to.view c.run_line_alone-made.new.caller.view c.args.index c.args.act.now).
    tells_line c.args.driver.now c.tell.new.self c.hear.new.self c.args.caller.now c.tell.new.to c.run_line_alone-made.new.caller c.hear.new.from c.args.index c.args.act.now
    c.tell.ensures.tells c.tell.ensures.to c.tell.ensures.same c.run_line_alone-made.ensures.thread k
    c.recall_facts.ensures.knows.known c.recall_facts-2.ensures.knows.known c.hear.ensures.from c.hear.ensures.hears c.hear.ensures.same) c.run_line_alone-made.ensures.ok
