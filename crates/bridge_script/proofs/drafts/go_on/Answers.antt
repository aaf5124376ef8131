use Rattle.bridge_script.proofs.Pieces.{gained, stopped}
use Rattle.bridge_script.proofs.drafts.go_on.Goals as goal

pub returns-clause-text : goal.returns-clause-text
returns-clause-text c = gained c.args.script.now c.grow.new.self c.args.text c.args.end c.grow.result (c.grow.ensures.read c.args.text c.read-read.ensures)

pub returns-clause-err : goal.returns-clause-err
returns-clause-err c =
    stopped c.args.script.now c.grow.new.self c.args.text c.args.end c.grow.result c.requires.free c.grow.ensures.lawful c.requires.size c.requires.end
    (c.grow.ensures.read c.args.text c.read-read.ensures)
