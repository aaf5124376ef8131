use Rattle.bridge_script.proofs.LineWords.{lawful_in_script}
use Rattle.std.proofs.Common.{◌-◌, arith}
use Rattle.bridge_script.proofs.Texts.{line_at_from}
use Rattle.bridge_script.proofs.scripts.Script.line.Goals as goal

pub returns-clause-line : goal.returns-clause-line
returns-clause-line c = rw (line_at_from c.args.self.now c.args.i (omega arith)) (rw (← c.self.view_is, ← c.deref.ensures.value) c.place_of.ensures)

pub returns-clause-lawful : goal.returns-clause-lawful
returns-clause-lawful c = rw (c.place_of.ensures, c.deref.ensures.value) (lawful_in_script c.self.inside.lines.items (c.args.i - 1) c.self.invariant.0.each)
