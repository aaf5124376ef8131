use Rattle.script_generator.proofs.EachLine.{is_script}
use Rattle.script_generator.proofs.scripts.generate.Goals as goal

pub of_lines-requires : goal.of_lines-requires
of_lines-requires c = rw c.in_ok-lines_of.ensures (is_script c.args.seed c.args.size c.requires)
