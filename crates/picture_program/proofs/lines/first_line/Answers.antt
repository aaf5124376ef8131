use Rattle.picture_program.proofs.Cut.{first_cut}
use Rattle.picture_program.proofs.lines.first_line.Goals as goal

pub returns : goal.returns
returns c = first_cut c.args.bytes.now c.first_place_far-end.result
    record { within = c.first_place_far-end.ensures.within; before = c.first_place_far-end.ensures.before; found = c.first_place_far-end.ensures.found }
