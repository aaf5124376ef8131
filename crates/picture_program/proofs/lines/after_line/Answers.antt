use Rattle.std.proofs.Common.{◌+◌, ◌∙◌, arith}
use Rattle.byte_streams.proofs.Bytes.{rest_of}
use Rattle.picture_program.proofs.Cut.{after_cut, none_after}
use Rattle.picture_program.proofs.lines.after_line.Goals as goal

pub returns-then-end-bytes : goal.returns-then-end-bytes
returns-then-end-bytes c =
    rest_of (c.first_place_far-end.result + 1) c.args.bytes.now
    ∙ after_cut c.args.bytes.now c.first_place_far-end.result record {
      within = c.first_place_far-end.ensures.within;
      before = c.first_place_far-end.ensures.before;
      found = c.first_place_far-end.ensures.found;
    } c.if-end-bytes.true

pub returns : goal.returns
returns c = none_after c.args.bytes.now c.first_place_far-end.result
    record { within = c.first_place_far-end.ensures.within; before = c.first_place_far-end.ensures.before; found = c.first_place_far-end.ensures.found }
    (omega (arith, c.first_place_far-end.ensures.within, c.if-end-bytes.false))
