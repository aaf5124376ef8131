use Rattle.std.proofs.Common.{◌+◌, ◌<◌, arith, length}
use Rattle.byte_streams.proofs.Bytes.{rest_of}
use Rattle.entry_reader.proofs.NumberParts.{no_point, place_made, place_parts}
use Rattle.entry_reader.proofs.numbers.place.Goals as goal

pub returns-then-dot-word : goal.returns-then-dot-word
returns-then-dot-word c = λ t n h l. no_point c.args.word.now t n c.first_place-dot.result c.if-dot-word.true c.first_place-dot.ensures.before

pub returns-in_err-caller : goal.returns-in_err-caller
returns-in_err-caller c = rw c.from_residual.ensures
    (λ t n h l e.
    let inner : c.first_place-dot.result < length c.args.word.now = omega arith in
    c.in_err-caller.ensures t h (place_parts c.args.word.now t n c.first_place-dot.result inner c.first_place-dot.ensures.before (c.first_place-dot.ensures.found inner) e).0)

pub returns-in_err-index : goal.returns-in_err-index
returns-in_err-index c = rw c.from_residual-in_err-index.ensures
    (λ t n h l e.
    let w = c.args.word.now in
    let d = c.first_place-dot.result in
    let inner : d < length w = omega arith in
    let none = rw (rest_of (d + 1) w) at c.in_err-index.ensures in
    none n l (place_parts w t n d inner c.first_place-dot.ensures.before (c.first_place-dot.ensures.found inner) e).1)

pub returns : goal.returns
returns c =
    let w = c.args.word.now in
    let d = c.first_place-dot.result in
    let inner : d < length w = omega arith in
    let rest = rw (rest_of (d + 1) w) at c.in_ok-index.ensures.1 in
    (c.in_ok-caller.ensures.0, c.in_ok-index.ensures.0, place_made w c.in_ok-caller.caller c.in_ok-index.index d inner (c.first_place-dot.ensures.found inner) c.in_ok-caller.ensures.1 rest)
