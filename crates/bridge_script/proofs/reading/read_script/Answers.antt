use Rattle.std.proofs.Common.{◌++◌, drop, take, arith, length-append}
use Rattle.std.proofs.lemmas.List.{length-take-le}
use Rattle.bridge_script.specs.Steps.{taken}
use Rattle.bridge_script.proofs.Pieces.{took_piece}
use Rattle.bridge_script.proofs.reading.read_script.Goals as goal

pub returns-in-Err-take-clause-err : goal.returns-in-Err-take-clause-err
returns-in-Err-take-clause-err g c =
    let i = c.loop-count.invariant in
    let buf = c.read.new.buf in
    let rest = drop c.min-room.result c.loop-count.buf in
    let text = taken c.loop-count.draft in
    let few = c.in-Ok.ensures.bound.0 in
    let piece = take c.in-Ok.n (buf ++ rest) in
    let read = took_piece (g.S.Source.left c.args.src.now) (g.S.Source.left c.loop-count.src) (g.S.Source.left c.read.new.self) text buf rest c.in-Ok.n few i.read c.in-Ok.ensures.bytes.0 in
    let long = length-take-le c.in-Ok.n (buf ++ rest) (omega (arith, few, length-append buf rest)) in
    c.refuse.ensures.none (g.S.Source.left c.args.src.now) (text ++ piece) (g.S.Source.faults c.args.src.now) read
    (omega (arith, length-append text piece, long, i.size)) (omega (arith, i.later, c.read.ensures.cause.later)) c.in-Err-take.ensures.err
