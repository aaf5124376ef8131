use Rattle.std.proofs.Common.{◌+◌, ◌<◌, ◌≤◌, drop, arith, length-take}
use Rattle.limited_reports.proofs.Holding.{few_held, piece_size, taken_piece}
use Rattle.limited_reports.proofs.pieces.take_pieces.Goals as goal

pub take_piece-requires : goal.take_piece-requires
take_piece-requires g c =
    let i = c.loop-count.invariant in
    let size = piece_size c.read.new.buf (drop c.min-room.result c.loop-count.buf) c.in-Ok.n c.in-Ok.ensures.bound.0 c.in-Ok.ensures.bound.1 in
    let held = few_held c.args.most (g.S.Source.left c.args.src.now) (g.S.Source.left c.loop-count.src) c.loop-count.draft c.loop-count.held.items c.loop-count.count i.taken in
    let most : c.args.most < 4294967294 = c.requires.few in
    let few = c.in-Ok.ensures.bound.0 in
    let room = c.min-room.ensures in
    let given = c.read.auto.buf in
    let part = length-take c.min-room.result c.loop-count.buf in
    omega (arith, size, held, most, few, room, given, part)

pub loop-count-preserved : goal.loop-count-preserved
loop-count-preserved g c =
    let i = c.loop-count.invariant in
    let few = c.in-Ok.ensures.bound.0 in
    let room = c.min-room.ensures in
    let given = c.read.auto.buf in
    let part = length-take c.min-room.result c.loop-count.buf in
    let within : c.loop-count.count + c.in-Ok.n ≤ c.args.most = omega (arith, few, room, given, part) in
    let before = i.later in
    let later = c.read.ensures.cause.later in
    record {
      taken = taken_piece c.args.most (g.S.Source.left c.args.src.now) (g.S.Source.left c.loop-count.src) (g.S.Source.left c.read.new.self)
          c.loop-count.draft c.take_piece.new.draft c.loop-count.held.items c.read.new.buf (drop c.min-room.result c.loop-count.buf) c.take_piece.new.held.items
          c.in-Ok.n c.loop-count.count few c.in-Ok.ensures.bound.1 i.taken c.in-Ok.ensures.bytes.0 c.in_ok-reads-in-Ok.ensures within;
      within = within;
      later = omega (arith, before, later);
    }
