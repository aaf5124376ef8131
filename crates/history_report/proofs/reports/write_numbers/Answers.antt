use Rattle.std.proofs.Common.{◌≡◌, ◌∷◌, ◌++◌, take, drop, decimal, arith}
use Rattle.byte_streams.specs.Spaced.{after_spaces}
use Rattle.byte_streams.proofs.Passing.{passed_on}
use Rattle.byte_streams.proofs.Written.{BuffersText-none, BuffersText-put, BuffersText-room, Sends-no_room}
use Rattle.history_report.specs.Lists.{lettered, numbers_of, letter_of}
use Rattle.history_report.proofs.Written.{numbers_more, numbers_same, numbers_split}
use Rattle.history_report.proofs.reports.write_numbers.Goals as goal

pub loop-k-init : goal.loop-k-init
loop-k-init g c = record { so_far = BuffersText-none (g.K.Sink.held c.args.out.now) c.args.line.now.text; later = omega arith }

pub loop-k-preserved-in_default : goal.loop-k-preserved-in_default
loop-k-preserved-in_default g c =
    let xs = take 4294967296 (numbers_of c.args.h.now c.args.numbers) in
    record {
      so_far = rw (numbers_same xs c.args.span.first c.loop-k.k c.in_default.ensures) c.loop-k.invariant.so_far;
      later = c.loop-k.invariant.later;
    }

pub returns-in_err-make_room : goal.returns-in_err-make_room
returns-in_err-make_room g c =
    let letter = letter_of c.args.numbers in
    let ys = drop c.args.span.first (take 4294967296 (numbers_of c.args.h.now c.args.numbers)) in
    rw (passed_on c.from_residual.result c.in_err-make_room.field-0.0 c.from_residual.ensures.0 c.from_residual.ensures.1)
    (Sends-no_room (g.K.Sink.held c.args.out.now) (g.K.Sink.held c.loop-k.out) (g.K.Sink.held c.make_room.new.out) c.args.line.now.text c.loop-k.line.text c.make_room.new.self.text
    (g.K.Sink.faults c.args.out.now) (g.K.Sink.faults c.loop-k.out) (g.K.Sink.faults c.make_room.new.out) c.in_err-make_room.field-0.0
    (after_spaces (lettered letter (take c.loop-k.k ys))) (after_spaces (lettered letter (drop c.loop-k.k (take c.args.span.count ys)))) (after_spaces (lettered letter (take c.args.span.count ys)))
    (numbers_split letter ys c.loop-k.k c.args.span.count (omega arith)) c.loop-k.invariant.so_far c.loop-k.invariant.later c.in_err-make_room.ensures.sent)

pub loop-k-preserved : goal.loop-k-preserved
loop-k-preserved g c =
    let xs = take 4294967296 (numbers_of c.args.h.now c.args.numbers) in
    let letter = letter_of c.args.numbers in
    let before = after_spaces (lettered letter (take c.loop-k.k (drop c.args.span.first xs))) in
    let w = c.in_ok-make_room.ensures.sent in
    let o = c.make_room.new.self.text in
    let room = BuffersText-room (g.K.Sink.held c.args.out.now) (g.K.Sink.held c.loop-k.out)
    (g.K.Sink.held c.make_room.new.out) c.args.line.now.text c.loop-k.line.text o before c.loop-k.invariant.so_far w.whole in
    let piece : c.lettered.new.self.text ≡ o ++ 32 ∷ letter ∷ decimal c.in-Some.n = rw c.letter.ensures at c.lettered.ensures.added in
    record {
      so_far = rw (numbers_more letter xs c.args.span.first c.loop-k.k c.in-Some.n c.in-Some.ensures)
          (BuffersText-put (g.K.Sink.held c.args.out.now) (g.K.Sink.held c.make_room.new.out) c.args.line.now.text o c.lettered.new.self.text before (32 ∷ letter ∷ decimal c.in-Some.n) room piece);
      later = omega (arith, w.cause.later);
    }
