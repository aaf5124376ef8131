use Rattle.std.proofs.Common.{[], ◌∷◌, take, arith}
use Rattle.byte_streams.proofs.Written.{BuffersText-none, Sends-put}
use Rattle.history_report.specs.Lists.{numbers_of, letter_of}
use Rattle.history_report.proofs.Written.{listed_some, listed_none, listed_empty}
use Rattle.history_report.proofs.reports.write_list.Goals as goal

pub returns-then-span-eq0 : goal.returns-then-span-eq0
returns-then-span-eq0 g c =
    let xs = take 4294967296 (numbers_of c.args.h.now c.args.numbers) in
    rw (listed_empty (letter_of c.args.numbers) xs c.args.span.first c.args.span.count c.if-span-eq0.true)
    (Sends-put (g.K.Sink.held c.args.out.now) (g.K.Sink.held c.args.out.now) c.args.line.now.text c.args.line.now.text c.word.new.self.text
    (g.K.Sink.faults c.args.out.now) (g.K.Sink.faults c.args.out.now) _ [] (32 ∷ 45 ∷ [])
    (BuffersText-none (g.K.Sink.held c.args.out.now) c.args.line.now.text) (omega arith) c.word.ensures.added)

pub returns-in-Some : goal.returns-in-Some
returns-in-Some g c =
    let xs = take 4294967296 (numbers_of c.args.h.now c.args.numbers) in
    rw (listed_some (letter_of c.args.numbers) xs c.args.span.first c.args.span.count c.in-Some.field-0 c.if-span-eq0.false c.in-Some.ensures) c.write_numbers.ensures

pub returns-in-None : goal.returns-in-None
returns-in-None g c =
    let xs = take 4294967296 (numbers_of c.args.h.now c.args.numbers) in
    rw (listed_none (letter_of c.args.numbers) xs c.args.span.first c.args.span.count c.in-None.ensures)
    (Sends-put (g.K.Sink.held c.args.out.now) (g.K.Sink.held c.args.out.now) c.args.line.now.text c.args.line.now.text c.word-in-None.new.self.text
    (g.K.Sink.faults c.args.out.now) (g.K.Sink.faults c.args.out.now) _ [] (32 ∷ 45 ∷ [])
    (BuffersText-none (g.K.Sink.held c.args.out.now) c.args.line.now.text) (omega arith) c.word-in-None.ensures.added)
