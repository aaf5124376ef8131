use Rattle.std.proofs.Common.{◌++◌, codes}
use Rattle.byte_streams.proofs.Passing.{passed_on}
use Rattle.byte_streams.proofs.Written.{Sends-after, Sends-short}
use Rattle.log_text.specs.Answers.{list_text}
use Rattle.log_text.proofs.answers.write_both.Goals as goal

pub returns-in_err-write_strength : goal.returns-in_err-write_strength
returns-in_err-write_strength g c =
    let x = codes "strong" ++ list_text c.args.left.now.strong.items in
    let y = codes "\nweak" ++ list_text c.args.left.now.weak.items in
    rw (passed_on c.from_residual.result c.in_err-write_strength.field-0.0 c.from_residual.ensures.0 c.from_residual.ensures.1)
    (Sends-short (g.K.Sink.held c.args.out.now) (g.K.Sink.held c.write_strength.new.out) c.args.line.now.text c.write_strength.new.line.text (g.K.Sink.faults c.args.out.now)
    (g.K.Sink.faults c.write_strength.new.out) c.in_err-write_strength.field-0.0 x (y ++ codes "\n") (rw c.deref.ensures.value at c.in_err-write_strength.ensures))

pub returns-in_err-write_strength-2 : goal.returns-in_err-write_strength-2
returns-in_err-write_strength-2 g c =
    let x = codes "strong" ++ list_text c.args.left.now.strong.items in
    let y = codes "\nweak" ++ list_text c.args.left.now.weak.items in
    let w = rw c.deref.ensures.value at c.in_ok-write_strength.ensures in
    rw (passed_on c.from_residual-in_err-write_strength-2.result c.in_err-write_strength-2.field-0.0
    c.from_residual-in_err-write_strength-2.ensures.0 c.from_residual-in_err-write_strength-2.ensures.1)
    (Sends-after (g.K.Sink.held c.args.out.now) (g.K.Sink.held c.write_strength.new.out) (g.K.Sink.held c.write_strength-2.new.out) c.args.line.now.text c.write_strength.new.line.text
    c.write_strength-2.new.line.text (g.K.Sink.faults c.args.out.now) (g.K.Sink.faults c.write_strength.new.out)
    (g.K.Sink.faults c.write_strength-2.new.out) _ x (y ++ codes "\n") w.whole w.cause.later
    (Sends-short (g.K.Sink.held c.write_strength.new.out) (g.K.Sink.held c.write_strength-2.new.out) c.write_strength.new.line.text c.write_strength-2.new.line.text
    (g.K.Sink.faults c.write_strength.new.out) (g.K.Sink.faults c.write_strength-2.new.out) c.in_err-write_strength-2.field-0.0 y
    (codes "\n") (rw c.deref-2.ensures.value at c.in_err-write_strength-2.ensures)))

pub returns : goal.returns
returns g c =
    let x = codes "strong" ++ list_text c.args.left.now.strong.items in
    let y = codes "\nweak" ++ list_text c.args.left.now.weak.items in
    let w = rw c.deref.ensures.value at c.in_ok-write_strength.ensures in
    let v = rw c.deref-2.ensures.value at c.in_ok-write_strength-2.ensures in
    Sends-after (g.K.Sink.held c.args.out.now) (g.K.Sink.held c.write_strength.new.out) (g.K.Sink.held c.write_piece.new.out) c.args.line.now.text c.write_strength.new.line.text
    c.write_piece.new.line.text (g.K.Sink.faults c.args.out.now) (g.K.Sink.faults c.write_strength.new.out)
    (g.K.Sink.faults c.write_piece.new.out) c.write_piece.result x (y ++ codes "\n") w.whole w.cause.later
    (Sends-after (g.K.Sink.held c.write_strength.new.out) (g.K.Sink.held c.write_strength-2.new.out)
    (g.K.Sink.held c.write_piece.new.out) c.write_strength.new.line.text c.write_strength-2.new.line.text c.write_piece.new.line.text (g.K.Sink.faults c.write_strength.new.out)
    (g.K.Sink.faults c.write_strength-2.new.out) (g.K.Sink.faults c.write_piece.new.out) c.write_piece.result y (codes "\n") v.whole v.cause.later c.write_piece.ensures)
