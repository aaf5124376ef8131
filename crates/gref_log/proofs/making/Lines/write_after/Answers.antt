use Rattle.byte_streams.proofs.Written.{Sends-after}
use Rattle.log_text.specs.Text.{lines_text}
use Rattle.gref_log.specs.Tracking.{made_lines}
use Rattle.gref_log.proofs.making.Lines.write_after.Goals as goal

pub returns : goal.returns
returns g c = λ held pending text faults s. (let v = rw c.in_ok-before.was at s in
    Sends-after held (g.K.Sink.held c.args.out.now) (g.K.Sink.held c.write.new.out) pending c.args.line.now.text c.write.new.line.text faults
    (g.K.Sink.faults c.args.out.now) (g.K.Sink.faults c.write.new.out) c.write.result
    text (lines_text (made_lines c.args.self.now)) v.whole v.cause.later c.write.ensures)
