use Rattle.std.proofs.Common.{arith}
use Rattle.report_reader.proofs.Reaching.{goes_more, line_takes}
use Rattle.report_reader.proofs.drafts.Draft.read_lines.Goals as goal

pub loop-self-preserved : goal.loop-self-preserved
loop-self-preserved c =
    let i = c.loop-self.invariant in
    let w = rw c.in-Some.is at c.in_ok-behind.ensures in
    let t = line_takes c.loop-self.self c.read_line.new.self c.loop-self.left.now c.in-Some.behind.now w in
    let a = t.0 in
    let b = t.1 in
    let f = i.few in
    let g = i.within in
    record {
      goes = goes_more c.args.self.now c.loop-self.self c.read_line.new.self c.args.bytes.now c.loop-self.left.now c.in-Some.behind.now i.goes w;
      few = omega (arith, a, b, f);
      within = omega (arith, b, g);
    }
