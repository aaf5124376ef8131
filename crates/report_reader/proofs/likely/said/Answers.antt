use Rattle.report_reader.proofs.LikelyLines.{reads_restored, reads_weakened}
use Rattle.report_reader.proofs.likely.said.Goals as goal

pub returns-in-Some : goal.returns-in-Some
returns-in-Some c = λ whole p.
    rw c.driven-entry.ensures (reads_weakened whole c.args.bytes.now c.in-Some.left.now c.args.number c.args.index c.in-Some.h c.in-Some.cited p c.in-Some.ensures)

pub returns : goal.returns
returns c = λ whole p.
    rw c.driven-entry-2.ensures (reads_restored whole c.args.bytes.now c.in_ok-h.left.now c.args.number c.args.index c.in_ok-h.h c.in_ok-h.given p c.in_ok-h.ensures)
