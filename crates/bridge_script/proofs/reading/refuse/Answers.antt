use Rattle.std.proofs.Common.{arith}
use Rattle.bridge_script.proofs.Pieces.{none_beyond, none_further}
use Rattle.bridge_script.proofs.reading.refuse.Goals as goal

pub returns-then-count-gt-MOST_BYTES-clause-none : goal.returns-then-count-gt-MOST_BYTES-clause-none
returns-then-count-gt-MOST_BYTES-clause-none g c left input before taken size later h =
    none_beyond left (g.S.Source.left c.args.src.now) before (g.S.Source.faults c.args.src.now) c.args.count input c.args.error
    (omega arith) (omega arith) taken size h

pub returns-in-Ok-clause-none : goal.returns-in-Ok-clause-none
returns-in-Ok-clause-none g c left input before taken size later h =
    none_further left (g.S.Source.left c.args.src.now) (g.S.Source.left c.read_up_to.new.src) before (g.S.Source.faults c.read_up_to.new.src)
    c.args.count input c.in-Ok.field-0.items c.args.error (omega arith) taken size c.in-Ok.ensures.ok h
