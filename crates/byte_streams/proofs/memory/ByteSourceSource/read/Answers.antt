use Rattle.byte_streams.proofs.Bytes.{given}
use Rattle.byte_streams.proofs.memory.ByteSourceSource.read.Goals as goal

pub returns-clause-bytes : goal.returns-clause-bytes
returns-clause-bytes c =
    let here = rw c.deref-2.ensures.value at c.copy_front-count.ensures in
    rw (← c.self.view_is) (given c.copy_front-count.result c.self.inside.at c.self.inside.bytes.items c.args.buf.now c.copy_front-count.new.buf here.count here.copied c.copy_front-count.auto.buf)
