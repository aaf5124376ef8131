use Rattle.std.proofs.Common.{arith}
use Rattle.entry_reader.proofs.NumberParts.{other_number}
use Rattle.entry_reader.proofs.events.fields.Goals as goal

pub returns-else-n-le16 : goal.returns-else-n-le16
returns-else-n-le16 c = λ n l. other_number c.in_ok-n.n n c.args.word.now c.in_ok-n.ensures.0 c.in_ok-n.ensures.1 (omega (arith, l)) (λ e. omega (arith, l, e))
