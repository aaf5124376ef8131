use Rattle.std.proofs.Common.{arith}
use Rattle.entry_reader.proofs.NumberParts.{other_number}
use Rattle.entry_reader.proofs.replies.byte.Goals as goal

pub returns-else-n-le255 : goal.returns-else-n-le255
returns-else-n-le255 c = λ n l. other_number c.in_ok-n.n n c.args.word.now c.in_ok-n.ensures.0 c.in_ok-n.ensures.1 (omega (arith, l)) (λ e. omega (arith, l, e))
