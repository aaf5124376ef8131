use Rattle.std.proofs.Common.{arith}
use Rattle.entry_reader.proofs.NumberParts.{other_number}
use Rattle.entry_reader.proofs.numbers.short.Goals as goal

pub returns-else-n-lt-SHORT : goal.returns-else-n-lt-SHORT
returns-else-n-lt-SHORT c = λ n l. other_number c.in_ok-n.n n c.args.word.now c.in_ok-n.ensures.0 c.in_ok-n.ensures.1 (omega (arith, l)) (λ e. omega (arith, l, e))
