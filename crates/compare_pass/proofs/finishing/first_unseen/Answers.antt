use Rattle.std.proofs.Common.{arith}
use Rattle.compare_pass.proofs.finishing.first_unseen.Goals as goal

pub loop-next-init : goal.loop-next-init
loop-next-init c = record { later = omega arith; seen = λ k a b l. absurd (omega (arith, a, b)) }
