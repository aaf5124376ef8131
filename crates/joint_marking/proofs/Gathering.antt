-- A loop that asked every number has gathered exactly what was wanted.
use Rattle.std.proofs.Common.{ℕ, ◌<◌, List}
use Rattle.joint_machine.specs.Gathered.{Gathered}
use Rattle.joint_marking.specs.Gathered.{RisesWith}

pub Gathered-end : (wanted : ℕ → Type 0) (n : ℕ) (xs : List ℕ) → Gathered wanted n xs → ((k : ℕ) → wanted k → k < n) → RisesWith wanted xs
Gathered-end wanted n xs g h = record { rises = g.rises; exact = λ k. (λ c. ((g.exact k).0 c).1, λ w. (g.exact k).1 (h k w, w)) }
