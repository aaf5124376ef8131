-- Which handles a loop over their numbers has to ask.
use Rattle.std.proofs.Common.{ℕ, ◌<◌, Bool, false, List, length, arith}
use Rattle.joint_machine.specs.Peers.{Peers}
use Rattle.joint_machine.proofs.Numbered.{numbered-within}
use Rattle.joint_replay.specs.Graphs.{IsRooted}

-- handle 0 leads nowhere, and no handle past the last one does
pub rooted-zero : (p : Peers) (removed owned : List Bool) (i k : ℕ) → i < 1 → IsRooted p removed owned i k → ⊥
rooted-zero p removed owned i k l w = (let m = numbered-within removed i false w.kept in omega (arith, l, m.0))

pub rooted-below : (p : Peers) (removed owned : List Bool) (i k n : ℕ) → length p.issued < n → IsRooted p removed owned i k → i < n
rooted-below p removed owned i k n past w = (let m = numbered-within p.issued i w.row w.issued in omega (arith, past, m.1))
