-- What stands at a place of the names.
use Rattle.std.proofs.Common.{◌≡◌, ℕ, zero, suc, List, [], ◌∷◌, Option, None, get_or, refl, subst}
use Rattle.joint_machine.specs.Heaps.{slot}
use Rattle.peer_heap.specs.Rows.{Rows}
use Rattle.peer_heap.proofs.rows.PeerRows.name.Goals as goal

slot-read : (os : List (Option ℕ)) (i : ℕ) → slot os i ≡ get_or os i None
slot-read [] i = refl
slot-read (o ∷ os) zero = refl
slot-read (o ∷ os) (suc i) = slot-read os i

pub returns : goal.returns
returns c = subst (λ (z : Rows). slot z.names c.args.g ≡ get_or c.self.inside.names c.args.g None) c.self.view_is (slot-read c.self.inside.names c.args.g)
