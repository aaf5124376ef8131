-- What contracts see of the registry: pairs of a peer and a managed number, in the order of their registration.
use Rattle.std.specs.Prelude.{◌≡◌, ◌==◌, Bool, List, [], ◌∷◌, Option, None}
use Rattle.std.specs.Map.{lookup, remove_entry}
use Rattle.joint_machine.specs.declared.names.MNum.{MNum}
use Rattle.joint_machine.specs.declared.names.PNum.{PNum}

-- the twin of a peer: the managed number of the first pair that has the peer, or None where no pair has it
abbrev pub twin_in : List (PNum × MNum) → PNum → Option MNum
twin_in pairs p = lookup (λ q. p.0 == q.0) pairs

-- the pairs without the first that has the peer; the others keep their order
abbrev pub without : List (PNum × MNum) → PNum → List (PNum × MNum)
without pairs p = remove_entry (λ q. p.0 == q.0) pairs

-- no peer stands in two pairs
abbrev pub PeersDistinct : List (PNum × MNum) → Type 0
PeersDistinct [] = Unit {0}
PeersDistinct (e ∷ es) = (twin_in es e.0 ≡ None) × PeersDistinct es

-- each answer about a pair, which `says` relates to the peer and the managed number, is what the test tells of it
abbrev pub IsToldBy : (PNum → MNum → Bool → Type 0) → (PNum × MNum → Bool) → Type 0
IsToldBy says test = (p : PNum) (m : MNum) (b : Bool) → says p m b → b ≡ test (p, m)
