-- What the worked histories freed: two objects of each heap.
use Rattle.std.specs.Prelude.{ℕ, List, [], ◌∷◌}
use Rattle.joint_machine.specs.declared.names.MNum.{MNum}
use Rattle.joint_machine.specs.declared.names.PNum.{PNum}

-- a managed object, and a peer, by their numbers
abbrev pub object : ℕ → MNum
object m = record { 0 = m }

abbrev pub peer : ℕ → PNum
peer p = record { 0 = p }

-- two managed objects
abbrev pub freed_objects : List MNum
freed_objects = object 1 ∷ object 2 ∷ []

-- two peers
abbrev pub freed_peers : List PNum
freed_peers = peer 1 ∷ peer 2 ∷ []
