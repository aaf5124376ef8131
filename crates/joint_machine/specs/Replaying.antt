-- What laws say of lists of entries: that each may come, and the state after them.
use Rattle.std.specs.Prelude.{◌≡◌, ℕ, List, ◌↔◌, Contains, filter, false, [], ◌∷◌}
use Rattle.joint_machine.specs.Told.{Answer, said_alive, Noted}
use Rattle.joint_machine.specs.Components.{Rises}
use Rattle.joint_machine.specs.Heaps.{IsLive}
use Rattle.joint_machine.specs.Joint.{Graph, IsReachedIn, peer, Joint}
use Rattle.joint_machine.specs.Linked.{Linkage, MayCome, linkage_after}
use Rattle.joint_machine.specs.Readers.{is_aside}
use Rattle.joint_machine.specs.Run.{JointStep, is_joint}

-- what an answer says of its candidate: by that answer it is kept
abbrev pub SaysAlive : Answer → Type 0
SaysAlive a = (h : ℕ) × (a ≡ said_alive h)

-- the peers of a list are exactly the unfreed ones that aren't reached, and the list rises
pub record AreUnreached (g : Graph) (peers : List ℕ) : Type 0 where
  pub rise : Rises peers
  pub exact : (p : ℕ) → Contains peers p ↔ (IsLive g.peers.heap p × (IsReachedIn g (peer p) → ⊥))

-- the state after all entries of a list
abbrev pub replayed : Linkage → List Noted → Linkage
replayed s [] = s
replayed s (n ∷ ns) = replayed (linkage_after s n) ns

-- each entry of the list may come when it comes
abbrev pub AllMayCome : Linkage → List Noted → Type 0
AllMayCome s [] = Unit {0}
AllMayCome s (n ∷ ns) = MayCome s n × AllMayCome (linkage_after s n) ns

-- the entries that are steps of the joint machine, in a list in which every entry counts
abbrev pub machine_entries : List Noted → List Noted
machine_entries ns = filter (λ n. is_joint n.entry.made.op) ns

-- a step of the joint machine in a linked history: a read that is set aside is none
pub record LawfulStep (j : Joint) (n : Noted) (next : Joint) : Type 0 where
  pub step : JointStep j n next
  pub counts : is_aside n ≡ false
