-- What is reached over an interval, and that it is closed: the union of the reached rows from some state to a later one
-- is closed under the joint edges of each state between, and under the fields and the mirrored references that stood at
-- the begin of a marking.
use Rattle.std.specs.Prelude.{◌≡◌, ℕ, suc, ◌+◌, ◌≤◌, List, Some, None}
use Rattle.joint_machine.specs.declared.events.Op.TheVariants as op
use Rattle.joint_machine.specs.Joined.{graph_at}
use Rattle.joint_machine.specs.Joint.{Graph, Row, peer, JointEdge, IsReachedIn}
use Rattle.joint_machine.specs.Linked.{opening_linkage}
use Rattle.joint_machine.specs.Replaying.{AllMayCome}
use Rattle.joint_machine.specs.PeerReplay.{Marking, MarkingEdge}
use Rattle.joint_machine.specs.Readers.{HasEventAt}
use Rattle.joint_machine.specs.Told.{Noted}
use Rattle.joint_laws.specs.LinkedLaws.{IsOpenUntil}
use Rattle.joint_laws.specs.States.{state_at}

-- the joint graph at the state after so many entries
abbrev pub graph_in : List Noted → ℕ → Graph
graph_in noted i = graph_at (state_at noted i).managed.managed (state_at noted i).peer

-- the row is reached at some state from one to another: it is in the union of what is reached from the one to the other
pub record IsReachedBetween (noted : List Noted) (from to : ℕ) (x : Row) : Type 0 where
  pub place : ℕ
  pub later : from ≤ place
  pub earlier : place ≤ to
  pub reached : IsReachedIn (graph_in noted place) x

-- the union from state a to a later one is closed under the joint edges of a state between, from which on a marking is
-- open
abbrev pub UnionIsClosed : Type 0
UnionIsClosed = (noted : List Noted) → AllMayCome opening_linkage noted
    → (a i more : ℕ) → a ≤ i → IsOpenUntil noted i more
    → (x y : Row) → IsReachedBetween noted a (i + more) x
    → JointEdge (graph_in noted i) x y → IsReachedBetween noted a (i + more) y

-- the entry in that place begins the marking, which is open after it
pub record BeginsMarking (noted : List Noted) (i : ℕ) (mk : Marking) : Type 0 where
  pub event : HasEventAt noted i op.Begin
  pub closed : (state_at noted i).peer.marking ≡ None
  pub opened : (state_at noted (suc i)).peer.marking ≡ Some mk

-- so it is closed under the fields and the mirrored references that stood at the begin of a marking, while that is
-- open: from the begin on, and from any earlier state on, such as the snapshot of the cycle
abbrev pub UnionFollowsMarking : Type 0
UnionFollowsMarking = (noted : List Noted) → AllMayCome opening_linkage noted
    → (a i more : ℕ) (mk : Marking) → BeginsMarking noted i mk → a ≤ suc i → IsOpenUntil noted (suc i) more
    → (p q : ℕ) → IsReachedBetween noted a (suc i + more) (peer p)
    → MarkingEdge mk p q → IsReachedBetween noted a (suc i + more) (peer q)
