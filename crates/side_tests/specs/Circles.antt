-- A mirrored cycle of two peers that lie on a circle, as the tests drive it.
use Rattle.std.specs.Prelude.{◌≡◌, ℕ, zero, suc, ◌-◌, ◌<◌, ◌≤◌, Bool, true, false, List, [], ◌∷◌, ◌++◌, Option, Some}
use Rattle.std.specs.Prelude.{None}
use Rattle.joint_machine.specs.declared.names.HNum.{HNum}
use Rattle.joint_machine.specs.declared.names.Sort.TheVariants.{Framework}
use Rattle.joint_machine.specs.declared.names.Thread.{Thread}
use Rattle.joint_machine.specs.declared.names.Thread.TheVariants.{M, P}
use Rattle.joint_machine.specs.declared.lines.Act.TheVariants as act
use Rattle.joint_machine.specs.declared.events.Op.{Op}
use Rattle.joint_machine.specs.declared.events.Op.TheVariants as op
use Rattle.joint_machine.specs.Components.{End, node}
use Rattle.joint_machine.specs.Peers.{Issued, held, strong}
use Rattle.joint_machine.specs.PeerReplay.{PeerReplay, Mirror, peer_answer}
use Rattle.joint_machine.specs.Told.{nothing}
use Rattle.bridge_graph.specs.declared.graph.Node.{Node}
use Rattle.peer_heap.specs.Sides.{PeerModel, seen}
use Rattle.side_tests.specs.Drives.{IsCounted}

-- one more peer with a field, and a handle on it
unfoldable pub with_pair : PeerReplay → PeerReplay
with_pair s = (peer_answer s (M 1) (op.Make Framework 1) None nothing).state

-- the first handle and the second
abbrev pub one : HNum
one = record { 0 = 1 }

abbrev pub two : HNum
two = record { 0 = 2 }

-- the dead part's nodes, and its only component
unfoldable pub nodes : List Node
nodes = record { number = record { 0 = 1 }; handle = Some one; opaque = false }
    ∷ record { number = record { 0 = 2 }; handle = Some two; opaque = false } ∷ []

unfoldable pub circle : List (List ℕ)
circle = (0 ∷ 1 ∷ []) ∷ []

-- the handles as they were issued: each on the peer of its number
abbrev pub two_issued : List Issued
two_issued = record { peer = 1; hold = held; strength = strong }
    ∷ record { peer = 2; hold = held; strength = strong } ∷ []

-- the handles that the first so many restores gave, where each gave one: each on the peer of the handle in whose place
-- it came; and their numbers
abbrev pub given_ones : ℕ → List Issued
given_ones zero = []
given_ones (suc n) = given_ones n ++ record { peer = suc n; hold = held; strength = strong } ∷ []

abbrev pub given_handles : ℕ → List ℕ
given_handles zero = []
given_handles (suc n) = given_handles n ++ suc (suc (suc n)) ∷ []

-- the answer of a restore gave a handle
abbrev pub is_given : Option (Option HNum) → Bool
is_given (Some (Some h)) = true
is_given (Some None) = false
is_given None = false

-- the first so many handles
abbrev pub up_to : ℕ → List ℕ
up_to zero = []
up_to (suc n) = up_to n ++ suc n ∷ []

-- what there is of the cycle: itself, where it stands, with the handles that it has weakened and restored, and those
-- that restores gave; the cycles that were ever mirrored; its references; and for how many more handles there is room
abbrev pub mirror_at : Bool → ℕ → ℕ → List ℕ → Option Mirror
mirror_at false weak back given = None
mirror_at true weak back given = Some
    record { cycle = 1; snap = 0; weakened = up_to weak; restored = up_to back; renewed = given }

abbrev pub mirrors_at : Bool → List ℕ
mirrors_at false = []
mirrors_at true = 1 ∷ []

abbrev pub refs_at : Bool → List (End × End)
refs_at false = []
refs_at true = (node 1, node 2) ∷ (node 2, node 1) ∷ []

abbrev pub left_at : Bool → ℕ → ℕ
left_at false weak = 0
left_at true weak = 2 - weak

-- the cycle was mirrored or not, and stands or not, each restore so far gave a handle or not, and so many handles were
-- weakened and restored
pub record IsCircle (m : PeerModel) (count : ℕ) (mirrored standing kept : Bool) (weak back : ℕ) : Type 0 where
  pub counted : IsCounted (seen m) count
  pub later : List Issued
  pub issued : m.state.peers.issued ≡ two_issued ++ later
  pub given : List ℕ
  pub mirror : m.state.mirror ≡ mirror_at standing weak back given
  pub all : kept ≡ true → (later ≡ given_ones back) × (given ≡ given_handles back)
  pub fresh : mirrored ≡ false → later ≡ []
  pub mirrors : m.state.mirrors ≡ mirrors_at mirrored
  pub refs : m.state.refs ≡ refs_at standing
  pub waiting : m.reserve.waiting ≡ []
  pub left : m.reserve.left ≡ left_at standing weak
  pub once : mirrored ≡ false → standing ≡ false
  pub order : back ≤ weak
  pub most : weak ≤ 2

-- a step of the tests: m1 lands a handle, and p1 empties a static or collects
abbrev pub IsStillOp : Thread → Op → Type 0
IsStillOp t (op.Line act.Collect) = t ≡ P 1
IsStillOp t (op.Line (act.Store x None)) = (t ≡ P 1) × (x.0 < 16)
IsStillOp t (op.Land h x) = (t ≡ M 1) × (x.0 < 16)
IsStillOp t _ = ⊥

-- an event that asks nothing of the state: a pair, a grip, and lines of a peer thread that make, store and drop
abbrev pub IsPlainOp : Op → Type 0
IsPlainOp (op.Make sort n) = Unit {0}
IsPlainOp (op.Grip x) = Unit {0}
IsPlainOp (op.Line (act.NewPeer v n)) = Unit {0}
IsPlainOp (op.Line (act.Store x v)) = Unit {0}
IsPlainOp (op.Line (act.Drop v)) = Unit {0}
IsPlainOp _ = ⊥
