-- What ties the joint machine's state to a state of a linked history, beside joint_of of joint_model, which makes it
-- out of both sides: a handle is removed where it has left the table; and an open marking is the peer side's, with the
-- joint graph of its begin.
use Rattle.std.specs.Prelude.{◌≡◌, ℕ, Bool, true, false, List, ◌++◌, length, map, Option, Some, None, ⊤}
use Rattle.joint_machine.specs.Control.{Stand}
use Rattle.joint_machine.specs.Heaps.{numbered_set}
use Rattle.joint_machine.specs.Joined.{removed_in, answers_at}
use Rattle.joint_machine.specs.Joint.{Joint, JointMarking, IsReachedIn, peer}
use Rattle.joint_machine.specs.Managed.{Managed, candidates_of}
use Rattle.joint_machine.specs.Peers.{Issued}
use Rattle.joint_machine.specs.Told.{Answer}
use Rattle.joint_machine.specs.PeerReplay.{PeerReplay, TableRow, Marking}
use Rattle.joint_laws.specs.PeerInvariants.{IsTabled, IsSpared}

-- the handle is in the table
abbrev pub IsInTable : PeerReplay → ℕ → Type 0
IsInTable s h = (row : TableRow) × IsTabled s.table h row

-- what a joint state has beside both sides' states: which handles are removed, and what restores have answered
pub record Flags : Type 0 where
  pub removed : List Bool
  pub answers : List (Option Answer)

-- the joint state of both sides with these flags and that marking
abbrev pub joint_as : Managed → PeerReplay → Flags → Option JointMarking → Joint
joint_as m s flags jm = record {
  graph = record { managed = m; peers = s.peers; removed = flags.removed };
  answers = flags.answers;
  marking = jm;
  markings = s.markings;
}

-- further handles were issued, and one was removed
abbrev pub issued_flags : Flags → List Issued → Flags
issued_flags flags news = record flags { removed = flags.removed ++ map (λ i. false) news }

abbrev pub gone_flags : Flags → ℕ → Flags
gone_flags flags h = record flags { removed = numbered_set flags.removed h true }

-- the flags tell which handles have left the table
abbrev pub AreFlags : PeerReplay → Flags → Type 0
AreFlags s flags = flags.removed ≡ removed_in s.table

-- they tell what the driver's restores have answered
abbrev pub AreTold : Stand → Managed → Flags → Type 0
AreTold d m flags = flags.answers ≡ answers_at d (length (candidates_of m))

-- the joint marking is the peer side's: what was reached at its begin is spared
pub record IsSameMarking (mk : Marking) (j : JointMarking) : Type 0 where
  pub number : j.number ≡ mk.number
  pub by : j.by ≡ mk.by
  pub heap : j.begun.peers.heap ≡ mk.heap
  pub reached : (p : ℕ) → IsReachedIn j.begun (peer p) → IsSpared mk p

abbrev pub AreSameMarkings : Option Marking → Option JointMarking → Type 0
AreSameMarkings None None = ⊤
AreSameMarkings (Some mk) (Some j) = IsSameMarking mk j
AreSameMarkings _ _ = ⊥

-- the joint state agrees with the sides
pub record Agrees (s : PeerReplay) (flags : Flags) (marking : Option JointMarking) : Type 0 where
  pub removed : AreFlags s flags
  pub markings : AreSameMarkings s.marking marking
