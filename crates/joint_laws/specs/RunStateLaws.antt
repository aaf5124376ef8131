-- The states of the run are those of both sides: what a law says of the states of a lawful list of entries it says of
-- its run.
use Rattle.std.specs.Prelude.{◌≡◌, ℕ, suc, ◌≤◌, true, false, List, length, take, Some, None, slice_get}
use Rattle.joint_machine.specs.Joint.{Row, peer, JointEdge, IsReached}
use Rattle.joint_machine.specs.Linked.{opening_linkage}
use Rattle.joint_machine.specs.Replaying.{AllMayCome, machine_entries}
use Rattle.joint_machine.specs.Run.{Moment, IsRun, is_joint}
use Rattle.joint_machine.specs.Told.{Noted}
use Rattle.joint_machine.specs.PeerReplay.{Marking, MarkingEdge}
use Rattle.joint_laws.specs.UnionLaws.{graph_in, BeginsMarking}

-- the entry's moment in the run, behind as many as there are steps before the entry: it goes from the joint graph of
-- both sides' states before the entry to that of those after it
pub record HasMoment (noted : List Noted) (run : List Moment) (i : ℕ) (n : Noted) : Type 0 where
  pub moment : Moment
  pub there : slice_get run (length (machine_entries (take i noted))) ≡ Some moment
  pub entry : moment.noted ≡ n
  pub before : moment.before.graph ≡ graph_in noted i
  pub after : moment.after.graph ≡ graph_in noted (suc i)

-- in each run over the joint projection of a lawful list of entries, each entry that is a step has its moment
abbrev pub StepsHaveMoments : Type 0
StepsHaveMoments = (noted : List Noted) (run : List Moment)
    → AllMayCome opening_linkage noted → IsRun (machine_entries noted) run
    → (i : ℕ) (n : Noted) → slice_get noted i ≡ Some n → is_joint n.entry.made.op ≡ true → HasMoment noted run i n

-- and each other entry leaves the joint graph as it is
abbrev pub OthersKeepGraph : Type 0
OthersKeepGraph = (noted : List Noted) → AllMayCome opening_linkage noted → (i : ℕ) (n : Noted)
    → slice_get noted i ≡ Some n → is_joint n.entry.made.op ≡ false → graph_in noted (suc i) ≡ graph_in noted i

-- the row is reached in the state at some entry of the run from one place to another
pub record IsReachedInRun (run : List Moment) (from to : ℕ) (x : Row) : Type 0 where
  pub place : ℕ
  pub later : from ≤ place
  pub earlier : place ≤ to
  pub moment : Moment
  pub there : slice_get run place ≡ Some moment
  pub reached : IsReached moment.after x

-- a marking is open in the state at each entry of the run from one place to another
abbrev pub IsOpenInRun : List Moment → ℕ → ℕ → Type 0
IsOpenInRun run from to = (j : ℕ) (m : Moment) → from ≤ j
    → j ≤ to → slice_get run j ≡ Some m → m.after.marking ≡ None → ⊥

-- in the run too the union of what is reached from one place to a later one is closed under the joint edges of each
-- state between from which on a marking is open
abbrev pub RunUnionIsClosed : Type 0
RunUnionIsClosed = (noted : List Noted) (run : List Moment) → AllMayCome opening_linkage noted
    → IsRun (machine_entries noted) run → (a i k : ℕ) (m : Moment)
    → a ≤ i → i ≤ k → slice_get run i ≡ Some m → IsOpenInRun run i k
    → (x y : Row) → IsReachedInRun run a k x → JointEdge m.after.graph x y → IsReachedInRun run a k y

-- so it is closed under the fields and the mirrored references that stood at the begin of a marking
abbrev pub RunUnionFollowsMarking : Type 0
RunUnionFollowsMarking = (noted : List Noted) (run : List Moment) → AllMayCome opening_linkage noted
    → IsRun (machine_entries noted) run → (i : ℕ) (mk : Marking) → BeginsMarking noted i mk
    → (a k : ℕ) → a ≤ length (machine_entries (take i noted)) → length (machine_entries (take i noted)) ≤ k
    → IsOpenInRun run (length (machine_entries (take i noted))) k
    → (p q : ℕ) → IsReachedInRun run a k (peer p) → MarkingEdge mk p q → IsReachedInRun run a k (peer q)
