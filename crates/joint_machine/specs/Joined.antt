-- How the joint machine's state is made of both sides' parts: a handle is removed where it isn't in the table, and what
-- restores have answered is what the driver has come to.
use Rattle.std.specs.Prelude.{ℕ, ◌-◌, Bool, true, false, List, [], ◌++◌, length, map, replicate, Option, Some, None}
use Rattle.joint_machine.specs.Control.{Stand, idle, restoring, restored}
use Rattle.joint_machine.specs.Joint.{Joint, JointMarking, Graph}
use Rattle.joint_machine.specs.Managed.{Managed}
use Rattle.joint_machine.specs.PeerReplay.{PeerReplay, TableRow, Marking}
use Rattle.joint_machine.specs.Told.{Answer}

-- whether a place of the table is empty
abbrev pub is_untabled : Option TableRow → Bool
is_untabled None = true
is_untabled (Some row) = false

-- of each handle whether it is removed
abbrev pub removed_in : List (Option TableRow) → List Bool
removed_in rows = map is_untabled rows

-- of so many candidates what their restores answered, the first ones in order
abbrev pub answers_so_far : List Answer → ℕ → List (Option Answer)
answers_so_far answers c = map Some answers ++ replicate (c - length answers) None

-- what the restores of so many candidates answered, by where the driver stands
abbrev pub answers_at : Stand → ℕ → List (Option Answer)
answers_at idle c = []
answers_at (restoring o answers) c = answers_so_far answers c
answers_at (restored o answers clear) c = answers_so_far answers c
answers_at _ c = replicate c None

-- the one graph of a managed and a peer state
abbrev pub graph_at : Managed → PeerReplay → Graph
graph_at s p = record { managed = s; peers = p.peers; removed = removed_in p.table }

-- the open marking, with the graph that stood at its begin
abbrev pub joint_marking : Option Marking → Graph → Option JointMarking
joint_marking None begun = None
joint_marking (Some mk) begun = Some record { number = mk.number; by = mk.by; begun = begun }

-- the joint state of a managed and a peer state, with what restores answered, and the open marking
abbrev pub joint_of : Managed → PeerReplay → List (Option Answer) → Option JointMarking → Joint
joint_of s p answers marking = record {
  graph = graph_at s p;
  answers = answers;
  marking = marking;
  markings = p.markings;
}

-- that state as both replays give it, with the graph that stood at the open marking's begin
abbrev pub joint_since : Managed → PeerReplay → List (Option Answer) → Graph → Joint
joint_since s p answers begun = joint_of s p answers (joint_marking p.marking begun)
