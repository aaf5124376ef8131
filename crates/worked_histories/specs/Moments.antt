-- A linked history as moments of the joint machine: each entry that is a step, with the joint states before and after
-- it.
use Rattle.std.specs.Prelude.{ℕ, Bool, true, false, if◌then◌else◌, List, [], ◌∷◌, length}
use Rattle.joint_machine.specs.declared.events.Reply.{Reply}
use Rattle.joint_machine.specs.declared.events.Reply.TheVariants as says
use Rattle.joint_machine.specs.Joined.{joint_since, answers_at, graph_at}
use Rattle.joint_machine.specs.Joint.{Joint, Graph, opening}
use Rattle.joint_machine.specs.Replaying.{AreUnreached}
use Rattle.joint_machine.specs.Linked.{Linkage, opening_linkage}
use Rattle.joint_machine.specs.LinkedHistories.{joint_projection, IsLinkedBy}
use Rattle.joint_machine.specs.Managed.{candidates_of}
use Rattle.joint_machine.specs.Readers.{is_aside, entry_after}
use Rattle.joint_machine.specs.Run.{Moment, IsRun, is_joint}
use Rattle.joint_machine.specs.Told.{Noted}
use Rattle.computed_histories.specs.Readings.{finished_of}

-- whether the entry is a step: a read that is set aside is none
abbrev pub is_step : Noted → Bool
is_step n = if is_aside n then false else is_joint n.entry.made.op

-- the joint state of a linked history, with the graph that stood at the begin of the open marking
abbrev pub linked_joint : Linkage → Graph → Joint
linked_joint s begun = joint_since s.managed.managed s.peer
    (answers_at s.control.stand (length (candidates_of s.managed.managed))) begun

-- the graph of now
abbrev pub linked_graph : Linkage → Graph
linked_graph s = graph_at s.managed.managed s.peer

-- a begin that opens a marking keeps the graph of now
abbrev pub begun_with : Reply → Graph → Graph → Graph
begun_with (says.Mark j) now begun = now
begun_with _ now begun = begun

-- a moment, where the entry is a step
abbrev pub moment_if : Bool → Moment → List Moment → List Moment
moment_if true m ms = m ∷ ms
moment_if false m ms = ms

-- the moments of the entries from a state on, with the graph that stood at the last begin
abbrev pub moments_from : Graph → Linkage → List Noted → List Moment
moments_from begun s [] = []
moments_from begun s (n ∷ ns) = moment_if (is_step n)
    record {
      before = linked_joint s begun;
      noted = n;
      after = linked_joint (entry_after s n) (begun_with n.entry.made.reply (linked_graph s) begun);
    }
    (moments_from (begun_with n.entry.made.reply (linked_graph s) begun) (entry_after s n) ns)

-- the moments of a linked history
abbrev pub moments_of : List Noted → List Moment
moments_of noted = moments_from opening.graph opening_linkage noted

-- a begin that opens a marking adds a graph
abbrev pub graph_if : Reply → Graph → List Graph → List Graph
graph_if (says.Mark j) now later = now ∷ later
graph_if _ now later = later

-- the graphs that stand at the begins of the markings
abbrev pub begins_from : Linkage → List Noted → List Graph
begins_from s [] = []
begins_from s (n ∷ ns) = graph_if n.entry.made.reply (linked_graph s) (begins_from (entry_after s n) ns)

-- each list has exactly the peers that are unfreed and unreached in the graph with its place
abbrev pub AreUnreachedEach : List Graph → List (List ℕ) → Type 0
AreUnreachedEach [] [] = Unit {0}
AreUnreachedEach (g ∷ gs) (now ∷ later) = AreUnreached g now × AreUnreachedEach gs later
AreUnreachedEach [] (now ∷ later) = ⊥
AreUnreachedEach (g ∷ gs) [] = ⊥

-- the entries that are steps of the joint machine are a run, and these are the peers that are unreached at the begins
-- of its markings, one list for each
pub record IsRunOf (noted : List Noted) (unreached : List (List ℕ)) : Type 0 where
  pub run : IsRun (joint_projection noted) (moments_of noted)
  pub begins : AreUnreachedEach (begins_from opening_linkage noted) unreached

-- the notes make a linked history: every entry may come when it comes, and nothing is left half done. And the entries
-- that are steps of the joint machine are a run, with these peers unreached at the begins of its markings.
pub record IsWorked (noted : List Noted) (unreached : List (List ℕ)) : Type 0 where
  pub linked : IsLinkedBy (finished_of noted) noted
  pub run : IsRunOf noted unreached
