-- The joint machine: one step for each entry, and its runs.
-- Believed: the clauses of the program's top call rest on all that stands here.
use Rattle.std.specs.Prelude.{◌≡◌, ℕ, ◌+◌, ◌⊎◌, Bool, true, false, if◌then◌else◌, List, [], ◌∷◌, ◌++◌, length, map}
use Rattle.std.specs.Prelude.{replicate, nat_eq, All, Contains, Option, Some, None}
use Rattle.joint_machine.specs.declared.names.Thread.{Thread}
use Rattle.joint_machine.specs.declared.names.Thread.TheVariants.{M, P, C}
use Rattle.joint_machine.specs.declared.lines.Act.{Act}
use Rattle.joint_machine.specs.declared.lines.Act.TheVariants as act
use Rattle.joint_machine.specs.declared.events.Op.{Op}
use Rattle.joint_machine.specs.declared.events.Op.TheVariants as op
use Rattle.joint_machine.specs.declared.events.Reply.{Reply}
use Rattle.joint_machine.specs.declared.events.Reply.TheVariants as says
use Rattle.joint_machine.specs.Components.{Rises}
use Rattle.joint_machine.specs.Cycles.{IsSnapshot, snap_reply, IsResolution, resolve_reply, IsOpen}
use Rattle.joint_machine.specs.Heaps.{Answered, answer, slot, numbered_at, numbered_set, place, is_freed, IsLive}
use Rattle.joint_machine.specs.Heaps.{not_here, with_freed, freed_span}
use Rattle.joint_machine.specs.Joint.{Joint, JointMarking, opening, IsReached, IsReachedIn, with_managed, peer}
use Rattle.joint_machine.specs.Joint.{joint_target, twin_of}
use Rattle.joint_machine.specs.Lines.{IsEvent, IsPeerThread}
use Rattle.joint_machine.specs.Managed.{Managed, OpenCycle, managed_line, adopted, met, given_up, handle_reply}
use Rattle.joint_machine.specs.Managed.{handle_of, candidates_of, Holds, with_snapshot, resolved, abandoned}
use Rattle.joint_machine.specs.Peers.{Peers, peer_line, pair_made, gripped, landed, issued_since, peer_of, next_handle}
use Rattle.joint_machine.specs.Peers.{with_renewed}
use Rattle.joint_machine.specs.Told.{Told, Answer, said_alive, said_cleared, snap_of, sweep_of, resolution_of, Noted}

-- the number of a managed or a peer thread
abbrev pub thread_number : Thread → ℕ
thread_number (M n) = n
thread_number (P n) = n
thread_number C = 0

-- an event of the managed part, as one of the joint machine
abbrev pub on_managed : Joint → Answered Managed → Answered Joint
on_managed j a = answer a.reply (with_managed j a.state)

-- an event of the peers, as one of the joint machine: the handles that it issues aren't removed
abbrev pub on_peers : Joint → Answered Peers → Answered Joint
on_peers j a = answer a.reply (record j {
  graph = record j.graph {
    peers = a.state;
    removed = j.graph.removed ++ map (λ i. false) (issued_since j.graph.peers a.state);
  };
})

-- the handle is removed
abbrev pub without : Joint → Option ℕ → Joint
without j None = j
without j (Some h) = record j { graph = record j.graph { removed = numbered_set j.graph.removed h true } }

-- an event of a peer thread's line; `unglobal` removes the handle that its name had
abbrev pub joint_peer_line : Joint → ℕ → Act → Answered Joint
joint_peer_line j t (act.UnGlobal g) = on_peers (without j (slot j.graph.peers.names g.0))
    (peer_line (joint_target j) j.graph.peers t (act.UnGlobal g))
joint_peer_line j t a = on_peers j (peer_line (joint_target j) j.graph.peers t a)

-- an event of one line
abbrev pub joint_line : Joint → Thread → Act → Answered Joint
joint_line j (M t) a = on_managed j (managed_line j.graph.managed t a)
joint_line j (P t) a = joint_peer_line j t a
joint_line j C a = on_managed j (managed_line j.graph.managed 0 a)

-- whether the event is a step of the joint machine
abbrev pub is_joint : Op → Bool
is_joint (op.Line (act.Slice n)) = false
is_joint (op.Contract k) = false
is_joint (op.Mirror k) = false
is_joint (op.Weaken h) = false
is_joint (op.Clear k) = false
is_joint (op.Refused w) = false
is_joint _ = true

-- the reply to an event that is computed, and the state after it
abbrev pub joint_answer : Joint → Thread → Op → Answered Joint
joint_answer j t (op.Line a) = joint_line j t a
joint_answer j t (op.Make sort n) = on_peers j (pair_made j.graph.peers sort n)
joint_answer j t (op.Adopt v kind n p h) = on_managed j
    (adopted j.graph.managed (place (thread_number t) v.0) kind n h.0)
joint_answer j t (op.Lend v x) = answer (handle_reply j.graph.managed (place (thread_number t) v.0)) j
joint_answer j t (op.Land h x) = on_peers j (landed j.graph.peers x.0 (joint_target j h.0))
joint_answer j t (op.Grip x) = on_peers j (gripped j.graph.peers x.0)
joint_answer j t (op.Meet v sort n p h) = on_managed j
    (met j.graph.managed (place (thread_number t) v.0) h.0 sort n (twin_of j p.0))
joint_answer j t (op.Give v) = on_managed j (given_up j.graph.managed (place (thread_number t) v.0))
joint_answer j t (op.Release h) = answer says.Ok (without j (Some h.0))
joint_answer j t _ = not_here j

-- a snapshot
pub record JointSnap (j : Joint) (k : ℕ) (freed candidates dead : List ℕ) (reply : Reply) (next : Joint) : Type 0 where
  pub snapshot : IsSnapshot j.graph.managed k freed candidates dead
  pub replies : reply ≡ snap_reply j.graph.managed freed candidates
  pub state : next ≡ record (with_managed j (with_snapshot j.graph.managed freed candidates dead))
      { answers = replicate (length candidates) None }

-- a further marking by the thread, which keeps the graph of now
pub record OpensMarking (j : Joint) (t : Thread) (reply : Reply) (next : Joint) : Type 0 where
  pub replies : reply ≡ says.Mark record { 0 = j.markings + 1 }
  pub state : next ≡ record j {
    marking = Some record { number = j.markings + 1; by = t; begun = j.graph };
    markings = j.markings + 1;
  }

-- the peer is one of those that a marking may free: it existed unfreed and unreached at the begin
pub record IsStored (m : JointMarking) (p : ℕ) : Type 0 where
  pub existed : IsLive m.begun.peers.heap p
  pub unreached : IsReachedIn m.begun (peer p) → ⊥

-- a begin: where a marking is open its number is answered, else the next one is opened
abbrev pub JointBegin : Joint → Option JointMarking → Thread → Reply → Joint → Type 0
JointBegin j None t reply next = OpensMarking j t reply next
JointBegin j (Some m) t reply next = (reply ≡ says.MarkOpen record { 0 = m.number }) × (next ≡ j)

-- a sweep ends the marking: each peer that it frees was unreached at the begin and isn't reached just before
pub record EndsMarking (j : Joint) (m : JointMarking) (t : Thread)
    (freed : List ℕ) (reply : Reply) (next : Joint) : Type 0 where
  pub allowed : (t ≡ C) ⊎ (t ≡ m.by)
  pub rise : Rises freed
  pub stored : All (IsStored m) freed
  pub unreached : All (λ p. IsReached j (peer p) → ⊥) freed
  pub replies : reply ≡ says.Swept record { 0 = m.number } (freed_span j.graph.peers.heap freed)
  pub state : next ≡ record j {
    graph = record j.graph { peers = record j.graph.peers { heap = with_freed j.graph.peers.heap freed } };
    marking = None;
  }

-- a peer thread's sweep during another thread's marking frees nothing
pub record RefusesSweep (j : Joint) (m : JointMarking) (t : Thread) (reply : Reply) (next : Joint) : Type 0 where
  pub thread : IsPeerThread t
  pub other : t ≡ m.by → ⊥
  pub replies : reply ≡ says.MarkOpen record { 0 = m.number }
  pub state : next ≡ j

-- a sweep with the freed peers that are told beside it
abbrev pub JointSweep : Joint → Option JointMarking → Thread → Reply → Told → Joint → Type 0
JointSweep j None t reply told next = IsPeerThread t × (reply ≡ says.NoMark) × (next ≡ j)
JointSweep j (Some m) t reply (sweep_of freed) next = EndsMarking j m t freed reply next ⊎ RefusesSweep j m t reply next
JointSweep j (Some m) t reply _ next = RefusesSweep j m t reply next

-- whether what an object holds is that handle
abbrev pub is_that_handle : Option ℕ → ℕ → Bool
is_that_handle None h = false
is_that_handle (Some g) h = nat_eq g h

-- what restores answered of these candidates, once each that holds the handle has had that answer
abbrev pub answered_for : Managed → ℕ → Answer → List ℕ → List (Option Answer) → List (Option Answer)
answered_for s h a [] xs = xs
answered_for s h a (m ∷ ms) [] = []
answered_for s h a (m ∷ ms) (x ∷ xs) = (if is_that_handle (handle_of s m) h then Some a else x) ∷ answered_for
    s h a ms xs

-- the candidate that holds the handle has had its restore, which gave that answer
abbrev pub answered : Joint → ℕ → Answer → Joint
answered j h a = record j { answers = answered_for j.graph.managed h a (candidates_of j.graph.managed) j.answers }

-- a held strong handle on the peer, under the next number
abbrev pub given_anew : Joint → ℕ → Joint
given_anew j p = record j {
  graph = record j.graph { peers = with_renewed j.graph.peers p; removed = j.graph.removed ++ false ∷ [] };
}

-- a restore of a candidate's handle, on that peer: the handle is removed, and the peer gets a new one unless it is
-- freed
abbrev pub joint_restored : Joint → ℕ → ℕ → Answered Joint
joint_restored j h p = if is_freed j.graph.peers.heap p
    then answer says.Cleared (answered (without j (Some h)) h said_cleared)
    else answer (says.Renewed record { 0 = next_handle j.graph.peers })
    (answered (given_anew (without j (Some h)) p) h (said_alive (next_handle j.graph.peers)))

-- a restore: its handle is that of a candidate of the open cycle, and isn't removed
pub record JointRestore (j : Joint) (h : ℕ) (reply : Reply) (next : Joint) : Type 0 where
  pub cycle : OpenCycle
  pub open_cycle : j.graph.managed.cycle ≡ Some cycle
  pub row : ℕ
  pub candidate : Contains cycle.candidates row
  pub holds : Holds j.graph.managed row h
  pub kept : numbered_at j.graph.removed h ≡ Some false
  pub peer : ℕ
  pub leads : peer_of j.graph.peers.issued h ≡ Some peer
  pub replies : reply ≡ (joint_restored j h peer).reply
  pub state : next ≡ (joint_restored j h peer).state

-- in the joint machine a candidate is kept exactly where the peer of its handle isn't freed
pub record IsKept (j : Joint) (c : OpenCycle) (m : ℕ) : Type 0 where
  pub candidate : Contains c.candidates m
  pub handle : ℕ
  pub holds : Holds j.graph.managed m handle
  pub peer : ℕ
  pub leads : peer_of j.graph.peers.issued handle ≡ Some peer
  pub unfreed : Contains j.graph.peers.heap.freed peer → ⊥

-- a resolution: each candidate has had its restore, and each kept one then holds the handle that its restore gave
pub record JointResolve (j : Joint) (k : ℕ) (freed : List ℕ) (reply : Reply) (next : Joint) : Type 0 where
  pub cycle : OpenCycle
  pub open_cycle : IsOpen j.graph.managed k cycle
  pub answers : List Answer
  pub all_answered : j.answers ≡ map Some answers
  pub resolution : IsResolution j.graph.managed cycle.dead (IsKept j cycle) freed
  pub replies : reply ≡ resolve_reply j.graph.managed freed
  pub state : next ≡ record (with_managed j (resolved j.graph.managed answers freed)) { answers = [] }

-- an abandonment frees nothing; no candidate has had its restore
pub record JointAbandon (j : Joint) (k : ℕ) (reply : Reply) (next : Joint) : Type 0 where
  pub cycle : OpenCycle
  pub open_cycle : IsOpen j.graph.managed k cycle
  pub none_answered : All (λ a. a ≡ None) j.answers
  pub replies : reply ≡ says.Ok
  pub state : next ≡ record (with_managed j (abandoned j.graph.managed)) { answers = [] }

-- an event whose answer is computed
pub record JointComputed (j : Joint) (t : Thread) (o : Op) (reply : Reply) (next : Joint) : Type 0 where
  pub joint : is_joint o ≡ true
  pub replies : reply ≡ (joint_answer j t o).reply
  pub state : next ≡ (joint_answer j t o).state

-- the event's own step, with its reply and what is told beside it
abbrev pub JointEvent : Joint → Thread → Op → Reply → Told → Joint → Type 0
JointEvent j t (op.Snap k) reply (snap_of freed candidates dead) next = JointSnap j k.0 freed candidates dead reply next
JointEvent j t (op.Snap k) reply _ next = ⊥
JointEvent j t op.Begin reply told next = JointBegin j j.marking t reply next
JointEvent j t op.Sweep reply told next = JointSweep j j.marking t reply told next
JointEvent j t (op.Restore h) reply told next = JointRestore j h.0 reply next
JointEvent j t (op.Resolve k) reply (resolution_of alive freed) next = JointResolve j k.0 freed reply next
JointEvent j t (op.Resolve k) reply _ next = ⊥
JointEvent j t (op.Abandon k) reply told next = JointAbandon j k.0 reply next
JointEvent j t o reply told next = JointComputed j t o reply next

-- the entry is a step of the joint machine from one state to the next
pub record JointStep (j : Joint) (n : Noted) (next : Joint) : Type 0 where
  pub event : IsEvent n.entry.made.caller n.entry.made.op
  pub step : JointEvent j n.entry.made.caller n.entry.made.op n.entry.made.reply n.told next

-- one entry of a run, with the states before and after it
pub record Moment : Type 0 where
  pub before : Joint
  pub noted : Noted
  pub after : Joint

-- the entries are a run from a state on: each is a step from the state that the one before it left
abbrev pub IsRunFrom : Joint → List Moment → Type 0
IsRunFrom j [] = Unit {0}
IsRunFrom j (m ∷ ms) = (m.before ≡ j) × JointStep m.before m.noted m.after × IsRunFrom m.after ms

-- the moments are a run of the joint machine over these entries
pub record IsRun (entries : List Noted) (moments : List Moment) : Type 0 where
  pub same : map (λ m. m.noted) moments ≡ entries
  pub steps : IsRunFrom opening moments
