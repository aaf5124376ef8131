-- Steps of the joint machine, by computing: what an entry answers, the state after it, and whether it is a step.
use Rattle.std.specs.Prelude.{ℕ, ◌+◌, Bool, true, false, not, ◌&&◌, ◌||◌, IsTrue, List, [], ◌∷◌, length, filter}
use Rattle.std.specs.Prelude.{replicate, Option, Some, None}
use Rattle.std.specs.List.{list_any, list_all}
use Rattle.joint_machine.specs.declared.names.Thread.{Thread}
use Rattle.joint_machine.specs.declared.names.Thread.TheVariants.{C}
use Rattle.joint_machine.specs.declared.events.Op.{Op}
use Rattle.joint_machine.specs.declared.events.Op.TheVariants as op
use Rattle.joint_machine.specs.declared.events.Reply.TheVariants as says
use Rattle.joint_machine.specs.Cycles.{snap_reply, resolve_reply}
use Rattle.joint_machine.specs.Heaps.{Answered, answer, with_freed, is_freed, numbered_at}
use Rattle.joint_machine.specs.Joint.{Joint, Graph, JointMarking, opening, Row, peer, with_managed}
use Rattle.joint_machine.specs.Managed.{OpenCycle, with_snapshot, resolved, abandoned}
use Rattle.joint_machine.specs.PeerReplay.{is_thread}
use Rattle.joint_machine.specs.Peers.{peer_of}
use Rattle.joint_machine.specs.Run.{joint_answer, joint_restored, Moment, IsRun, JointStep, is_joint}
use Rattle.joint_machine.specs.Told.{Told, snap_of, sweep_of, resolution_of, Noted}
use Rattle.computed_histories.specs.Graphs.{row_eq, joint_reach, is_handle_here}
use Rattle.computed_histories.specs.Lines.{is_event, is_peer_thread}
use Rattle.computed_histories.specs.Lists.{mem, rises, has_that, is_empty, somes}
use Rattle.computed_histories.specs.Replies.{same_reply}
use Rattle.computed_histories.specs.Rows.{is_live, is_snapshot, is_resolution}
use Rattle.computed_histories.specs.Sides.{is_open}

-- whether a place's handle leads to a peer that isn't freed
abbrev pub is_unfreed : Graph → Option ℕ → Bool
is_unfreed g None = false
is_unfreed g (Some p) = not (is_freed g.peers.heap p)

abbrev pub holds_unfreed : Graph → Option (Option ℕ) → Bool
holds_unfreed g None = false
holds_unfreed g (Some None) = false
holds_unfreed g (Some (Some h)) = is_unfreed g (peer_of g.peers.issued h)

-- the candidates whose peers aren't freed
abbrev pub kept_rows : Graph → OpenCycle → List ℕ
kept_rows g c = filter (λ m. is_live g.managed.heap m && holds_unfreed g (numbered_at g.managed.held m)) c.candidates

-- the answer to a begin
abbrev pub joint_begun : Joint → Option JointMarking → Thread → Answered Joint
joint_begun j None t = answer (says.Mark record { 0 = j.markings + 1 })
    (record j { marking = Some record { number = j.markings + 1; by = t; begun = j.graph }; markings = j.markings + 1 })
joint_begun j (Some m) t = answer (says.MarkOpen record { 0 = m.number }) j

-- the answer to a sweep
abbrev pub joint_swept : Joint → Option JointMarking → Told → Answered Joint
joint_swept j None told = answer says.NoMark j
joint_swept j (Some m) (sweep_of freed) = answer
    (says.Swept record { 0 = m.number } record { first = length j.graph.peers.heap.freed; count = length freed })
    (record j {
      graph = record j.graph { peers = record j.graph.peers { heap = with_freed j.graph.peers.heap freed } };
      marking = None;
    })
joint_swept j (Some m) _ = answer (says.MarkOpen record { 0 = m.number }) j

-- the answer to a restore of a handle, given its peer
abbrev pub restored_on : Joint → ℕ → Option ℕ → Answered Joint
restored_on j h None = answer says.Cleared j
restored_on j h (Some p) = joint_restored j h p

-- the answer to an event, and the state after it
abbrev pub joint_stepped : Joint → Thread → Op → Told → Answered Joint
joint_stepped j t (op.Snap k) (snap_of freed candidates dead) = answer
    (snap_reply j.graph.managed freed candidates)
    (record (with_managed j (with_snapshot j.graph.managed freed candidates dead))
    { answers = replicate (length candidates) None })
joint_stepped j t op.Begin told = joint_begun j j.marking t
joint_stepped j t op.Sweep told = joint_swept j j.marking told
joint_stepped j t (op.Restore h) told = restored_on j h.0 (peer_of j.graph.peers.issued h.0)
joint_stepped j t (op.Resolve k) (resolution_of alive freed) = answer (resolve_reply j.graph.managed freed)
    (record (with_managed j (resolved j.graph.managed (somes j.answers) freed)) { answers = [] })
joint_stepped j t (op.Abandon k) told = answer says.Ok
    (record (with_managed j (abandoned j.graph.managed)) { answers = [] })
joint_stepped j t o told = joint_answer j t o

-- whether a sweep may free these peers, given what was reached at the begin and what is reached now
abbrev pub may_free : JointMarking → List Row → List Row → List ℕ → Bool
may_free m before now freed = rises freed
    && list_all (λ p. is_live m.begun.peers.heap p && not (mem row_eq before (peer p))) freed
    && list_all (λ p. not (mem row_eq now (peer p))) freed

-- what a sweep asks for
abbrev pub may_sweep : Joint → Option JointMarking → Thread → Told → Bool
may_sweep j None t told = is_peer_thread t
may_sweep j (Some m) t (sweep_of freed) = (is_thread t C || is_thread t m.by) && may_free m
    (joint_reach m.begun) (joint_reach j.graph) freed
may_sweep j (Some m) t _ = is_peer_thread t && not (is_thread t m.by)

-- what a restore asks for: a candidate of the open cycle holds the handle, and it isn't removed
abbrev pub is_candidates : Joint → ℕ → OpenCycle → Bool
is_candidates j h c = list_any (λ m. is_live j.graph.managed.heap m && is_handle_here
    (numbered_at j.graph.managed.held m) h) c.candidates

abbrev pub may_renew : Joint → ℕ → Bool
may_renew j h = has_that (is_candidates j h) j.graph.managed.cycle && has_that not
    (numbered_at j.graph.removed h) && has_that (λ p. true) (peer_of j.graph.peers.issued h)

-- whether each candidate has had its restore
abbrev pub is_answered : Joint → Bool
is_answered j = list_all (λ a. not (is_empty a)) j.answers

-- what an event asks for, beside its reply
abbrev pub joint_allows : Joint → Thread → Op → Told → Bool
joint_allows j t (op.Snap k) (snap_of freed candidates dead) = is_snapshot j.graph.managed k.0 freed candidates dead
joint_allows j t op.Begin told = true
joint_allows j t op.Sweep told = may_sweep j j.marking t told
joint_allows j t (op.Restore h) told = may_renew j h.0
joint_allows j t (op.Resolve k) (resolution_of alive freed) = is_answered j && is_open j.graph.managed k.0
    (λ c. is_resolution j.graph.managed c.dead (kept_rows j.graph c) freed)
joint_allows j t (op.Snap k) told = false
joint_allows j t (op.Resolve k) told = false
joint_allows j t (op.Abandon k) told = list_all is_empty j.answers && is_open j.graph.managed k.0 (λ c. true)
joint_allows j t o told = is_joint o

-- the state after an entry, and whether the entry is a step to it
abbrev pub joint_after : Joint → Noted → Joint
joint_after j n = (joint_stepped j n.entry.made.caller n.entry.made.op n.told).state

abbrev pub may_step : Joint → Noted → Bool
may_step j n =
    is_event n.entry.made.caller n.entry.made.op
    && joint_allows j n.entry.made.caller n.entry.made.op n.told
    && same_reply n.entry.made.reply (joint_stepped j n.entry.made.caller n.entry.made.op n.told).reply

-- whether each entry of a list is a step, and the moments of those steps
abbrev pub all_may_step : Joint → List Noted → Bool
all_may_step j [] = true
all_may_step j (n ∷ ns) = may_step j n && all_may_step (joint_after j n) ns

abbrev pub joint_moments : Joint → List Noted → List Moment
joint_moments j [] = []
joint_moments j (n ∷ ns) = record { before = j; noted = n; after = joint_after j n } ∷ joint_moments
    (joint_after j n) ns

-- an entry that passes the test is a step, and the moments of a list that passes it are a run
abbrev pub StepsAreTested : Type 0
StepsAreTested = (j : Joint) (n : Noted) → IsTrue (may_step j n) → JointStep j n (joint_after j n)

abbrev pub RunsAreTested : Type 0
RunsAreTested = (ns : List Noted) → IsTrue (all_may_step opening ns) → IsRun ns (joint_moments opening ns)
