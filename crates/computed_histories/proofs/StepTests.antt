-- An entry that passes its test is a step of the joint machine to the state that is computed, event by event; so the
-- moments of a list of entries that passes are a run.
use Rattle.std.proofs.Common.{◌≡◌, ℕ, inl, true, false, not, ◌&&◌, nat_eq, List, [], ◌∷◌, map, refl, ap, subst, ◌∙◌, Option, Some, None}
use Rattle.std.specs.List.{All, Contains, list_all}
use Rattle.std.proofs.lemmas.Bool.{false≢true}
use Rattle.joint_machine.specs.declared.names.Thread.{Thread}
use Rattle.joint_machine.specs.declared.names.Thread.TheVariants.{C}
use Rattle.joint_machine.specs.declared.lines.Act.TheVariants as act
use Rattle.joint_machine.specs.declared.events.Op.{Op}
use Rattle.joint_machine.specs.declared.events.Op.TheVariants as op
use Rattle.joint_machine.specs.declared.events.Reply.{Reply}
use Rattle.joint_machine.specs.Components.{Rises}
use Rattle.joint_machine.specs.Cycles.{IsResolution}
use Rattle.joint_machine.specs.Heaps.{IsLive, numbered_at}
use Rattle.joint_machine.specs.Joint.{Joint, Graph, JointMarking, opening, peer, IsReached}
use Rattle.joint_machine.specs.Managed.{OpenCycle, Holds}
use Rattle.joint_machine.specs.Peers.{peer_of}
use Rattle.joint_machine.specs.Run.{JointBegin, JointSweep, JointRestore, IsStored, IsKept, JointEvent, IsRunFrom}
use Rattle.joint_machine.specs.Told.{Told, Answer, snap_of, sweep_of, resolution_of, Noted}
use Rattle.computed_histories.specs.Graphs.{joint_reach, is_reached, is_handle_here}
use Rattle.computed_histories.specs.Lists.{mem, is_empty, somes}
use Rattle.computed_histories.specs.Rows.{is_live, is_resolution}
use Rattle.computed_histories.specs.Steps.{is_unfreed, holds_unfreed, kept_rows, joint_begun, joint_swept, restored_on, joint_stepped, may_free, may_sweep, is_candidates, may_renew, is_answered}
use Rattle.computed_histories.specs.Steps.{joint_allows, joint_after, may_step, all_may_step, joint_moments, StepsAreTested, RunsAreTested}
use Rattle.computed_histories.specs.Sides.{is_open}
use Rattle.computed_histories.proofs.Telling.{Tells, always, never, like, isn't, and2, and3, or2, same, all, is_true, is_false, that, empty}
use Rattle.computed_histories.proofs.Reaching.{any_in, member, filtered, rising}
use Rattle.computed_histories.proofs.ReplyTests.{replies}
use Rattle.computed_histories.proofs.LineTests.{tells_event, tells_peer_thread}
use Rattle.computed_histories.proofs.RowTests.{live, snapshot, resolution}
use Rattle.computed_histories.proofs.SideTests.{opened, threads}
use Rattle.computed_histories.proofs.GraphTests.{joint_reached, inside_handle, handle_here}

-- the kept candidates
inside : (a b : ℕ) → Some a ≡ Some b → b ≡ a
inside a b e = cc

unfreed : (g : Graph) (o : Option ℕ) → Tells (is_unfreed g o) ((p : ℕ) × (o ≡ Some p) × (Contains g.peers.heap.freed p → ⊥))
unfreed g None = never (λ q. let e = q.1 in cc)
unfreed g (Some x) = like (λ n. (x, refl, n)) (λ q. subst (λ p. Contains g.peers.heap.freed p → ⊥) (inside x q.0 q.1) q.2) (isn't (member nat_eq same g.peers.heap.freed x))

holds_an_unfreed : (g : Graph) (o : Option (Option ℕ)) → Tells (holds_unfreed g o)
    ((h : ℕ) × (o ≡ Some (Some h)) × ((p : ℕ) × (peer_of g.peers.issued h ≡ Some p) × (Contains g.peers.heap.freed p → ⊥)))
holds_an_unfreed g None = never (λ q. let e = q.1 in cc)
holds_an_unfreed g (Some None) = never (λ q. let e = q.1 in cc)
holds_an_unfreed g (Some (Some h)) = like (λ r. (h, refl, r))
    (λ q. subst (λ k. (p : ℕ) × (peer_of g.peers.issued k ≡ Some p) × (Contains g.peers.heap.freed p → ⊥)) (inside_handle h q.0 q.1) q.2) (unfreed g (peer_of g.peers.issued h))

kept : (j : Joint) (c : OpenCycle) (m : ℕ) → Tells (mem nat_eq (kept_rows j.graph c) m) (IsKept j c m)
kept j c m = like
    (λ p. record { candidate = p.0; handle = p.1.1.0; holds = record { live = p.1.0; held = p.1.1.1 }; peer = p.1.1.2.0; leads = p.1.1.2.1; unfreed = p.1.1.2.2 })
    (λ k. (k.candidate, (k.holds.live, (k.handle, k.holds.held, (k.peer, k.leads, k.unfreed)))))
    (filtered nat_eq same (λ m. is_live j.graph.managed.heap m && holds_unfreed j.graph (numbered_at j.graph.managed.held m)) c.candidates m (Contains c.candidates m)
    (IsLive j.graph.managed.heap m × ((h : ℕ) × (numbered_at j.graph.managed.held m ≡ Some (Some h))
    × ((p : ℕ) × (peer_of j.graph.peers.issued h ≡ Some p) × (Contains j.graph.peers.heap.freed p → ⊥))))
    (member nat_eq same c.candidates m) (and2 (live j.graph.managed.heap m) (holds_an_unfreed j.graph (numbered_at j.graph.managed.held m))))

-- a begin
begins : (j : Joint) (o : Option JointMarking) (t : Thread) (reply : Reply) → reply ≡ (joint_begun j o t).reply → JointBegin j o t reply (joint_begun j o t).state
begins j None t reply e = record { replies = e; state = refl }
begins j (Some m) t reply e = (e, refl)

-- a sweep
freeing : (j : Joint) (m : JointMarking) (freed : List ℕ) → Tells (may_free m (joint_reach m.begun) (joint_reach j.graph) freed)
    (Rises freed × All (IsStored m) freed × All (λ p. IsReached j (peer p) → ⊥) freed)
freeing j m freed = and3 (rising freed)
    (all freed (λ p. is_live m.begun.peers.heap p && not (is_reached m.begun (peer p))) (IsStored m)
    (λ p. like (λ q. record { existed = q.0; unreached = q.1 }) (λ r. (r.existed, r.unreached)) (and2 (live m.begun.peers.heap p) (isn't (joint_reached m.begun (peer p))))))
    (all freed (λ p. not (is_reached j.graph (peer p))) (λ p. IsReached j (peer p) → ⊥) (λ p. isn't (joint_reached j.graph (peer p))))

sweeps : (j : Joint) (o : Option JointMarking) (t : Thread) (reply : Reply) (told : Told) → may_sweep j o t told ≡ true
    → reply ≡ (joint_swept j o told).reply → JointSweep j o t reply told (joint_swept j o told).state
sweeps j None t reply told e r = ((tells_peer_thread t).holds e, r, refl)
sweeps j (Some m) t reply (sweep_of freed) e r = let p = (and2 (or2 (threads t C) (threads t m.by)) (freeing j m freed)).holds e in
    inl (record { allowed = p.0; rise = p.1.0; stored = p.1.1; unreached = p.1.2; replies = r; state = refl })
sweeps j (Some m) t reply _ e r = let p = (and2 (tells_peer_thread t) (isn't (threads t m.by))).holds e in record { thread = p.0; other = p.1; replies = r; state = refl }

-- a restore
candidate : (j : Joint) (h : ℕ) (c : OpenCycle) → Tells (is_candidates j h c) ((m : ℕ) × Contains c.candidates m × Holds j.graph.managed m h)
candidate j h c = any_in c.candidates (λ m. is_live j.graph.managed.heap m && is_handle_here (numbered_at j.graph.managed.held m) h) (λ m. Holds j.graph.managed m h)
    (λ m. like (λ p. record { live = p.0; held = p.1 }) (λ r. (r.live, r.held)) (and2 (live j.graph.managed.heap m) (handle_here (numbered_at j.graph.managed.held m) h)))

renews : (j : Joint) (h : ℕ) (reply : Reply) → may_renew j h ≡ true → reply ≡ (restored_on j h (peer_of j.graph.peers.issued h)).reply
    → JointRestore j h reply (restored_on j h (peer_of j.graph.peers.issued h)).state
renews j h reply e r =
    let p = (and3 (that j.graph.managed.cycle (is_candidates j h) (λ c. (m : ℕ) × Contains c.candidates m × Holds j.graph.managed m h) (candidate j h))
    (that (numbered_at j.graph.removed h) not (λ gone. gone ≡ false) is_false) (that (peer_of j.graph.peers.issued h) (λ p. true) (λ p. Unit {0}) (λ p. always tt))).holds e in
    record {
      cycle = p.0.0;
      open_cycle = p.0.1;
      row = p.0.2.0;
      candidate = p.0.2.1;
      holds = p.0.2.2;
      kept = p.1.1 ∙ ap (λ z. Some z) p.1.2;
      peer = p.2.0;
      leads = p.2.1;
      replies = r ∙ ap (λ o. (restored_on j h o).reply) p.2.1;
      state = ap (λ o. (restored_on j h o).state) p.2.1;
    }

-- each candidate has had its restore
all_given : (xs : List (Option Answer)) → list_all (λ a. not (is_empty a)) xs ≡ true → xs ≡ map (λ a. Some a) (somes xs)
all_given [] e = refl
all_given (None ∷ xs) e = absurd (false≢true e)
all_given (Some a ∷ xs) e = ap (λ zs. Some a ∷ zs) (all_given xs e)

steps_by : (j : Joint) (t : Thread) (o : Op) (reply : Reply) (told : Told) → joint_allows j t o told ≡ true
    → reply ≡ (joint_stepped j t o told).reply → JointEvent j t o reply told (joint_stepped j t o told).state
steps_by j t (op.Snap k) reply (snap_of freed candidates dead) e r = record { snapshot = (snapshot j.graph.managed k.0 freed candidates dead).holds e; replies = r; state = refl }
steps_by j t op.Begin reply told e r = begins j j.marking t reply r
steps_by j t op.Sweep reply told e r = sweeps j j.marking t reply told e r
steps_by j t (op.Restore h) reply told e r = renews j h.0 reply e r
steps_by j t (op.Resolve k) reply (resolution_of alive freed) e r =
    let q = (and2 (is_true (is_answered j)) (is_true (is_open j.graph.managed k.0 (λ c. is_resolution j.graph.managed c.dead (kept_rows j.graph c) freed)))).holds e in
    let p = (opened j.graph.managed k.0 (λ c. is_resolution j.graph.managed c.dead (kept_rows j.graph c) freed) (λ c. IsResolution j.graph.managed c.dead (IsKept j c) freed)
    (λ c. resolution j.graph.managed c.dead (IsKept j c) (kept_rows j.graph c) freed (kept j c))).holds q.1 in
    record { cycle = p.0; open_cycle = p.1; answers = somes j.answers; all_answered = all_given j.answers q.0; resolution = p.2; replies = r; state = refl }
steps_by j t (op.Abandon k) reply told e r =
    let p = (and2 (all j.answers is_empty (λ a. a ≡ None) empty) (opened j.graph.managed k.0 (λ c. true) (λ c. Unit {0}) (λ c. always tt))).holds e in
    record { cycle = p.1.0; open_cycle = p.1.1; none_answered = p.0; replies = r; state = refl }
steps_by j t (op.Snap k) reply _ e r = absurd (false≢true e)
steps_by j t (op.Resolve k) reply _ e r = absurd (false≢true e)
steps_by j t (op.Line (act.Slice n)) reply told e r = absurd (false≢true e)
steps_by j t (op.Contract k) reply told e r = absurd (false≢true e)
steps_by j t (op.Mirror k) reply told e r = absurd (false≢true e)
steps_by j t (op.Weaken h) reply told e r = absurd (false≢true e)
steps_by j t (op.Clear k) reply told e r = absurd (false≢true e)
steps_by j t (op.Refused w) reply told e r = absurd (false≢true e)
steps_by j t _ reply told e r = record { joint = refl; replies = r; state = refl }

pub steps_tested : StepsAreTested
steps_tested j n e =
    let p = (and3 (tells_event n.entry.made.caller n.entry.made.op) (is_true (joint_allows j n.entry.made.caller n.entry.made.op n.told))
    (replies n.entry.made.reply (joint_stepped j n.entry.made.caller n.entry.made.op n.told).reply)).holds e in
    record { event = p.0; step = steps_by j n.entry.made.caller n.entry.made.op n.entry.made.reply n.told p.1 p.2 }

run_from : (j : Joint) (ns : List Noted) → all_may_step j ns ≡ true → IsRunFrom j (joint_moments j ns)
run_from j [] e = tt
run_from j (n ∷ ns) e = let p = (and2 (is_true (may_step j n)) (is_true (all_may_step (joint_after j n) ns))).holds e in (refl, steps_tested j n p.0, run_from (joint_after j n) ns p.1)

same_entries : (j : Joint) (ns : List Noted) → map (λ m. m.noted) (joint_moments j ns) ≡ ns
same_entries j [] = refl
same_entries j (n ∷ ns) = ap (λ rest. n ∷ rest) (same_entries (joint_after j n) ns)

pub runs_tested : RunsAreTested
runs_tested ns e = record { same = same_entries opening ns; steps = run_from opening ns e }
