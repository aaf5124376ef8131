-- Snapshots and resolutions from what was found. Both are exact and rising lists, so there is only one of each: a reply
-- that names other rows is no step.
use Rattle.std.proofs.Common.{replicate, ◌≡◌, ℕ, ◌+◌, ◌<◌, ◌≤◌, ◌↔◌, inl, inr, Bool, true, false, not, List, length, Option, Some, None, refl, sym, ap, subst, ◌∙◌, arith, if◌then◌else◌}
use Rattle.std.specs.Prelude.{Contains, All, filter}
use Rattle.std.proofs.lemmas.List.Elements.{All-contains}
use Rattle.joint_machine.specs.declared.names.Span.{Span}
use Rattle.joint_machine.specs.declared.events.Reply.{Reply}
use Rattle.joint_machine.specs.declared.events.Reply.TheVariants as says
use Rattle.joint_machine.specs.Components.{Rises}
use Rattle.joint_machine.specs.Cycles.{IsSnapshot, snap_reply, IsResolution, resolve_reply, IsOpen}
use Rattle.joint_machine.specs.Heaps.{Heap, IsMade, numbered_at, is_freed}
use Rattle.joint_machine.specs.Histories.{Finished}
use Rattle.joint_machine.specs.Joint.{Joint, with_managed}
use Rattle.joint_machine.specs.Managed.{Managed, OpenCycle, Holds, IsBridgeReached, handle_of, candidates_of, with_snapshot}
use Rattle.joint_machine.specs.Peers.{Peers, peer_of}
use Rattle.joint_machine.specs.Told.{Answer}
use Rattle.joint_machine.specs.Run.{IsKept, JointResolve}
use Rattle.joint_machine.proofs.Members.{All-members, Contains-filter_from, Contains-filter_to, Rises-one, Rises-filter}
use Rattle.joint_machine.proofs.Deciding.{true-false, not-from, some-same}
use Rattle.joint_machine.proofs.HeapLemmas.{Holds-handle_of}
use Rattle.joint_replay.proofs.Snapshots.{handle-reached, bridge-row, row-bridge}
use Rattle.reachability.specs.Marks.{HasMark, unmarked_of}
use Rattle.joint_replay.specs.declared.state.Verdict.{Verdict}
use Rattle.joint_replay.specs.declared.state.Verdict.TheVariants.{Lawful, Unlawful}
use Rattle.joint_replay.specs.Answers.{AreAnswered, given_in, Awaits}
use Rattle.joint_replay.specs.Judging.{named_objects, Decides}
use Rattle.joint_replay.specs.Found.{IsHandleReached}
use Rattle.joint_replay.specs.Finding.{FindsRows}
use Rattle.joint_replay.specs.Snaps.{SnapsManaged, SaysSnap, SaysFreed, OwesDead, IsKeptReached, closed, keeps, Settles, SnapsJoint}
use Rattle.joint_replay.proofs.Answering.{all-answered}
use Rattle.joint_replay.proofs.Finding.{marks-open}
use Rattle.joint_replay.proofs.Flags.{is_freed-exact}
use Rattle.reachability.proofs.Marking.{unmarked_of-exact}

-- what was found is a snapshot
pub snapshot-found : (s : Managed) (k : ℕ) (freed candidates dead : List ℕ) → s.cycle ≡ None → k ≡ s.cycles + 1
    → FindsRows s.heap s.held s.pins freed candidates dead → IsSnapshot s k freed candidates dead
snapshot-found s k freed candidates dead o n f =
    let B : (m : ℕ) → IsBridgeReached s m ↔ IsHandleReached s.heap s.held m = λ m. handle-reached s m in
    record {
      closed = o;
      next = n;
      freed_rise = f.frees.rise;
      frees = λ m. (
        λ c. (let u = (f.frees.exact m).0 c in (u.0, u.1, λ r. u.2 ((B m).0 r))),
        λ u. (f.frees.exact m).1 (u.0, u.1, λ r. u.2 ((B m).1 r)),
      );
      candidates_rise = f.picks.rise;
      picks = λ m. (
        λ c. (let u = (f.picks.exact m).0 c in (row-bridge s m u.0, u.1)),
        λ u. (f.picks.exact m).1 (bridge-row s m u.0, u.1),
      );
      dead_rise = f.leaves.rise;
      leaves = λ m. (
        λ c. (let u = (f.leaves.exact m).0 c in (u.0, u.1, λ k. ((f.frees.exact m).0 k).2 u.2)),
        λ u. elim (f.decides m u.0) [
          | inl r ↦ (f.leaves.exact m).1 (u.0, u.1, r)
          | inr n ↦ absurd (u.2 ((f.frees.exact m).1 (u.0, u.1, n)))
        ],
      );
    }

-- the rows of what was found were made
pub found-freed : (h : Heap) (held pins : List (Option ℕ)) (freed candidates dead : List ℕ) → FindsRows h held pins freed candidates dead → All (IsMade h) freed
found-freed h held pins freed candidates dead f = All-members (IsMade h) freed (λ m c. ((f.frees.exact m).0 c).0.made)

pub found-owed : (h : Heap) (held pins : List (Option ℕ)) (freed candidates dead : List ℕ) (n k : ℕ) → length h.fields ≡ n
    → FindsRows h held pins freed candidates dead → OwesDead n (Some record { number = k; candidates = candidates; dead = dead })
found-owed h held pins freed candidates dead n k e f = (
  f.leaves.rise,
  All-members (λ m. (1 ≤ m) × (m ≤ n)) dead (λ m c. (let l = ((f.leaves.exact m).0 c).0.made in (l.0, omega (arith, l.1, e)))),
  All-members (λ m. (1 ≤ m) × (m ≤ n)) candidates (λ m c. (let l = ((f.picks.exact m).0 c).0.0.made in (l.0, omega (arith, l.1, e)))),
)

-- there is one snapshot
snap-one : (s : Managed) (k l : ℕ) (f c d g b e : List ℕ) → IsSnapshot s k f c d → IsSnapshot s l g b e → (f ≡ g) × (c ≡ b)
snap-one s k l f c d g b e x y = (
  Rises-one f g x.freed_rise y.freed_rise (λ m w. (y.frees m).1 ((x.frees m).0 w)) (λ m w. (x.frees m).1 ((y.frees m).0 w)),
  Rises-one c b x.candidates_rise y.candidates_rise (λ m w. (y.picks m).1 ((x.picks m).0 w)) (λ m w. (x.picks m).1 ((y.picks m).0 w)),
)

-- what a snapshot's reply says
says-snap : (s : Managed) (h : Finished) (reply : Reply) (freed candidates : List ℕ) → named_objects h reply ≡ freed
    → reply ≡ snap_reply s freed candidates → SaysSnap s.heap h reply freed (length candidates)
says-snap s h reply freed candidates n e = subst (λ r. named_objects h r ≡ freed → SaysSnap s.heap h r freed (length candidates))
    (sym e) (λ w. (refl, record { first = refl; count = refl; named = w })) n

pub span-is : (span : Span) (a b : ℕ) → span.first ≡ a → span.count ≡ b → span ≡ record { first = a; count = b }
span-is span a b e f = ap (λ x. let s : Span = record { first = x; count = span.count } in s) e ∙ ap (λ y. let s : Span = record { first = a; count = y } in s) f

snap-said : (s : Managed) (h : Finished) (reply : Reply) (freed candidates : List ℕ)
    → SaysSnap s.heap h reply freed (length candidates) → (named_objects h reply ≡ freed) × (reply ≡ snap_reply s freed candidates)
snap-said s h (says.Snapped n span) freed candidates w = (
  w.1.named,
  ap (λ m. says.Snapped m span) w.0
      ∙ ap (says.Snapped (length candidates)) (span-is span (length s.heap.freed) (length freed) w.1.first w.1.count),
)
snap-said s h _ freed candidates w = absurd w

-- a reply that says something else is no snapshot's
pub snap-no : (s : Managed) (h : Finished) (reply : Reply) (k l : ℕ) (freed candidates dead : List ℕ) → IsSnapshot s k freed candidates dead
    → (SaysSnap s.heap h reply freed (length candidates) → ⊥) → (next : Managed) → SnapsManaged s l (named_objects h reply) reply next → ⊥
snap-no s h reply k l freed candidates dead x wrong next y =
    let one = snap-one s l k (named_objects h reply) y.candidates y.dead freed candidates dead y.snapshot x in
    wrong (says-snap s h reply freed candidates one.0 (y.replies ∙ (ap (λ f. snap_reply s f y.candidates) one.0 ∙ ap (snap_reply s freed) one.1)))

pub snap-yes : (s : Managed) (h : Finished) (reply : Reply) (k : ℕ) (freed candidates dead : List ℕ) (next : Managed) → IsSnapshot s k freed candidates dead
    → SaysSnap s.heap h reply freed (length candidates) → next ≡ with_snapshot s freed candidates dead → SnapsManaged s k (named_objects h reply) reply next
snap-yes s h reply k freed candidates dead next x w e =
    let r = snap-said s h reply freed candidates w in
    subst (λ f. SnapsManaged s k f reply next) (sym r.0) (record { candidates = candidates; dead = dead; snapshot = x; replies = r.1; state = e })

-- which candidates are kept
keeps-from : (s : Managed) (p : Peers) (m : ℕ) → keeps s p m ≡ true → (h : ℕ) × (handle_of s m ≡ Some h) × ((q : ℕ) × (peer_of p.issued h ≡ Some q) × (Contains p.heap.freed q → ⊥))
keeps-from s p m e = by (handle_of s m) refl e
  where
    unfreed : (q : ℕ) → not (is_freed p.heap q) ≡ true → Contains p.heap.freed q → ⊥
    unfreed q n c = (let t : is_freed p.heap q ≡ true = (is_freed-exact p.heap q).1 c in let f : false ≡ true = rw t at n in cc)

    then_peer : (h : ℕ) (o : Option ℕ) → peer_of p.issued h ≡ o → elim o [ None ↦ false | Some q ↦ not (is_freed p.heap q) ] ≡ true
        → (q : ℕ) × (peer_of p.issued h ≡ Some q) × (Contains p.heap.freed q → ⊥)
    then_peer h None l n = absurd (true-false false n refl)
    then_peer h (Some q) l n = (q, l, unfreed q n)

    by : (o : Option ℕ) → handle_of s m ≡ o → elim o [ None ↦ false | Some h ↦ elim (peer_of p.issued h) [ None ↦ false | Some q ↦ not (is_freed p.heap q) ] ] ≡ true
        → (h : ℕ) × (handle_of s m ≡ Some h) × ((q : ℕ) × (peer_of p.issued h ≡ Some q) × (Contains p.heap.freed q → ⊥))
    by None l n = absurd (true-false false n refl)
    by (Some h) l n = (h, l, then_peer h (peer_of p.issued h) refl n)

keeps-to : (s : Managed) (p : Peers) (m h q : ℕ) → handle_of s m ≡ Some h → peer_of p.issued h ≡ Some q → (Contains p.heap.freed q → ⊥) → keeps s p m ≡ true
keeps-to s p m h q e l n =
    ap (λ (o : Option ℕ). elim o [ None ↦ false | Some x ↦ elim (peer_of p.issued x) [ None ↦ false | Some y ↦ not (is_freed p.heap y) ] ]) e
    ∙ (ap (λ (o : Option ℕ). elim o [ None ↦ false | Some y ↦ not (is_freed p.heap y) ]) l ∙ not-from (is_freed p.heap q) (λ t. n ((is_freed-exact p.heap q).0 t)))

-- an object that was made and holds a handle is live
pub holds-made : (s : Managed) (m h : ℕ) → IsMade s.heap m → handle_of s m ≡ Some h → Holds s m h
holds-made s m h made e = by (is_freed s.heap m) refl e
  where
    place : (o : Option (Option ℕ)) → elim o [ None ↦ None | Some x ↦ x ] ≡ Some h → o ≡ Some (Some h)
    place None n = cc
    place (Some x) n = ap Some n

    by : (b : Bool) → is_freed s.heap m ≡ b → (if b then None else elim (numbered_at s.held m) [ None ↦ None | Some x ↦ x ]) ≡ Some h → Holds s m h
    by true t n = (let f : None ≡ Some h = n in cc)
    by false t n = record { live = record { made = made; kept = λ c. true-false (is_freed s.heap m) ((is_freed-exact s.heap m).1 c) t }; held = place (numbered_at s.held m) n }

pub kept-exact : (j : Joint) (c : OpenCycle) (kept : List ℕ) → kept ≡ filter (keeps j.graph.managed j.graph.peers) c.candidates
    → All (IsMade j.graph.managed.heap) c.candidates → (m : ℕ) → Contains kept m ↔ IsKept j c m
kept-exact j c kept e made m = (
  λ k. (
      let w = Contains-filter_from (keeps j.graph.managed j.graph.peers) c.candidates m (subst (λ z. Contains z m) e k) in
      let r = keeps-from j.graph.managed j.graph.peers m w.1 in
      record {
        candidate = w.0;
        handle = r.0;
        holds = holds-made j.graph.managed m r.0 (All-contains (IsMade j.graph.managed.heap) c.candidates m made w.0) r.1;
        peer = r.2.0;
        leads = r.2.1;
        unfreed = r.2.2;
      }
      ),
  λ k. subst (λ z. Contains z m) (sym e) (Contains-filter_to (keeps j.graph.managed j.graph.peers) c.candidates m k.candidate
      (keeps-to j.graph.managed j.graph.peers m k.handle k.peer (Holds-handle_of j.graph.managed m k.handle k.holds) k.leads k.unfreed)),
)

-- what a resolution frees, by the marks of a marking from the kept candidates
pub settles-from : (j : Joint) (k : ℕ) (c : OpenCycle) (freed : List ℕ) (marks : List Bool) → IsOpen j.graph.managed k c → OwesDead (length j.graph.managed.heap.fields) (Some c)
    → ((i : ℕ) → HasMark marks i ↔ IsKeptReached j.graph.managed j.graph.peers c.candidates i)
    → freed ≡ unmarked_of marks c.dead → Settles j k freed
settles-from j k c freed marks o owes m f =
    let h = j.graph.managed.heap in
    let kept = filter (keeps j.graph.managed j.graph.peers) c.candidates in
    let exact = kept-exact j c kept refl owes.2 in
    let reached = marks-open h (IsKept j c) kept marks exact m in
    let U = unmarked_of-exact marks c.dead in
    record {
      cycle = c;
      open_cycle = o;
      resolution = record {
        rise = subst Rises (sym f) (Rises-filter _ c.dead owes.0);
        frees = λ x. (
          λ w. (let u = (U x).0 (subst (λ z. Contains z x) f w) in (u.0, λ r. u.1 ((reached x).1 (record { root = r.0; starts = r.1; reaches = r.2 })))),
          λ w. subst (λ z. Contains z x) (sym f) ((U x).1 (w.0, λ i. (let r = (reached x).0 i in w.1 (r.root, r.starts, r.reaches)))),
        );
      };
      made = All-members (IsMade h) freed (λ x w. All-contains (IsMade h) c.dead x owes.1 ((U x).0 (subst (λ z. Contains z x) f w)).0);
    }

pub kept-within : (s : Managed) (p : Peers) (candidates kept : List ℕ) → kept ≡ filter (keeps s p) candidates → All (IsMade s.heap) candidates → All (λ y. y < length s.heap.fields + 1) kept
kept-within s p candidates kept e made = All-members (λ y. y < length s.heap.fields + 1) kept
    (λ y w. (let l = All-contains (IsMade s.heap) candidates y made (Contains-filter_from (keeps s p) candidates y (subst (λ z. Contains z y) e w)).0 in omega (arith, l.1)))

resolution-one : (j : Joint) (k l : ℕ) (named freed : List ℕ) (reply : Reply) (next : Joint) → Settles j k freed → JointResolve j l named reply next → named ≡ freed
resolution-one j k l named freed reply next x y =
    let same : y.cycle ≡ x.cycle = some-same y.cycle x.cycle (sym y.open_cycle.0 ∙ x.open_cycle.0) in
    let r : IsResolution j.graph.managed x.cycle.dead (IsKept j x.cycle) named = subst (λ c. IsResolution j.graph.managed c.dead (IsKept j c) named) same y.resolution in
    Rises-one named freed r.rise x.resolution.rise (λ m w. (x.resolution.frees m).1 ((r.frees m).0 w)) (λ m w. (r.frees m).1 ((x.resolution.frees m).0 w))

-- what a resolution's reply says
pub says-freed : (s : Managed) (h : Finished) (reply : Reply) (freed : List ℕ) → named_objects h reply ≡ freed → reply ≡ resolve_reply s freed → SaysFreed s.heap h reply freed
says-freed s h reply freed n e = subst (λ r. named_objects h r ≡ freed → SaysFreed s.heap h r freed) (sym e) (λ w. record { first = refl; count = refl; named = w }) n

-- a reply that says something else is no resolution's
pub resolve-no : (j : Joint) (h : Finished) (reply : Reply) (k : ℕ) (freed : List ℕ) → Settles j k freed
    → (SaysFreed j.graph.managed.heap h reply freed → ⊥) → (next : Joint) → JointResolve j k (named_objects h reply) reply next → ⊥
resolve-no j h reply k freed x wrong next y =
    let one = resolution-one j k k (named_objects h reply) freed reply next x y in
    wrong (says-freed j.graph.managed h reply freed one (y.replies ∙ ap (resolve_reply j.graph.managed) one))

freed-said : (s : Managed) (h : Finished) (reply : Reply) (freed : List ℕ) → SaysFreed s.heap h reply freed → (named_objects h reply ≡ freed) × (reply ≡ resolve_reply s freed)
freed-said s h (says.Freed span) freed w = (w.named, ap says.Freed (span-is span (length s.heap.freed) (length freed) w.first w.count))
freed-said s h _ freed w = absurd w

-- a reply that says so is the resolution's
pub resolve-yes : (j : Joint) (h : Finished) (reply : Reply) (k : ℕ) (freed : List ℕ) → AreAnswered j → Settles j k freed
    → SaysFreed j.graph.managed.heap h reply freed → JointResolve j k (named_objects h reply) reply (closed j freed)
resolve-yes j h reply k freed answered x w =
    let r = freed-said j.graph.managed h reply freed w in
    subst (λ f. JointResolve j k f reply (closed j freed)) (sym r.0)
    (record { cycle = x.cycle; open_cycle = x.open_cycle; answers = given_in j.answers; all_answered = all-answered j answered; resolution = x.resolution; replies = r.1; state = refl })

-- a verdict on the managed snapshot is one on the joint one
pub snap-decided : (j : Joint) (k : ℕ) (named : List ℕ) (reply : Reply) (d : Verdict) (m : Managed) (answers : List (Option Answer))
    → Decides (SnapsManaged j.graph.managed k named reply) d j.graph.managed m → Awaits d (candidates_of m) j.answers answers
    → Decides (SnapsJoint j k named reply) d j (record (with_managed j m) { answers = answers })
snap-decided j k named reply Lawful m answers x w = record {
  candidates = x.candidates;
  dead = x.dead;
  snap = record {
    snapshot = x.snapshot;
    replies = x.replies;
    state = ap (λ (z : List (Option Answer)). record (with_managed j m) { answers = z }) w
        ∙ ap (λ (z : Managed). record (with_managed j z) { answers = replicate (length (candidates_of z)) None }) x.state;
  };
}
snap-decided j k named reply Unlawful m answers x w = (
  λ n s. x.0 (with_snapshot j.graph.managed named s.candidates s.dead) (record { candidates = s.candidates; dead = s.dead; snapshot = s.snap.snapshot; replies = s.snap.replies; state = refl }),
  ap (λ (z : List (Option Answer)). record (with_managed j m) { answers = z }) w ∙ ap (λ (z : Managed). with_managed j z) x.1,
)
