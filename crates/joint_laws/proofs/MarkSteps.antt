-- What the own marking has seen, at its begin and at each later entry; and what its sweep then frees.
use Rattle.std.proofs.Common.{◌≡◌, ℕ, ◌<◌, ◌≤◌, ◌⊎◌, inl, inr, List, [], ◌∷◌, ◌++◌, Some, refl, sym, ap, subst, ◌∙◌, arith}
use Rattle.std.specs.Prelude.{Contains, slice_get}
use Rattle.std.proofs.lemmas.Option.{same_Some}
use Rattle.std.proofs.lemmas.List.Elements.{Contains-append_left, Contains-append_right}
use Rattle.joint_machine.specs.declared.names.Thread.{Thread}
use Rattle.joint_machine.specs.Headline.{DriverBeginsAt, SweepsAt, IsMadeBefore, IsPeerFreedAt}
use Rattle.joint_machine.specs.Heaps.{IsMade, IsLive, HasField, InSlot, fields_of}
use Rattle.joint_machine.specs.Joint.{Row, object, peer, JointEdge, IsJointRoot, IsReached}
use Rattle.joint_machine.specs.Linked.{Linkage, MayCome, linkage_after}
use Rattle.joint_machine.specs.Managed.{OpenCycle, Holds}
use Rattle.joint_machine.specs.Peers.{Issued, weak}
use Rattle.joint_machine.specs.PeerReplay.{Marking, MarkingEdge, IsSweep, strong_peers, Refers}
use Rattle.joint_machine.specs.Run.{Moment}
use Rattle.joint_machine.specs.Told.{Noted}
use Rattle.joint_machine.proofs.WalkLemmas.{Reached-start, Reached-then, Reached-keeps}
use Rattle.joint_laws.specs.LinkedInvariants.{HasStrength, IsRowOf, IsMirrored, ForCandidates}
use Rattle.joint_machine.proofs.Members.{Contains-nil, Contains-decided}
use Rattle.joint_laws.proofs.ManagedMoves.{GoesOn}
use Rattle.joint_laws.proofs.Sparing.{later}
use Rattle.joint_laws.proofs.PeerHeaps.{heap-entry}
use Rattle.joint_laws.proofs.JointRuns.{Stands, state_of}
use Rattle.joint_laws.proofs.JointSince.{peer-entry}
use Rattle.joint_laws.proofs.Watching.{IsSeen, WasSeen, IsWatched, last-seen, seen-more, was-more, seen-cases, watched-next, at-more, at-front}
use Rattle.joint_laws.proofs.MarkWatching.{IsMarkWatched, marked-seen, reference-seen, strong_peer-seen, slot-seen, row-joined}

-- at the begin
abbrev begun_now : Linkage → ℕ → Thread → Marking
begun_now s number by = record { number = number; by = by; heap = s.peer.peers.heap; refs = s.peer.refs; strong_peers = strong_peers s.peer.peers.issued s.peer.table; brought = []; blackened = 0 }

pub watch-begin : (s : Linkage) (w : Stands s) (past : List Moment) (a : ℕ) (c : OpenCycle) (o : s.managed.managed.cycle ≡ Some c)
    → IsWatched past a c.candidates (state_of s w) → IsMirrored s.managed s.peer c → ForCandidates s.managed.managed c (λ l h. HasStrength s.peer h weak)
    → (number b : ℕ) (by : Thread) → DriverBeginsAt past b number → a < b → ((p : ℕ) → IsMadeBefore past b p → IsMade s.peer.peers.heap p) → IsMarkWatched past a c s (begun_now s number by)
watch-begin s w past a c o watched m all number b by begins ab made = record {
  begin = b;
  begins = begins;
  later_on = ab;
  made_then = made;
  old = λ p q l. l;
  rows = λ x p cx r. subst (λ z. IsMade s.peer.peers.heap z) r.leads (w.kept.peer.handles.peers r.handle r.row r.is_issued);
  refs = refl;
  roots = λ p r. elim r [
    | inl i ↦ slot-seen s w past a c o watched p i
    | inr t ↦ elim t [
      | inl d ↦ strong_peer-seen s w past a c o watched all p d
      | inr d ↦ absurd (Contains-nil p d)
    ]
  ];
  edges = λ p q u e. elim e [
    | inl f ↦ watched.closed (peer p) (peer q) u f
    | inr f ↦ reference-seen s w past a c o watched m p q f.reference f.live f.there u
  ];
  fields = λ p l n. refl;
}

-- at a later entry
module _ (s : Linkage) (n : Noted) (may : MayCome s n) (w : Stands s) (v : Stands (linkage_after s n))
    (g : GoesOn s.managed.managed (linkage_after s n).managed.managed) (past : List Moment) (a : ℕ) (c : OpenCycle) (o : s.managed.managed.cycle ≡ Some c)
    (watched : IsWatched past a c.candidates (state_of s w)) (m : Moment) (after : m.after ≡ state_of (linkage_after s n) v)
    (mk : Marking) (e0 : s.peer.marking ≡ Some mk) (k : IsMarkWatched past a c s mk)
    (brought : List ℕ) (black : ℕ) (e1 : (linkage_after s n).peer.marking ≡ Some (later mk brought black))
    (back : (p : ℕ) → Contains brought p → Contains mk.brought p ⊎ InSlot (linkage_after s n).peer.peers.heap p)
    (refs : (linkage_after s n).peer.refs ≡ s.peer.refs) (mirror : IsMirrored (linkage_after s n).managed (linkage_after s n).peer c) where
  abbrev t : Linkage
  t = linkage_after s n

  abbrev longer : List Moment
  longer = past ++ m ∷ []

  o1 : t.managed.managed.cycle ≡ Some c
  o1 = g.cycle ∙ o

  next : IsWatched longer a c.candidates (state_of t v)
  next = watched-next s n may w v g past a c.candidates watched m after

  existed : (p : ℕ) → IsLive mk.heap p → IsLive t.peer.peers.heap p
  existed p l = (v.kept.peer.marking (later mk brought black) e1).existed p l

  now : (x : Row) → IsReached (state_of t v) x → IsSeen longer a x
  now x r = last-seen longer a (state_of t v) x next.last next.started r

  field-next : (p q : ℕ) → HasField mk.heap p q → IsReached (state_of t v) (peer p) → (IsSeen past a (peer p) → ⊥) → IsSeen longer a (peer q)
  field-next p q f r out =
      let made : IsMade s.peer.peers.heap p = (let l = f.live.made in (l.0, omega (arith, l.1, (w.kept.peer.marking mk e0).made))) in
      let no_slot : InSlot s.peer.peers.heap p → ⊥ = λ i. out (last-seen past a (state_of s w) (peer p) watched.last watched.started
      (Reached-start (IsJointRoot (state_of s w).graph) (JointEdge (state_of s w).graph) (peer p) (inl i))) in
      let same : fields_of mk.heap p ≡ fields_of t.peer.peers.heap p = k.fields p f.live out ∙ sym ((heap-entry s n).frozen p made no_slot) in
      now (peer q) (Reached-then (IsJointRoot (state_of t v).graph) (JointEdge (state_of t v).graph) (peer p) (peer q) r
      (record { live = existed p f.live; field = subst (λ fs. Contains fs (Some q)) same f.field; there = existed q f.there }))

  edges_next : (p q : ℕ) → WasSeen longer a (peer p) → MarkingEdge mk p q → WasSeen longer a (peer q)
  edges_next p q u e f = u (λ seen. elim e [
    | inr r ↦ reference-seen t v longer a c o1 next mirror p q (subst (λ z. Refers z p q) (k.refs ∙ sym refs) r.reference) (existed p r.live) (existed q r.there) u f
    | inl d ↦ (
        let before : IsSeen past a (peer p) → ⊥ = λ sp. was-more past m a (peer q) (k.edges p q (λ h. h sp) (inl d)) f in
        elim (seen-cases s n may w v g past a c.candidates watched m after (peer p) seen) [
          | inl old ↦ before old
          | inr r ↦ f (field-next p q d r before)
        ])
  ])

  rows_next : (x p : ℕ) → Contains c.candidates x → IsRowOf t.managed.managed t.peer.peers.issued x p → IsMade mk.heap p
  rows_next x p cx r =
      let cut = w.kept.managed.managed.dead c o in
      let live = cut.live x (((cut.candidates x).0 cx).0) in
      let holds : Holds s.managed.managed x r.handle = record { live = live; held = g.gains x r.handle live.made r.holds.held } in
      let i = w.kept.owners.held_ones x r.handle holds in
      let same : i.0 ≡ r.row = same_Some i.0 r.row (sym ((peer-entry s n w.kept).issued_on r.handle i.0 i.1) ∙ r.is_issued) in
      k.rows x p cx (record { handle = r.handle; holds = holds; row = i.0; is_issued = i.1; leads = ap (λ (z : Issued). z.peer) same ∙ r.leads })

  pub watch-next : IsMarkWatched longer a c t (later mk brought black)
  watch-next = record {
    begin = k.begin;
    begins = at-more past (m ∷ []) k.begin k.begins;
    later_on = k.later_on;
    made_then = λ p q. k.made_then p (at-front past (m ∷ []) k.begin k.begins q);
    old = λ p q l. k.old p q ((heap-entry s n).back p (q.0, omega (arith, q.1, (w.kept.peer.marking mk e0).made)) l);
    rows = rows_next;
    refs = k.refs ∙ sym refs;
    roots = λ p r. elim r [
      | inl i ↦ was-more past m a (peer p) (k.roots p (inl i))
      | inr x ↦ elim x [
        | inl d ↦ was-more past m a (peer p) (k.roots p (inr (inl d)))
        | inr d ↦ elim (back p d) [
          | inl was ↦ was-more past m a (peer p) (k.roots p (inr (inr was)))
          | inr i ↦ slot-seen t v longer a c o1 next p i
        ]
      ]
    ];
    edges = edges_next;
    fields = λ p l out. (
        let before : IsSeen past a (peer p) → ⊥ = λ q. out (seen-more past m a (peer p) q) in
        let made : IsMade s.peer.peers.heap p = (l.made.0, omega (arith, l.made.1, (w.kept.peer.marking mk e0).made)) in
        let no_slot : InSlot s.peer.peers.heap p → ⊥ = λ i. before
        (last-seen past a (state_of s w) (peer p) watched.last watched.started (Reached-start (IsJointRoot (state_of s w).graph) (JointEdge (state_of s w).graph) (peer p) (inl i))) in
        k.fields p l before ∙ sym ((heap-entry s n).frozen p made no_slot));
  }

-- what is reached was made
abbrev MadePeer : Linkage → Row → Type 0
MadePeer s (peer q) = IsMade s.peer.peers.heap q
MadePeer s (object x) = Unit {0}

first-made : (s : Linkage) (w : Stands s) (x : Row) → IsJointRoot (state_of s w).graph x → MadePeer s x
first-made s w (object x) r = tt
first-made s w (peer p) r = elim r [
  | inl i ↦ (w.kept.peer.heap.slots p i).made
  | inr t ↦ elim t [
    | inl e ↦ subst (λ z. IsMade s.peer.peers.heap z) e.leads (w.kept.peer.handles.peers e.handle e.row e.is_handle.issued)
    | inr e ↦ subst (λ z. IsMade s.peer.peers.heap z) e.leads (w.kept.peer.handles.peers e.handle e.row e.is_handle.issued)
  ]
]

next-made : (s : Linkage) (w : Stands s) (x y : Row) → JointEdge (state_of s w).graph x y → MadePeer s x → MadePeer s y
next-made s w (object x) (object y) e q = tt
next-made s w (object x) (peer p) e q = e.live.made
next-made s w (peer p) (object x) e q = tt
next-made s w (peer p) (peer r) e q = e.there.made

pub reached-made : (s : Linkage) (w : Stands s) (p : ℕ) → IsReached (state_of s w) (peer p) → IsMade s.peer.peers.heap p
reached-made s w p r = Reached-keeps (IsJointRoot (state_of s w).graph) (JointEdge (state_of s w).graph) (MadePeer s) (first-made s w) (next-made s w) (peer p) r

-- what the own sweep frees
pub record IsSweptWatch (past : List Moment) (a : ℕ) (c : OpenCycle) (s : Linkage) : Type 0 where
  pub begin : ℕ
  pub sweep : ℕ
  pub marking : ℕ
  pub swept : List ℕ
  pub begins : DriverBeginsAt past begin marking
  pub sweeps : SweepsAt past sweep marking swept
  pub later_on : a < begin
  pub in_order : begin < sweep
  pub objects : (m p : ℕ) → Contains c.candidates m → IsRowOf s.managed.managed s.peer.peers.issued m p
      → ((i : ℕ) (x : Moment) → a ≤ i → i ≤ sweep → slice_get past i ≡ Some x → IsReached x.after (object m) → ⊥) → Contains s.peer.peers.heap.freed p
  pub peers : (p : ℕ) → IsMadeBefore past begin p → ((i : ℕ) (x : Moment) → a ≤ i → i ≤ sweep → slice_get past i ≡ Some x → IsMade x.after.graph.peers.heap p → IsReached x.after (peer p) → ⊥)
      → IsPeerFreedAt past sweep p

module _ (s : Linkage) (w : Stands s) (past : List Moment) (a : ℕ) (c : OpenCycle) (o : s.managed.managed.cycle ≡ Some c)
    (watched : IsWatched past a c.candidates (state_of s w)) (mk : Marking) (k : IsMarkWatched past a c s mk) (freed : List ℕ) (sw : IsSweep s.peer mk freed) where
  -- a peer of the begin that was never seen is freed by the sweep, if it isn't yet
  unseen-freed : (p : ℕ) → IsMade s.peer.peers.heap p → IsMade mk.heap p → (IsSeen past a (peer p) → ⊥) → Contains (s.peer.peers.heap.freed ++ freed) p
  unseen-freed p made made_then out = elim (Contains-decided s.peer.peers.heap.freed p) [
    | inl f ↦ Contains-append_left s.peer.peers.heap.freed freed p f
    | inr n ↦ (
        let live : IsLive s.peer.peers.heap p = record { made = made; kept = n } in
        Contains-append_right s.peer.peers.heap.freed freed p ((sw.exact p).1 (live, k.old p made_then live, λ x. marked-seen past a c s mk k p x out)))
  ]

  pub row-freed : (m p : ℕ) → Contains c.candidates m → IsRowOf s.managed.managed s.peer.peers.issued m p → (IsSeen past a (object m) → ⊥) → Contains (s.peer.peers.heap.freed ++ freed) p
  row-freed m p cm r out = elim (Contains-decided s.peer.peers.heap.freed p) [
    | inl f ↦ Contains-append_left s.peer.peers.heap.freed freed p f
    | inr n ↦ (
        let made = subst (λ z. IsMade s.peer.peers.heap z) r.leads (w.kept.peer.handles.peers r.handle r.row r.is_issued) in
        let live : IsLive s.peer.peers.heap p = record { made = made; kept = n } in
        unseen-freed p made (k.rows m p cm r) (λ q. watched.closed (peer p) (object m) (λ h. h q) (row-joined s w past a c o watched m p r live) out))
  ]

  pub peer-swept : (p : ℕ) → IsMade s.peer.peers.heap p → IsMadeBefore past k.begin p → (IsSeen past a (peer p) → ⊥) → Contains (s.peer.peers.heap.freed ++ freed) p
  peer-swept p made q out = unseen-freed p made (k.made_then p q) out
