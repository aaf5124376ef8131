-- The union of what is reached from some state to a later one is closed under the joint edges of each state between, if
-- no peer is freed from it on. Let x be reached at some state of the interval. Where that is later, the edge is
-- followed from the given state on: it stands, or its end was reached meanwhile, or x is freed, and then x isn't
-- reached. Where it is earlier, the edge is followed back: it stood already, or its end was in a slot or reached when
-- it came. So nothing has to be decided of what is reached. The edges of a marking are such walks: a field is a joint
-- edge; a mirrored reference leads from the peer of a candidate to that of another one, to which managed fields lead.
use Rattle.std.proofs.Common.{◌≡◌, ℕ, zero, suc, ◌+◌, ◌-◌, ◌≤◌, ◌⊎◌, inl, inr, Bool, true, false, ◌||◌, List, [], length, Option, Some, None, refl, sym, ap, subst, ◌∙◌, arith}
use Rattle.std.specs.Prelude.{Contains, if◌then◌else◌, slice_get}
use Rattle.std.proofs.lemmas.Bool.{cases_lt}
use Rattle.std.proofs.lemmas.Option.{same_Some}
use Rattle.std.proofs.lemmas.List.{take_all}
use Rattle.joint_machine.specs.declared.names.Thread.{Thread}
use Rattle.joint_machine.specs.declared.names.Thread.TheVariants.{C}
use Rattle.joint_machine.specs.declared.events.Op.{Op}
use Rattle.joint_machine.specs.declared.events.Op.TheVariants as op
use Rattle.joint_machine.specs.declared.events.Reply.TheVariants as says
use Rattle.joint_machine.specs.declared.events.Made.{Made}
use Rattle.joint_machine.specs.Control.{Stand, idle, snapped, contracted, weakening, marked, restoring, restored}
use Rattle.joint_machine.specs.Heaps.{IsLive, HasField, answer}
use Rattle.joint_machine.specs.Joined.{graph_at}
use Rattle.joint_machine.specs.Joint.{Graph, Row, object, peer, JointEdge, IsJoined, IsJointRoot, IsReachedIn}
use Rattle.joint_machine.specs.Lines.{is_peer_event}
use Rattle.joint_machine.specs.Linked.{Linkage, opening_linkage, linkage_after, peer_after}
use Rattle.joint_machine.specs.Replaying.{AllMayCome, replayed}
use Rattle.joint_machine.specs.Managed.{OpenCycle, ManagedEdge}
use Rattle.joint_machine.specs.PeerReplay.{PeerReplay, Marking, MarkingEdge, HasReference, is_thread, begun, swept, swept_of, peer_answer}
use Rattle.joint_machine.specs.Told.{Told, Noted, sweep_of}
use Rattle.joint_machine.specs.Walks.{Reaches}
use Rattle.joint_machine.proofs.Deciding.{none_some}
use Rattle.joint_machine.proofs.Numbered.{numbered-made}
use Rattle.joint_machine.proofs.WalkLemmas.{Reached-keeps, Reached-then, Reaches-keeps, Reaches-self, Reaches-then, Reaches-trans, Reaches-edge}
use Rattle.joint_laws.specs.LinkedInvariants.{IsRowOf, IsMirrored, DriverInvariant}
use Rattle.joint_laws.specs.LinkedLaws.{IsOpenUntil}
use Rattle.joint_laws.specs.States.{state_at}
use Rattle.joint_laws.specs.UnionLaws.{BeginsMarking, graph_in, IsReachedBetween, UnionIsClosed, UnionFollowsMarking}
use Rattle.joint_laws.proofs.DeadMirrors.{mirror_edge-managed}
use Rattle.joint_laws.proofs.Edges.{graph_with, IsFreed, edge-before, edge-after}
use Rattle.joint_laws.proofs.Everywhere.{everywhere}
use Rattle.joint_laws.proofs.FreedLists.{grows-Contains, managed-grows}
use Rattle.joint_laws.proofs.LinkedEntries.{Of, BothInvariants-entry, BothInvariants-opening}
use Rattle.joint_laws.proofs.PeerEntries.{peer_of-issued}
use Rattle.joint_laws.proofs.PeerFreed.{entry-freed, sweep-or}
use Rattle.joint_laws.proofs.Places.{comes-at, after-at}

-- an entry after which a marking is open frees no peer
swept-still : (s : PeerReplay) (x : Option Marking) (t : Thread) (freed : List ℕ) → ((swept s x t freed).state.marking ≡ None → ⊥) → (swept s x t freed).state.peers.heap.freed ≡ s.peers.heap.freed
swept-still s None t freed on = refl
swept-still s (Some mk) t freed on = by (is_thread t C || is_thread t mk.by) on
  where
    by : (b : Bool) → ((if b then swept_of s mk freed else answer (says.MarkOpen record { 0 = mk.number }) s).state.marking ≡ None → ⊥)
        → (if b then swept_of s mk freed else answer (says.MarkOpen record { 0 = mk.number }) s).state.peers.heap.freed ≡ s.peers.heap.freed
    by true f = absurd (f refl)
    by false f = refl

sweep-still : (s : PeerReplay) (t : Thread) (cites : Option ℕ) (told : Told) → ((peer_answer s t op.Sweep cites told).state.marking ≡ None → ⊥)
    → (peer_answer s t op.Sweep cites told).state.peers.heap.freed ≡ s.peers.heap.freed
sweep-still s t cites (sweep_of freed) on = swept-still s s.marking t freed on
sweep-still s t cites _ on = swept-still s s.marking t [] on

still-by : (s : Linkage) (m : Made) (told : Told) (o : Op) → m.op ≡ o → o ≡ op.Sweep → ((peer_after s.peer m told (is_peer_event m.caller m.op)).marking ≡ None → ⊥)
    → (peer_after s.peer m told (is_peer_event m.caller m.op)).peers.heap.freed ≡ s.peer.peers.heap.freed
still-by s m told o e f = subst (λ z. ((peer_after s.peer (record m { op = z }) told (is_peer_event m.caller z)).marking ≡ None → ⊥)
    → (peer_after s.peer (record m { op = z }) told (is_peer_event m.caller z)).peers.heap.freed ≡ s.peer.peers.heap.freed) (sym (e ∙ f)) (sweep-still s.peer m.caller m.cites told)

pub open-still : (s : Linkage) (n : Noted) → Of s → ((linkage_after s n).peer.marking ≡ None → ⊥) → (linkage_after s n).peer.peers.heap.freed ≡ s.peer.peers.heap.freed
open-still s n k on = elim (sweep-or n.entry.made.op) [
  | inl e ↦ still-by s n.entry.made n.told n.entry.made.op refl e on
  | inr e ↦ entry-freed s n k.peer e
]

-- what is reached isn't freed
pub reached-live : (s : Linkage) (fs : List Bool) (x : Row) → Of s → IsReachedIn (graph_with s fs) x → IsFreed s x → ⊥
reached-live s fs x k r c = Reached-keeps (IsJointRoot (graph_with s fs)) (JointEdge (graph_with s fs)) (λ y. IsFreed s y → ⊥) root edge x r c
  where
    root : (y : Row) → IsJointRoot (graph_with s fs) y → IsFreed s y → ⊥
    root (object y) q f = (k.managed.managed.roots y q).kept f
    root (peer p) q f = f

    edge : (y z : Row) → JointEdge (graph_with s fs) y z → (IsFreed s y → ⊥) → IsFreed s z → ⊥
    edge (object y) (object z) e q f = e.there.kept f
    edge (peer p) (object z) e q f = e.holds.live.kept f
    edge (object y) (peer p) e q f = f
    edge (peer p) (peer q) e w f = f

module _ (noted : List Noted) (may : AllMayCome opening_linkage noted) where
  abbrev at : ℕ → Linkage
  at p = state_at noted p

  kept-at : (p : ℕ) → Of (at p)
  kept-at p = everywhere Of BothInvariants-opening BothInvariants-entry noted may p

  abbrev G : ℕ → Graph
  G p = graph_in noted p

  -- the next state is after an entry, or the same
  next-or : (p : ℕ) → ((n : Noted) × (slice_get noted p ≡ Some n)) ⊎ (at (suc p) ≡ at p)
  next-or p = elim (cases_lt p (length noted)) [
    | inl l ↦ inl (numbered-made noted (suc p) (omega arith) (omega (arith, l)))
    | inr l ↦ inr (ap (λ ns. replayed opening_linkage ns) (take_all (suc p) noted (omega (arith, l)) ∙ sym (take_all p noted l)))
  ]

  -- one state back
  step-back : (p : ℕ) (x y : Row) → JointEdge (G (suc p)) x y → JointEdge (G p) x y ⊎ IsReachedIn (G p) y ⊎ IsReachedIn (G (suc p)) y
  step-back p x y e = elim (next-or p) [
    | inl n ↦ (
        let same = after-at noted p n.0 n.1 in
        subst (λ (z : Linkage). JointEdge (G p) x y ⊎ IsReachedIn (G p) y ⊎ IsReachedIn (graph_at z.managed.managed z.peer) y) (sym same)
        (edge-before (at p) n.0 (comes-at noted p n.0 may n.1) (kept-at p) (subst Of same (kept-at (suc p))) _ _ x y
        (subst (λ (z : Linkage). JointEdge (graph_at z.managed.managed z.peer) x y) same e)))
    | inr same ↦ inl (subst (λ (z : Linkage). JointEdge (graph_at z.managed.managed z.peer) x y) same e)
  ]

  -- one state on, while a marking is open after it
  abbrev AfterStep : ℕ → Row → Row → Type 0
  AfterStep p x y = JointEdge (G (suc p)) x y ⊎ IsReachedIn (G p) y ⊎ IsFreed (at (suc p)) x

  step-on : (p : ℕ) → ((at (suc p)).peer.marking ≡ None → ⊥) → (x y : Row) → JointEdge (G p) x y → AfterStep p x y
  step-on p on x y e = elim (next-or p) [
    | inl n ↦ (
        let same = after-at noted p n.0 n.1 in
        let still = open-still (at p) n.0 (kept-at p) (λ f. on (ap (λ (z : Linkage). z.peer.marking) same ∙ f)) in
        subst (λ (z : Linkage). JointEdge (graph_at z.managed.managed z.peer) x y ⊎ IsReachedIn (G p) y ⊎ IsFreed z x) (sym same)
        ((edge-after (at p) n.0 (comes-at noted p n.0 may n.1) (kept-at p) (subst Of same (kept-at (suc p))) _ _ still x y e)))
    | inr same ↦ inl (subst (λ (z : Linkage). JointEdge (graph_at z.managed.managed z.peer) x y) (sym same) e)
  ]

  -- what was reached between stays so in a longer interval
  between-to : (a b c : ℕ) (x : Row) → b ≤ c → IsReachedBetween noted a b x → IsReachedBetween noted a c x
  between-to a b c x l w = record { place = w.place; later = w.later; earlier = (let e = w.earlier in omega (arith, e, l)); reached = w.reached }

  -- what is freed stays freed
  freed-on : (p : ℕ) (x : Row) → IsFreed (at p) x → IsFreed (at (suc p)) x
  freed-on p (peer q) f = f
  freed-on p (object x) f = elim (next-or p) [
    | inl n ↦ subst (λ (z : Linkage). Contains z.managed.managed.heap.freed x) (sym (after-at noted p n.0 n.1))
        (grows-Contains _ _ x (managed-grows (at p) n.0 (comes-at noted p n.0 may n.1) (kept-at p)) f)
    | inr same ↦ subst (λ (z : Linkage). Contains z.managed.managed.heap.freed x) (sym same) f
  ]

  -- back from a state to an earlier one
  back : (p d : ℕ) (x y : Row) → JointEdge (G (p + d)) x y → JointEdge (G p) x y ⊎ IsReachedBetween noted p (p + d) y
  back p zero x y e = inl (let same : p + 0 ≡ p = omega arith in subst (λ q. JointEdge (G q) x y) same e)
  back p (suc d) x y e = elim (step-back (p + d) x y (let same : p + suc d ≡ suc (p + d) = omega arith in subst (λ q. JointEdge (G q) x y) same e)) [
    | inl f ↦ elim (back p d x y f) [
      | inl g ↦ inl g
      | inr g ↦ inr (between-to p (p + d) (p + suc d) y (omega arith) g)
    ]
    | inr r ↦ elim r [
      | inl g ↦ inr (record { place = p + d; later = omega arith; earlier = omega arith; reached = g })
      | inr g ↦ inr (record { place = suc (p + d); later = omega arith; earlier = omega arith; reached = g })
    ]
  ]

  -- on from a state to a later one
  on_from : (i d : ℕ) → IsOpenUntil noted i d → (x y : Row) → JointEdge (G i) x y → JointEdge (G (i + d)) x y ⊎ IsReachedBetween noted i (i + d) y ⊎ IsFreed (at (i + d)) x
  on_from i zero open_on x y e = inl (let same : i ≡ i + 0 = omega arith in subst (λ q. JointEdge (G q) x y) same e)
  on_from i (suc d) open_on x y e =
      let same : i + suc d ≡ suc (i + d) = omega arith in
      elim (on_from i d (λ k l. open_on k (omega (arith, l))) x y e) [
        | inl f ↦ elim (step-on (i + d) (λ f. open_on (suc d) (omega arith) (ap (λ q. (at q).peer.marking) same ∙ f)) x y f) [
          | inl g ↦ inl (subst (λ q. JointEdge (G q) x y) (sym same) g)
          | inr r ↦ elim r [
            | inl g ↦ inr (inl (record { place = i + d; later = omega arith; earlier = omega arith; reached = g }))
            | inr g ↦ inr (inr (subst (λ q. IsFreed (at q) x) (sym same) g))
          ]
        ]
        | inr r ↦ elim r [
          | inl g ↦ inr (inl (between-to i (i + d) (i + suc d) y (omega arith) g))
          | inr g ↦ inr (inr (subst (λ q. IsFreed (at q) x) (sym same) (freed-on (i + d) x g)))
        ]
      ]

  closed : (a i more : ℕ) → a ≤ i → IsOpenUntil noted i more → (x y : Row) → IsReachedBetween noted a (i + more) x → JointEdge (G i) x y → IsReachedBetween noted a (i + more) y
  closed a i more l open_on x y w e = elim (cases_lt w.place i) [
    | inl p ↦ (
        let d = i - w.place in
        let same : w.place + d ≡ i = omega (arith, p) in
        elim (back w.place d x y (subst (λ q. JointEdge (G q) x y) (sym same) e)) [
          | inl f ↦ record { place = w.place; later = w.later; earlier = w.earlier; reached = Reached-then (IsJointRoot (G w.place)) (JointEdge (G w.place)) x y w.reached f }
          | inr r ↦ record { place = r.place; later = (let q = r.later in let v = w.later in omega arith); earlier = (let q = r.earlier in omega (arith, q, same)); reached = r.reached }
        ])
    | inr p ↦ (
        let d = w.place - i in
        let same : i + d ≡ w.place = omega (arith, p) in
        elim (on_from i d (λ k q. open_on k (let v = w.earlier in omega (arith, q, v, same))) x y e) [
          | inl f ↦ record {
            place = w.place;
            later = w.later;
            earlier = w.earlier;
            reached = Reached-then (IsJointRoot (G w.place)) (JointEdge (G w.place)) x y w.reached (subst (λ q. JointEdge (G q) x y) same f);
          }
          | inr r ↦ elim r [
            | inl f ↦ record { place = f.place; later = (let q = f.later in omega (arith, q, l)); earlier = (let q = f.earlier in let v = w.earlier in omega (arith, q, v, same)); reached = f.reached }
            | inr f ↦ absurd (reached-live (at w.place) _ x (kept-at w.place) w.reached (subst (λ q. IsFreed (at q) x) same f))
          ]
        ])
  ]

  -- and so under walks
  closed-walk : (a i more : ℕ) → a ≤ i → IsOpenUntil noted i more → (x y : Row) → Reaches (JointEdge (G i)) x y → IsReachedBetween noted a (i + more) x → IsReachedBetween noted a (i + more) y
  closed-walk a i more l open_on x y r w = Reaches-keeps (JointEdge (G i)) (λ z. IsReachedBetween noted a (i + more) z) (λ u v e q. closed a i more l open_on u v q e) x y r w

pub union_is_closed : UnionIsClosed
union_is_closed noted may a i more l open_on x y w e = closed noted may a i more l open_on x y w e

-- a mirrored reference is a joint walk
module _ (s : Linkage) (k : Of s) (flags : List Bool) where
  managed-joint : (a b : ℕ) → Reaches (ManagedEdge s.managed.managed) a b → Reaches (JointEdge (graph_with s flags)) (object a) (object b)
  managed-joint a b r = Reaches-keeps (ManagedEdge s.managed.managed) (λ x. Reaches (JointEdge (graph_with s flags)) (object a) (object x))
      (λ x y e q. Reaches-then (JointEdge (graph_with s flags)) (object a) (object x) (object y) q e) a b r (Reaches-self (JointEdge (graph_with s flags)) (object a))

  row-joined : (a p : ℕ) → IsRowOf s.managed.managed s.peer.peers.issued a p → IsLive s.peer.peers.heap p → IsJoined (graph_with s flags) a p
  row-joined a p w l = record { handle = w.handle; holds = w.holds; leads = peer_of-issued s.peer.peers.issued w.handle w.row w.is_issued ∙ ap Some w.leads; live = l }

  mirror-joint : (c : OpenCycle) → s.managed.managed.cycle ≡ Some c → IsMirrored s.managed s.peer c → (p q : ℕ)
      → HasReference s.peer.peers.heap s.peer.refs p q → Reaches (JointEdge (graph_with s flags)) (peer p) (peer q)
  mirror-joint c o m p q e =
      let w = (m.exact p q).0 e.reference in
      let walk = mirror_edge-managed s.managed.managed c (k.managed.managed.dead c o) m.comps m.heavy m.xrefs m.contraction w.0 w.1 w.2 in
      Reaches-then (JointEdge (graph_with s flags)) (peer p) (object w.1) (peer q)
      (Reaches-trans (JointEdge (graph_with s flags)) (peer p) (object w.0) (object w.1)
      (Reaches-edge (JointEdge (graph_with s flags)) (peer p) (object w.0) (row-joined w.0 p w.3 e.live)) (managed-joint w.0 w.1 walk))
      (row-joined w.1 q w.4 e.there)

  by-stand : (st : Stand) → DriverInvariant s.managed s.peer st → (p q : ℕ) → HasReference s.peer.peers.heap s.peer.refs p q → Reaches (JointEdge (graph_with s flags)) (peer p) (peer q)
  by-stand idle d p q e = absurd (k.peer.references.none d.none p q e.reference)
  by-stand (snapped o) d p q e = absurd (k.peer.references.none d.none p q e.reference)
  by-stand (contracted o comps heavy xrefs) d p q e = absurd (k.peer.references.none d.before.none p q e.reference)
  by-stand (weakening o count seen sw) d p q e = mirror-joint d.cycle d.opened.cycle d.mirror p q e
  by-stand (marked o) d p q e = mirror-joint d.cycle d.opened.cycle d.mirror p q e
  by-stand (restoring o answers) d p q e = mirror-joint d.cycle d.opened.cycle d.mirror p q e
  by-stand (restored o answers clear) d p q e = absurd (k.peer.references.none d.none p q e.reference)

  edge-joint : (p q : ℕ) → HasReference s.peer.peers.heap s.peer.refs p q → Reaches (JointEdge (graph_with s flags)) (peer p) (peer q)
  edge-joint p q e = by-stand s.control.stand k.driver p q e

-- a marking has the heap and the references of its begin
record KeepsBegin (s : PeerReplay) (mk : Marking) : Type 0 where
  heap : mk.heap ≡ s.peers.heap
  refs : mk.refs ≡ s.refs

begun-keeps : (s : PeerReplay) (x : Option Marking) (t : Thread) (mk : Marking) → x ≡ None → (begun s x t).state.marking ≡ Some mk → KeepsBegin (begun s x t).state mk
begun-keeps s None t mk e f = let g = same_Some _ mk f in record { heap = sym (ap (λ (z : Marking). z.heap) g); refs = sym (ap (λ (z : Marking). z.refs) g) }
begun-keeps s (Some m) t mk e f = absurd (none_some m (sym e))

begin-keeps : (s : Linkage) (m : Made) (told : Told) (mk : Marking) → m.op ≡ op.Begin → s.peer.marking ≡ None
    → (peer_after s.peer m told (is_peer_event m.caller m.op)).marking ≡ Some mk → KeepsBegin (peer_after s.peer m told (is_peer_event m.caller m.op)) mk
begin-keeps s m told mk e f = subst (λ o. (peer_after s.peer (record m { op = o }) told (is_peer_event m.caller o)).marking ≡ Some mk
    → KeepsBegin (peer_after s.peer (record m { op = o }) told (is_peer_event m.caller o)) mk) (sym e) (begun-keeps s.peer s.peer.marking m.caller mk f)

-- so each edge of a marking is a joint walk at its begin
pub marking-walk : (noted : List Noted) → AllMayCome opening_linkage noted → (i : ℕ) (mk : Marking)
    → BeginsMarking noted i mk → (p q : ℕ) → MarkingEdge mk p q → Reaches (JointEdge (graph_in noted (suc i))) (peer p) (peer q)
marking-walk noted may i mk b p q e =
    let s = state_at noted (suc i) in
    let kept : Of s = everywhere Of BothInvariants-opening BothInvariants-entry noted may (suc i) in
    let n = b.event.element in
    let same = after-at noted i n b.event.there in
    let begin : KeepsBegin s.peer mk = subst (λ (z : Linkage). KeepsBegin z.peer mk) (sym same)
    (begin-keeps (state_at noted i) n.entry.made n.told mk b.event.is b.closed (ap (λ (z : Linkage). z.peer.marking) (sym same) ∙ b.opened)) in
    elim e [
      | inl f ↦ Reaches-edge (JointEdge (graph_in noted (suc i))) (peer p) (peer q) (subst (λ z. HasField z p q) begin.heap f)
      | inr f ↦ edge-joint s kept _ p q (subst (λ z. HasReference s.peer.peers.heap z p q) begin.refs (subst (λ z. HasReference z mk.refs p q) begin.heap f))
    ]

pub union_follows_marking : UnionFollowsMarking
union_follows_marking noted may a i more mk b l open_on p q w e = closed-walk noted may a (suc i) more l open_on (peer p) (peer q) (marking-walk noted may i mk b p q e) w
