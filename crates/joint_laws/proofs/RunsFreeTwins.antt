-- A row that holds a handle on a freed peer: some sweep freed the peer, and neither of them was reached at the begin of
-- its marking or just before it. For just before the sweep the row held the handle and the peer was unfreed, so each
-- leads to the other; and so it was at the begin, since a row that took its handle since would have its peer spared. So
-- a candidate that a resolution frees, whose peer is freed, is freed with its peer.
use Rattle.std.proofs.Common.{◌≡◌, ℕ, suc, ◌⊎◌, inl, inr, List, ◌++◌, length, Option, Some, None, refl, sym, ap, subst, ◌∙◌, arith}
use Rattle.std.specs.Prelude.{Contains, slice_get}
use Rattle.std.proofs.lemmas.Option.{same_Some}
use Rattle.std.proofs.lemmas.List.Elements.{All-contains, Contains-append_cases}
use Rattle.joint_machine.specs.declared.names.Thread.{Thread}
use Rattle.joint_machine.specs.declared.events.Op.{Op}
use Rattle.joint_machine.specs.declared.events.Op.TheVariants as op
use Rattle.joint_machine.specs.declared.events.Reply.{Reply}
use Rattle.joint_machine.specs.Headline.{IsSweptFor}
use Rattle.joint_machine.specs.Heaps.{IsMade, IsLive}
use Rattle.joint_machine.specs.Joint.{Joint, JointMarking, opening, object, peer, JointEdge, IsJointRoot, IsReached, IsReachedIn}
use Rattle.joint_machine.specs.Linked.{Linkage, MayCome, linkage_after, SideLawful}
use Rattle.joint_machine.specs.Lines.{is_peer_event}
use Rattle.joint_machine.specs.Managed.{Holds}
use Rattle.joint_machine.specs.Peers.{Issued, strong, peer_of}
use Rattle.joint_machine.specs.PeerReplay.{Marking, IsSweep, SweepAllows}
use Rattle.joint_machine.specs.Run.{Moment, JointEvent, JointSweep, EndsMarking, IsStored, IsRunFrom}
use Rattle.joint_machine.specs.Told.{Told, Noted, sweep_of}
use Rattle.joint_machine.proofs.WalkLemmas.{Reached-then}
use Rattle.joint_laws.specs.LinkedInvariants.{HasStrength}
use Rattle.joint_laws.specs.PeerInvariants.{IsIssued, IsSpared}
use Rattle.joint_machine.proofs.Members.{Contains-decided}
use Rattle.joint_laws.proofs.PeerEntries.{peer_of-issued}
use Rattle.joint_laws.proofs.Sparing.{spared-stays}
use Rattle.joint_laws.proofs.SparedWalks.{peer_of-row}
use Rattle.joint_laws.proofs.JointSince.{held-before, peer-entry, open-there}
use Rattle.joint_laws.proofs.PeerFreed.{entry-freed, sweep-or}
use Rattle.joint_laws.proofs.LinkedEntries.{Of, BothInvariants-entry}
use Rattle.joint_laws.proofs.JointRuns.{state_of, IsTraced}
use Rattle.joint_laws.proofs.RunsAreSound.{step-at, origin}

-- what a sweep of the joint machine does
sweep-freed : (b a : Joint) (x : Option JointMarking) (t : Thread) (reply : Reply) (told : Told) → b.marking ≡ x → JointSweep b x t reply told a
    → (a.graph.peers.heap.freed ≡ b.graph.peers.heap.freed) ⊎ ((y : JointMarking) × (freed : List ℕ) × (b.marking ≡ Some y) × (told ≡ sweep_of freed) × EndsMarking b y t freed reply a)
sweep-freed b a None t reply told e w = inl (ap (λ (z : Joint). z.graph.peers.heap.freed) w.2)
sweep-freed b a (Some y) t reply (sweep_of freed) e w = elim w [
  | inl v ↦ inr (y, freed, e, refl, v)
  | inr v ↦ inl (ap (λ (z : Joint). z.graph.peers.heap.freed) v.state)
]
sweep-freed b a (Some y) t reply told e w = inl (ap (λ (z : Joint). z.graph.peers.heap.freed) w.state)

-- what a lawful sweep of an open marking frees
lawful-sweep : (s : Linkage) (n : Noted) (mk : Marking) (freed : List ℕ) → MayCome s n → n.entry.made.op ≡ op.Sweep → s.peer.marking ≡ Some mk → n.told ≡ sweep_of freed → IsSweep s.peer mk freed
lawful-sweep s n mk freed may e f g = w.1
  where
    allowed : SweepAllows s.peer s.peer.marking n.entry.made.caller n.told
    allowed = by n.entry.made.op e may.lawful
      where
        by : (o : Op) → o ≡ op.Sweep → SideLawful (is_peer_event n.entry.made.caller o) s
            (record { caller = n.entry.made.caller; index = n.entry.made.index; op = o; reply = n.entry.made.reply; cites = n.entry.made.cites }) n.told
            → SweepAllows s.peer s.peer.marking n.entry.made.caller n.told
        by o q l = (subst (λ z. SideLawful (is_peer_event n.entry.made.caller z) s
            (record { caller = n.entry.made.caller; index = n.entry.made.index; op = z; reply = n.entry.made.reply; cites = n.entry.made.cites }) n.told) q l).allowed

    w : SweepAllows s.peer (Some mk) n.entry.made.caller (sweep_of freed)
    w = subst (λ z. SweepAllows s.peer (Some mk) n.entry.made.caller z) g (subst (λ z. SweepAllows s.peer z n.entry.made.caller n.told) f allowed)

-- the rows that hold handles on freed peers
abbrev pub TwinsSwept : List Moment → ℕ → Joint → Type 0
TwinsSwept run i j = (x h p : ℕ) → Holds j.graph.managed x h → peer_of j.graph.peers.issued h ≡ Some p → Contains j.graph.peers.heap.freed p → IsSweptFor run i p (object x)

later-limit : (run : List Moment) (i p x : ℕ) → IsSweptFor run i p (object x) → IsSweptFor run (suc i) p (object x)
later-limit run i p x w = record {
  marking = w.marking;
  begin = w.begin;
  sweep = w.sweep;
  freed = w.freed;
  begins = w.begins;
  sweeps = w.sweeps;
  in_order = w.in_order;
  in_time = (let l = w.in_time in omega arith);
  frees = w.frees;
  row = w.row;
  itself = w.itself;
}

module _ (run : List Moment) (steps : IsRunFrom opening run) (traced : (m : Moment) → Contains run m → IsTraced m) where
  -- at a sweep that frees the peer
  swept-now : (i : ℕ) (m : Moment) → slice_get run i ≡ Some m → (t : IsTraced m) → m.noted.entry.made.op ≡ op.Sweep → (y : JointMarking) (freed : List ℕ)
      → m.before.marking ≡ Some y → m.noted.told ≡ sweep_of freed → EndsMarking m.before y m.noted.entry.made.caller freed m.noted.entry.made.reply m.after
      → (x h p : ℕ) (i0 : Issued) → Holds t.state.managed.managed x h → IsIssued t.state.peer.peers.issued h i0
      → i0.peer ≡ p → IsLive t.state.peer.peers.heap p → Contains freed p → IsSweptFor run (suc i) p (object x)
  swept-now i m there t e y freed open_now told w x h p i0 q iss on live c =
      let o = origin run steps i m there y open_now in
      let stored = All-contains (IsStored y) freed p w.stored c in
      let unreached = All-contains (λ z. IsReached m.before (peer z) → ⊥) freed p w.unreached c in
      let open_here : t.stands.marking ≡ Some y = sym (ap (λ (z : Joint). z.marking) t.before) ∙ open_now in
      let mk = open-there t.state.peer.marking t.stands.marking y t.stands.agrees.markings open_here in
      let sweep : IsSweep t.state.peer mk.0 freed = lawful-sweep t.state m.noted mk.0 freed t.may e mk.1 told in
      record {
        marking = y.number;
        begin = o.begin;
        sweep = i;
        freed = freed;
        begins = o.begins;
        sweeps = record { element = m; there = there; is = (e, record { first = length m.before.graph.peers.heap.freed; count = length freed }, w.replies, told) };
        in_order = o.earlier;
        in_time = omega arith;
        frees = c;
        row = record {
          at_begin = λ b at v. elim (t.stands.since y open_here mk.0 mk.1 x h i0 q iss) [
            | inr spared ↦ spared-stays t.state.peer mk.0 freed p sweep (subst (IsSpared mk.0) on spared) c
            | inl then ↦ stored.unreached (Reached-then (IsJointRoot y.begun) (JointEdge y.begun) (object x) (peer p) (subst (λ g. IsReachedIn g (object x)) (o.graph b at) v)
                (record { handle = h; holds = then.0; leads = peer_of-issued y.begun.peers.issued h i0 then.1 ∙ ap Some on; live = stored.existed }))
          ];
          before_sweep = λ b at v. (
              let here : IsReached (state_of t.state t.stands) (object x) = subst (λ z. IsReached z (object x)) t.before
              (subst (λ (z : Moment). IsReached z.before (object x)) (same_Some b m (sym at ∙ there)) v) in
              unreached (subst (λ z. IsReached z (peer p)) (sym t.before)
              (Reached-then (IsJointRoot (state_of t.state t.stands).graph) (JointEdge (state_of t.state t.stands).graph) (object x) (peer p) here
              (record { handle = h; holds = q; leads = peer_of-issued t.state.peer.peers.issued h i0 iss ∙ ap Some on; live = live }))));
        };
        itself = record {
          at_begin = λ b at v. stored.unreached (subst (λ g. IsReachedIn g (peer p)) (o.graph b at) v);
          before_sweep = λ b at v. unreached (subst (λ (z : Moment). IsReached z.before (peer p)) (same_Some b m (sym at ∙ there)) v);
        };
      }

  pub twins-next : (i : ℕ) (m : Moment) → slice_get run i ≡ Some m → (t : IsTraced m) → TwinsSwept run i m.before → TwinsSwept run (suc i) (state_of (linkage_after t.state m.noted) t.next)
  twins-next i m there t before x h p q leads c = elim (held-before t.state m.noted t.may t.stands.kept after x h q) [
    | inr s ↦ absurd (strong-live s)
    | inl old ↦ held-old old
  ]
    where
      after : Of (linkage_after t.state m.noted)
      after = BothInvariants-entry t.state m.noted t.may t.stands.kept

      row : (i1 : Issued) × IsIssued (linkage_after t.state m.noted).peer.peers.issued h i1 × (i1.peer ≡ p)
      row = peer_of-row (linkage_after t.state m.noted).peer.peers.issued h p leads

      strong-live : HasStrength (linkage_after t.state m.noted).peer h strong → ⊥
      strong-live s =
          let l = after.peer.handles.uncleared h s.0 row.0 s.1 row.1 (after.peer.handles.sure h s.0 s.1 s.2) in
          l.kept (subst (λ z. Contains (linkage_after t.state m.noted).peer.peers.heap.freed z) (sym row.2) c)

      held-old : Holds t.state.managed.managed x h → IsSweptFor run (suc i) p (object x)
      held-old old =
          let i0 = t.stands.kept.owners.held_ones x h old in
          let same : i0.0 ≡ row.0 = same_Some i0.0 row.0 (sym ((peer-entry t.state m.noted t.stands.kept).issued_on h i0.0 i0.1) ∙ row.1) in
          let on : i0.0.peer ≡ p = ap (λ (z : Issued). z.peer) same ∙ row.2 in
          elim (Contains-decided t.state.peer.peers.heap.freed p) [
            | inl was ↦ later-limit run i p x (before x h p (subst (λ z. Holds z.graph.managed x h) (sym t.before) old)
                (subst (λ z. peer_of z.graph.peers.issued h ≡ Some p) (sym t.before) (peer_of-issued t.state.peer.peers.issued h i0.0 i0.1 ∙ ap Some on))
                (subst (λ z. Contains z.graph.peers.heap.freed p) (sym t.before) was))
            | inr not_yet ↦ now old i0.0 i0.1 on not_yet
          ]
        where
          now : Holds t.state.managed.managed x h → (i0 : Issued) → IsIssued t.state.peer.peers.issued h i0
              → i0.peer ≡ p → (Contains t.state.peer.peers.heap.freed p → ⊥) → IsSweptFor run (suc i) p (object x)
          now old i0 iss on not_yet =
              let live : IsLive t.state.peer.peers.heap p = record { made = subst (λ z. IsMade t.state.peer.peers.heap z) on (t.stands.kept.peer.handles.peers h i0 iss); kept = not_yet } in
              elim (sweep-or m.noted.entry.made.op) [
                | inr no_sweep ↦ absurd (not_yet (subst (λ z. Contains z p) (entry-freed t.state m.noted t.stands.kept.peer no_sweep) c))
                | inl e ↦ (
                    let st : JointSweep m.before m.before.marking m.noted.entry.made.caller m.noted.entry.made.reply m.noted.told m.after =
                    subst (λ z. JointEvent m.before m.noted.entry.made.caller z m.noted.entry.made.reply m.noted.told m.after) e (step-at run opening i m steps there).step in
                    elim (sweep-freed m.before m.after m.before.marking m.noted.entry.made.caller m.noted.entry.made.reply m.noted.told refl st) [
                      | inl same_freed ↦ absurd (not_yet (subst (λ z. Contains z.graph.peers.heap.freed p) t.before
                          (subst (λ z. Contains z p) same_freed (subst (λ z. Contains z.graph.peers.heap.freed p) (sym t.after) c))))
                      | inr v ↦ (
                          let all : Contains (m.before.graph.peers.heap.freed ++ v.1) p = subst (λ (z : Joint). Contains z.graph.peers.heap.freed p) v.4.state
                          (subst (λ z. Contains z.graph.peers.heap.freed p) (sym t.after) c) in
                          elim (Contains-append_cases m.before.graph.peers.heap.freed v.1 p all) [
                            | inl w ↦ absurd (not_yet (subst (λ z. Contains z.graph.peers.heap.freed p) t.before w))
                            | inr w ↦ swept-now i m there t e v.0 v.1 v.2 v.3 v.4 x h p i0 old iss on live w
                          ])
                    ])
              ]
