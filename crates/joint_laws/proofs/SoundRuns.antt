-- The joint projection of a lawful list of entries is a sound run: each candidate that a resolution frees held a handle
-- whose peer was freed, for otherwise the candidate would be kept; and the other clauses hold in every run.
use Rattle.std.proofs.Common.{◌≡◌, ℕ, zero, suc, inl, inr, List, [], Some, sym, ap, subst, ◌∙◌, arith}
use Rattle.std.specs.Prelude.{Contains, slice_get}
use Rattle.std.proofs.lemmas.Option.{same_Some}
use Rattle.joint_machine.specs.declared.events.Op.TheVariants as op
use Rattle.joint_machine.specs.Headline.{ResolvesAt, IsUnreachedBefore, IsFreedWithPeer, IsCandidateBefore, IsSoundRun}
use Rattle.joint_machine.specs.Joint.{Joint, opening, object, IsReached}
use Rattle.joint_machine.specs.Linked.{linkage_after}
use Rattle.joint_machine.specs.Managed.{OpenCycle, Holds, IsBridge, ManagedEdge}
use Rattle.joint_machine.specs.Peers.{peer_of}
use Rattle.joint_machine.specs.Run.{Moment, JointEvent, JointResolve, IsKept, IsRunFrom, IsRun}
use Rattle.joint_machine.specs.Told.{Noted}
use Rattle.joint_machine.specs.Walks.{Reaches}
use Rattle.joint_machine.proofs.WalkLemmas.{Reaches-self}
use Rattle.joint_laws.specs.ManagedInvariants.{ManagedInvariant}
use Rattle.joint_machine.proofs.Members.{Contains-decided, Contains-at}
use Rattle.joint_machine.proofs.Numbered.{numbered-within}
use Rattle.joint_laws.proofs.PeerEntries.{peer_of-issued}
use Rattle.joint_laws.proofs.ManagedFrees.{resolution-unreached}
use Rattle.joint_laws.proofs.JointRuns.{state_of, IsTraced}
use Rattle.joint_laws.proofs.RunsAreSound.{step-at, next-before, first-before, earlier-there, sweeps_are_sound, snapshots_are_sound}
use Rattle.joint_laws.proofs.RunsFreeTwins.{TwinsSwept, twins-next}

module _ (run : List Moment) (steps : IsRunFrom opening run) (traced : (m : Moment) → Contains run m → IsTraced m) where
  trace : (i : ℕ) (m : Moment) → slice_get run i ≡ Some m → IsTraced m
  trace i m e = traced m (Contains-at run i m e)

  -- just before each entry
  twins : (i : ℕ) (m : Moment) → slice_get run i ≡ Some m → TwinsSwept run i m.before
  twins zero m e = subst (λ z. TwinsSwept run zero z) (sym (first-before run opening m steps e)) (λ x h p q l c. absurd (nobody x h q))
    where
      nobody : (x h : ℕ) → Holds opening.graph.managed x h → ⊥
      nobody x h q = (let w = numbered-within [] x (Some h) q.held in omega (arith, w.0, w.1))
  twins (suc i) m e =
      let p = earlier-there run i m e in
      let t = trace i p.0 p.1 in
      let next : m.before ≡ state_of (linkage_after t.state p.0.noted) t.next = next-before run opening i p.0 m steps p.1 e ∙ t.after in
      subst (λ z. TwinsSwept run (suc i) z) (sym next) (twins-next run steps traced i p.0 p.1 t (twins i p.0 p.1))

  -- a resolution of the run
  resolve-event : (i k : ℕ) (freed : List ℕ) (w : ResolvesAt run i k freed) → JointResolve w.element.before k freed w.element.noted.entry.made.reply w.element.after
  resolve-event i k freed w =
      let m = w.element in
      subst (λ z. JointEvent m.before m.noted.entry.made.caller (op.Resolve record { 0 = k }) m.noted.entry.made.reply z m.after) w.is.2
      (subst (λ z. JointEvent m.before m.noted.entry.made.caller z m.noted.entry.made.reply m.noted.told m.after) w.is.0 (step-at run opening i m steps w.there).step)

  kept_before : (i : ℕ) (m : Moment) → slice_get run i ≡ Some m → ManagedInvariant m.before.graph.managed
  kept_before i m e = let t = trace i m e in subst (λ (z : Joint). ManagedInvariant z.graph.managed) (sym t.before) t.stands.kept.managed.managed

  resolved : (i k m : ℕ) (freed : List ℕ) → ResolvesAt run i k freed → Contains freed m → IsUnreachedBefore run i (object m)
  resolved i k m freed w c x e v =
      let r = resolve-event i k freed w in
      resolution-unreached w.element.before r.cycle freed (kept_before i w.element w.there) r.open_cycle.0 r.resolution m c
      (subst (λ (z : Moment). IsReached z.before (object m)) (same_Some x w.element (sym e ∙ w.there)) v)

  -- a candidate that is freed has a freed peer
  freed-peer : (j : Joint) (c : OpenCycle) (m h p : ℕ) (freed : List ℕ) → ((x : ℕ) → Contains freed x → (((y : ℕ) × IsKept j c y × Reaches (ManagedEdge j.graph.managed) y x) → ⊥))
      → Contains freed m → Contains c.candidates m → Holds j.graph.managed m h → peer_of j.graph.peers.issued h ≡ Some p → Contains j.graph.peers.heap.freed p
  freed-peer j c m h p freed frees f cm q l = elim (Contains-decided j.graph.peers.heap.freed p) [
    | inl w ↦ w
    | inr n ↦ absurd (frees m f (m, record { candidate = cm; handle = h; holds = q; peer = p; leads = l; unfreed = n }, Reaches-self (ManagedEdge j.graph.managed) m))
  ]

  candidates : (i k m : ℕ) (freed : List ℕ) → ResolvesAt run i k freed → Contains freed m → IsCandidateBefore run i m → IsFreedWithPeer run i m
  candidates i k m freed w f cand =
      let r = resolve-event i k freed w in
      let t = trace i w.element w.there in
      let kept = kept_before i w.element w.there in
      let moments : cand.element ≡ w.element = same_Some cand.element w.element (sym cand.there ∙ w.there) in
      let cycles : cand.is.0 ≡ r.cycle = same_Some cand.is.0 r.cycle (sym cand.is.1 ∙ (ap (λ (z : Moment). z.before.graph.managed.cycle) moments ∙ r.open_cycle.0)) in
      let cm : Contains r.cycle.candidates m = subst (λ (z : OpenCycle). Contains z.candidates m) cycles cand.is.2 in
      let b : IsBridge w.element.before.graph.managed m = (((kept.dead r.cycle r.open_cycle.0).candidates m).0 cm).1 in
      let here : Holds t.state.managed.managed m b.0 = subst (λ (z : Joint). Holds z.graph.managed m b.0) t.before b.1 in
      let i0 = t.stands.kept.owners.held_ones m b.0 here in
      let leads : peer_of w.element.before.graph.peers.issued b.0 ≡ Some i0.0.peer = subst
      (λ (z : Joint). peer_of z.graph.peers.issued b.0 ≡ Some i0.0.peer) (sym t.before) (peer_of-issued t.state.peer.peers.issued b.0 i0.0 i0.1) in
      record {
        element = w.element;
        there = w.there;
        is = (
          b.0,
          b.1,
          i0.0.peer,
          leads,
          twins i w.element w.there m b.0 i0.0.peer b.1 leads (freed-peer w.element.before r.cycle m b.0 i0.0.peer freed (λ x c. ((r.resolution.frees x).0 c).1) f cm b.1 leads),
        );
      }

  pub is-sound : (entries : List Noted) → IsRun entries run → IsSoundRun run
  is-sound entries r = record {
    candidates = candidates;
    peers = λ i j p freed s c. sweeps_are_sound entries run r i j p freed s c;
    snapped = λ i k m freed cands s c. snapshots_are_sound entries run r i k m freed cands s c;
    resolved = resolved;
  }
