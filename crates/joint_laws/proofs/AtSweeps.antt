-- Just after the own sweep: it freed the peer of each candidate that was never reached since the snapshot, and each
-- peer that was made before its begin and never reached since the snapshot.
use Rattle.std.proofs.Common.{◌≡◌, ℕ, ◌≤◌, List, [], ◌∷◌, ◌++◌, length, Some, sym, subst, arith}
use Rattle.std.specs.Prelude.{Contains, slice_get}
use Rattle.std.proofs.lemmas.Option.{slice_get_within}
use Rattle.joint_machine.specs.Headline.{SweepsAt, IsMadeBefore}
use Rattle.joint_machine.specs.Heaps.{IsMade}
use Rattle.joint_machine.specs.Joint.{Joint, object, peer, IsReached}
use Rattle.joint_machine.specs.Linked.{Linkage, linkage_after}
use Rattle.joint_machine.specs.Managed.{OpenCycle}
use Rattle.joint_machine.specs.PeerReplay.{Marking, IsSweep}
use Rattle.joint_machine.specs.Run.{Moment}
use Rattle.joint_machine.specs.Told.{Noted}
use Rattle.joint_laws.proofs.AfterSweeps.{candidate-before}
use Rattle.joint_laws.proofs.JointRuns.{Stands, state_of, IsTraced}
use Rattle.joint_laws.proofs.ManagedMoves.{GoesOn}
use Rattle.joint_laws.proofs.MarkSteps.{IsSweptWatch, reached-made, row-freed, peer-swept}
use Rattle.joint_laws.proofs.MarkWatching.{IsMarkWatched}
use Rattle.joint_laws.proofs.Watching.{IsSeen, IsWatched, get-front, get-last, at-more, at-front}

-- what is reached at a moment was made by then
made-at : (x : Moment) (p : ℕ) → IsTraced x → IsReached x.after (peer p) → IsMade x.after.graph.peers.heap p
made-at x p tr r = subst (λ (z : Joint). IsMade z.graph.peers.heap p) (sym tr.after) (reached-made (linkage_after tr.state x.noted) tr.next p (subst (λ z. IsReached z (peer p)) tr.after r))

module _ (s : Linkage) (n : Noted) (w : Stands s) (v : Stands (linkage_after s n)) (g : GoesOn s.managed.managed (linkage_after s n).managed.managed)
    (past : List Moment) (traced : (i : ℕ) (x : Moment) → slice_get past i ≡ Some x → IsTraced x)
    (a : ℕ) (c : OpenCycle) (o : s.managed.managed.cycle ≡ Some c) (watched : IsWatched past a c.candidates (state_of s w))
    (mk : Marking) (e0 : s.peer.marking ≡ Some mk) (k : IsMarkWatched past a c s mk)
    (freed : List ℕ) (sw : IsSweep s.peer mk freed) (m : Moment) (after : m.after ≡ state_of (linkage_after s n) v)
    (grows : (linkage_after s n).peer.peers.heap.freed ≡ s.peer.peers.heap.freed ++ freed) (sweeps : SweepsAt (past ++ m ∷ []) (length past) mk.number freed) where
  abbrev longer : List Moment
  longer = past ++ m ∷ []

  abbrev t : Linkage
  t = linkage_after s n

  before : (i : ℕ) (x : Moment) → slice_get past i ≡ Some x → i ≤ length past
  before i x e = let l = slice_get_within past i x e in omega arith

  unseen-object : (x : ℕ) → ((i : ℕ) (y : Moment) → a ≤ i → i ≤ length past → slice_get longer i ≡ Some y → IsReached y.after (object x) → ⊥) → IsSeen past a (object x) → ⊥
  unseen-object x out seen = out seen.place seen.moment seen.from (before seen.place seen.moment seen.there) (get-front past (m ∷ []) seen.place seen.moment seen.there) seen.reached

  unseen-peer : (p : ℕ) → ((i : ℕ) (y : Moment) → a ≤ i → i ≤ length past → slice_get longer i ≡ Some y → IsMade y.after.graph.peers.heap p → IsReached y.after (peer p) → ⊥)
      → IsSeen past a (peer p) → ⊥
  unseen-peer p out seen =
      out seen.place seen.moment seen.from (before seen.place seen.moment seen.there) (get-front past (m ∷ []) seen.place seen.moment seen.there)
      (made-at seen.moment p (traced seen.place seen.moment seen.there) seen.reached) seen.reached

  made-now : (p : ℕ) → IsMadeBefore past k.begin p → IsMade s.peer.peers.heap p
  made-now p q = let l = k.made_then p q in (l.0, omega (arith, l.1, (w.kept.peer.marking mk e0).made))

  pub swept-watch : IsSweptWatch longer a c t
  swept-watch = record {
    begin = k.begin;
    sweep = length past;
    marking = mk.number;
    swept = freed;
    begins = at-more past (m ∷ []) k.begin k.begins;
    sweeps = sweeps;
    later_on = k.later_on;
    in_order = slice_get_within past k.begin k.begins.element k.begins.there;
    objects = λ x p cx r out. subst (λ fs. Contains fs p) (sym grows) (row-freed s w past a c o watched mk k freed sw x p cx (candidate-before s n w v g c o x p cx r) (unseen-object x out));
    peers = λ p made out. (
        let q = at-front past (m ∷ []) k.begin k.begins made in
        record {
          element = m;
          there = get-last past m;
          is = subst (λ (z : Joint). Contains z.graph.peers.heap.freed p) (sym after)
              (subst (λ fs. Contains fs p) (sym grows) (peer-swept s w past a c o watched mk k freed sw p (made-now p q) q (unseen-peer p out)));
        });
  }
