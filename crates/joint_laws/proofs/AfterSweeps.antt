-- What the own sweep freed stays freed while the cycle is open, and no candidate comes to hold another handle: so what
-- is known behind the sweep is known after each further entry, whether it is a step of the joint machine or not.
use Rattle.std.proofs.Common.{◌≡◌, ℕ, inl, inr, List, [], ◌∷◌, ◌++◌, Some, sym, ap, subst, ◌∙◌}
use Rattle.std.specs.Prelude.{Contains}
use Rattle.std.proofs.lemmas.Option.{same_Some}
use Rattle.joint_machine.specs.Heaps.{IsMade}
use Rattle.joint_machine.specs.Linked.{Linkage, linkage_after}
use Rattle.joint_machine.specs.Managed.{OpenCycle, Holds}
use Rattle.joint_machine.specs.Peers.{Issued}
use Rattle.joint_machine.specs.Run.{Moment}
use Rattle.joint_machine.specs.Told.{Noted}
use Rattle.joint_laws.specs.LinkedInvariants.{IsRowOf}
use Rattle.joint_laws.proofs.JointRuns.{Stands}
use Rattle.joint_laws.proofs.JointSince.{peer-entry}
use Rattle.joint_machine.proofs.Members.{Contains-decided}
use Rattle.joint_laws.proofs.ManagedMoves.{GoesOn}
use Rattle.joint_laws.proofs.MarkSteps.{IsSweptWatch}
use Rattle.joint_laws.proofs.PeerHeaps.{heap-entry}
use Rattle.joint_laws.proofs.Watching.{get-front, at-more, at-front}

module _ (s : Linkage) (n : Noted) (w : Stands s) (v : Stands (linkage_after s n))
    (g : GoesOn s.managed.managed (linkage_after s n).managed.managed) (c : OpenCycle) (o : s.managed.managed.cycle ≡ Some c) where
  abbrev t : Linkage
  t = linkage_after s n

  -- a candidate's peer was its peer before
  pub candidate-before : (x p : ℕ) → Contains c.candidates x → IsRowOf t.managed.managed t.peer.peers.issued x p → IsRowOf s.managed.managed s.peer.peers.issued x p
  candidate-before x p cx r =
      let cut = w.kept.managed.managed.dead c o in
      let live = cut.live x (((cut.candidates x).0 cx).0) in
      let holds : Holds s.managed.managed x r.handle = record { live = live; held = g.gains x r.handle live.made r.holds.held } in
      let i = w.kept.owners.held_ones x r.handle holds in
      let same : i.0 ≡ r.row = same_Some i.0 r.row (sym ((peer-entry s n w.kept).issued_on r.handle i.0 i.1) ∙ r.is_issued) in
      record { handle = r.handle; holds = holds; row = i.0; is_issued = i.1; leads = ap (λ (z : Issued). z.peer) same ∙ r.leads }

  -- its peer stays freed
  pub peer-stays : (x p : ℕ) → IsRowOf s.managed.managed s.peer.peers.issued x p
      → IsRowOf t.managed.managed t.peer.peers.issued x p → Contains s.peer.peers.heap.freed p → Contains t.peer.peers.heap.freed p
  peer-stays x p before r f = elim (Contains-decided t.peer.peers.heap.freed p) [
    | inl q ↦ q
    | inr out ↦ (
        let made : IsMade s.peer.peers.heap p = subst (λ z. IsMade s.peer.peers.heap z) before.leads (w.kept.peer.handles.peers before.handle before.row before.is_issued) in
        let now : IsMade t.peer.peers.heap p = subst (λ z. IsMade t.peer.peers.heap z) r.leads (v.kept.peer.handles.peers r.handle r.row r.is_issued) in
        absurd (((heap-entry s n).back p made (record { made = now; kept = out })).kept f))
  ]

  pub swept-rests : (past : List Moment) (a : ℕ) → IsSweptWatch past a c s → IsSweptWatch past a c t
  swept-rests past a k = record {
    begin = k.begin;
    sweep = k.sweep;
    marking = k.marking;
    swept = k.swept;
    begins = k.begins;
    sweeps = k.sweeps;
    later_on = k.later_on;
    in_order = k.in_order;
    objects = λ x p cx r out. (let b = candidate-before x p cx r in peer-stays x p b r (k.objects x p cx b out));
    peers = k.peers;
  }

  pub swept-moves : (past : List Moment) (a : ℕ) (m : Moment) → IsSweptWatch past a c s → IsSweptWatch (past ++ m ∷ []) a c t
  swept-moves past a m k = record {
    begin = k.begin;
    sweep = k.sweep;
    marking = k.marking;
    swept = k.swept;
    begins = at-more past (m ∷ []) k.begin k.begins;
    sweeps = at-more past (m ∷ []) k.sweep k.sweeps;
    later_on = k.later_on;
    in_order = k.in_order;
    objects = λ x p cx r out. (
        let b = candidate-before x p cx r in
        peer-stays x p b r (k.objects x p cx b (λ i y from to e. out i y from to (get-front past (m ∷ []) i y e))));
    peers = λ p made out. at-more past (m ∷ []) k.sweep
        (k.peers p (at-front past (m ∷ []) k.begin k.begins made) (λ i y from to e. out i y from to (get-front past (m ∷ []) i y e)));
  }
