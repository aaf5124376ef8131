-- An entry that is no step of the joint machine leaves what the own marking has seen as it was: the objects, peers and
-- handles are the same, and the marking only goes on.
use Rattle.std.proofs.Common.{◌≡◌, ℕ, ◌⊎◌, inl, inr, List, Some, sym, ap, subst, ◌∙◌}
use Rattle.std.specs.Prelude.{Contains}
use Rattle.joint_machine.specs.Heaps.{IsLive, InSlot, fields_of}
use Rattle.joint_machine.specs.Joint.{Joint}
use Rattle.joint_machine.specs.Linked.{Linkage}
use Rattle.joint_machine.specs.Managed.{OpenCycle, Managed}
use Rattle.joint_machine.specs.Peers.{Peers}
use Rattle.joint_machine.specs.PeerReplay.{Marking}
use Rattle.joint_machine.specs.Run.{Moment}
use Rattle.joint_laws.specs.LinkedInvariants.{IsRowOf}
use Rattle.joint_laws.proofs.JointRuns.{Stands, state_of}
use Rattle.joint_laws.proofs.MarkWatching.{IsMarkWatched, slot-seen}
use Rattle.joint_laws.proofs.Sparing.{later}
use Rattle.joint_laws.proofs.Watching.{IsWatched}

module _ (s t : Linkage) (w : Stands s) (v : Stands t) (same : state_of t v ≡ state_of s w) (past : List Moment) (a : ℕ) (c : OpenCycle)
    (o : s.managed.managed.cycle ≡ Some c) (watched : IsWatched past a c.candidates (state_of s w)) (mk : Marking) (k : IsMarkWatched past a c s mk)
    (brought : List ℕ) (black : ℕ) (back : (p : ℕ) → Contains brought p → Contains mk.brought p ⊎ InSlot t.peer.peers.heap p) (refs : t.peer.refs ≡ s.peer.refs) where
  objects_same : t.managed.managed ≡ s.managed.managed
  objects_same = ap (λ (z : Joint). z.graph.managed) same

  peers_same : t.peer.peers ≡ s.peer.peers
  peers_same = ap (λ (z : Joint). z.graph.peers) same

  next : IsWatched past a c.candidates (state_of t v)
  next = subst (λ z. IsWatched past a c.candidates z) (sym same) watched

  pub mark-rests : IsMarkWatched past a c t (later mk brought black)
  mark-rests = record {
    begin = k.begin;
    begins = k.begins;
    later_on = k.later_on;
    made_then = k.made_then;
    old = λ p q l. k.old p q (subst (λ (z : Peers). IsLive z.heap p) peers_same l);
    rows = λ x p cx r. k.rows x p cx (subst (λ (z : Managed). IsRowOf z s.peer.peers.issued x p) objects_same (subst (λ (z : Peers). IsRowOf t.managed.managed z.issued x p) peers_same r));
    refs = k.refs ∙ sym refs;
    roots = λ p r. elim r [
      | inl i ↦ k.roots p (inl i)
      | inr x ↦ elim x [
        | inl d ↦ k.roots p (inr (inl d))
        | inr d ↦ elim (back p d) [
          | inl was ↦ k.roots p (inr (inr was))
          | inr i ↦ slot-seen t v past a c (ap (λ (z : Managed). z.cycle) objects_same ∙ o) next p i
        ]
      ]
    ];
    edges = k.edges;
    fields = λ p l out. k.fields p l out ∙ ap (λ (z : Peers). fields_of z.heap p) (sym peers_same);
  }
