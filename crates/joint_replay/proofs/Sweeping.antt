-- Sweeps. One that a caller makes who may end the open marking is no refused one, and the other way round.
use Rattle.std.proofs.Common.{◌≡◌, ℕ, ◌↔◌, ◌⊎◌, inl, inr, Bool, List, Option, Some, None, refl, sym, ap, subst, ◌∙◌, length}
use Rattle.std.specs.Prelude.{All}
use Rattle.std.proofs.lemmas.List.Elements.{All-contains}
use Rattle.joint_machine.specs.declared.names.Thread.{Thread}
use Rattle.joint_machine.specs.declared.names.Thread.TheVariants.{C}
use Rattle.joint_machine.specs.declared.events.Reply.{Reply}
use Rattle.joint_machine.specs.declared.events.Reply.TheVariants as says
use Rattle.joint_machine.specs.Components.{Rises}
use Rattle.joint_machine.specs.Heaps.{Heap, IsLive, IsMade}
use Rattle.joint_machine.specs.Histories.{Finished, peer_numbers, stretch}
use Rattle.joint_machine.specs.Joint.{Joint, JointMarking, IsReached, peer}
use Rattle.joint_machine.specs.Lines.{IsPeerThread}
use Rattle.joint_machine.specs.Run.{JointSweep, IsStored}
use Rattle.joint_machine.specs.Peers.{Peers}
use Rattle.joint_machine.specs.Told.{sweep_of}
use Rattle.joint_machine.proofs.Members.{All-members}
use Rattle.joint_machine.proofs.Deciding.{some-same}
use Rattle.reachability.specs.Marks.{HasMark}
use Rattle.joint_replay.specs.declared.state.Verdict.{Verdict}
use Rattle.joint_replay.specs.Judging.{Decides, named_peers}
use Rattle.joint_replay.specs.Snaps.{MayEndOpen, SweepsJoint, MaySweep, SaysSwept}
use Rattle.joint_replay.specs.Graphs.{KeepsStored}
use Rattle.joint_replay.proofs.Snapping.{span-is}
use Rattle.joint_replay.proofs.Verdicts.{Decides-as}

-- who may end a marking is not refused
unrefused : (t : Thread) (m : JointMarking) → (t ≡ C) ⊎ (t ≡ m.by) → IsPeerThread t → (t ≡ m.by → ⊥) → ⊥
unrefused t m allowed thread other = elim allowed [ inl c ↦ subst IsPeerThread c thread | inr b ↦ other b ]

ends-from : (j : Joint) (t : Thread) (reply : Reply) (freed : List ℕ) (n : Joint) (mk : Option JointMarking)
    → j.marking ≡ mk → MayEndOpen j t → JointSweep j mk t reply (sweep_of freed) n → SweepsJoint j t freed reply n
ends-from j t reply freed n None none may s = (let f : Some may.marking ≡ None = sym may.opened ∙ none in cc)
ends-from j t reply freed n (Some m) is_open may s =
    let same : may.marking ≡ m = some-same may.marking m (sym may.opened ∙ is_open) in
    elim s [
      | inl w ↦ record { marking = m; opened = is_open; sweep = w }
      | inr r ↦ absurd (unrefused t m (subst (λ (x : JointMarking). (t ≡ C) ⊎ (t ≡ x.by)) same may.allowed) r.thread r.other)
    ]

-- the caller may end the open marking
pub sweep-ends : (j : Joint) (t : Thread) (reply : Reply) (freed : List ℕ) (d : Verdict) (new : Joint) → MayEndOpen j t
    → Decides (SweepsJoint j t freed reply) d j new → Decides (JointSweep j j.marking t reply (sweep_of freed)) d j new
sweep-ends j t reply freed d new may = Decides-as (SweepsJoint j t freed reply) (JointSweep j j.marking t reply (sweep_of freed))
    (λ n s. subst (λ (mk : Option JointMarking). JointSweep j mk t reply (sweep_of freed) n) (sym s.opened) (inl s.sweep))
    (λ n s. ends-from j t reply freed n j.marking refl may s)
    d j new

-- the reply of a sweep
sweep-said : (g : Heap) (h : Finished) (reply : Reply) (n : ℕ) → SaysSwept g h reply n → reply ≡ says.Swept record { 0 = n } record { first = length g.freed; count = length (named_peers h reply) }
sweep-said g h (says.Swept k span) n w = ap (λ (x : ℕ). says.Swept record { 0 = x } span) w.0
    ∙ ap (says.Swept record { 0 = n }) (span-is span (length g.freed) (length (peer_numbers (stretch h.freed_peers span))) w.1 (sym w.2))
sweep-said g h _ n w = absurd w

same-marking : (j : Joint) (a b : JointMarking) → j.marking ≡ Some a → j.marking ≡ Some b → a ≡ b
same-marking j a b e f = some-same a b (sym e ∙ f)

-- what it frees is stored, and dead now: nothing stored was freed since the begin
pub sweep-stored : (j : Joint) (m : JointMarking) (freed : List ℕ) (reply : Reply) → j.marking ≡ Some m → MaySweep j freed reply → All (IsStored m) freed
sweep-stored j m freed reply is_open w = subst (λ (x : JointMarking). All (IsStored x) freed) (same-marking j w.marking m w.opened is_open) w.stored

pub stored-live : (p : Peers) (mk : Option JointMarking) (m : JointMarking) → mk ≡ Some m → KeepsStored p mk → (k : ℕ) → IsStored m k → IsLive p.heap k
stored-live p mk m is_open keeps = subst (KeepsStored p) is_open keeps

pub sweep-dead : (j : Joint) (m : JointMarking) (freed : List ℕ) (reply : Reply) (dead : List Bool) → j.marking ≡ Some m → KeepsStored j.graph.peers j.marking
    → ((p : ℕ) → HasMark dead p ↔ (IsLive j.graph.peers.heap p × (IsReached j (peer p) → ⊥))) → MaySweep j freed reply → All (HasMark dead) freed
sweep-dead j m freed reply dead is_open keeps exact w = All-members (HasMark dead) freed (λ p c. (exact p).1 (
  stored-live j.graph.peers j.marking m is_open keeps p (All-contains (IsStored m) freed p (sweep-stored j m freed reply is_open w) c),
  All-contains (λ q. IsReached j (peer q) → ⊥) freed p w.unreached c,
))

-- what the tests of a sweep say together
pub may-sweep : (j : Joint) (m : JointMarking) (h : Finished) (reply : Reply) (freed : List ℕ) (dead : List Bool)
    → j.marking ≡ Some m → freed ≡ named_peers h reply → SaysSwept j.graph.peers.heap h reply m.number
    → Rises freed → All (IsStored m) freed → All (HasMark dead) freed → ((p : ℕ) → HasMark dead p ↔ (IsLive j.graph.peers.heap p × (IsReached j (peer p) → ⊥))) → MaySweep j freed reply
may-sweep j m h reply freed dead is_open named said rise stored marked exact = record {
  marking = m;
  opened = is_open;
  rise = rise;
  stored = stored;
  unreached = All-members (λ p. IsReached j (peer p) → ⊥) freed (λ p c. ((exact p).0 (All-contains (HasMark dead) freed p marked c)).1);
  replies = sweep-said j.graph.peers.heap h reply m.number said
      ∙ ap (λ (l : List ℕ). says.Swept record { 0 = m.number } record { first = length j.graph.peers.heap.freed; count = length l }) (sym named);
}

-- what a sweep frees was made
pub sweep-made : (j : Joint) (freed : List ℕ) (reply : Reply) → KeepsStored j.graph.peers j.marking → MaySweep j freed reply → All (IsMade j.graph.peers.heap) freed
sweep-made j freed reply keeps w = All-members (IsMade j.graph.peers.heap) freed
    (λ p c. (stored-live j.graph.peers j.marking w.marking w.opened keeps p (All-contains (IsStored w.marking) freed p w.stored c)).made)
