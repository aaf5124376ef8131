-- What was freed is a list that only grows, on either side, and so are the notices: a snapshot, a resolution and a
-- sweep put what they free last, and no other entry changes the list.
use Rattle.std.proofs.Common.{◌≡◌, ℕ, ◌+◌, inl, inr, Bool, true, false, ◌||◌, List, [], ◌++◌, Option, Some, None, refl, sym, ap, subst, ◌∙◌, append_assoc}
use Rattle.std.specs.Prelude.{Contains, if◌then◌else◌}
use Rattle.std.proofs.lemmas.List.{append-nil}
use Rattle.std.proofs.lemmas.List.Elements.{Contains-append_left}
use Rattle.joint_machine.specs.declared.names.Thread.{Thread}
use Rattle.joint_machine.specs.declared.names.Thread.TheVariants.{C}
use Rattle.joint_machine.specs.declared.events.Op.TheVariants as op
use Rattle.joint_machine.specs.declared.events.Reply.TheVariants as says
use Rattle.joint_machine.specs.declared.events.Op.{Op}
use Rattle.joint_machine.specs.declared.events.Made.{Made}
use Rattle.joint_machine.specs.Heaps.{answer}
use Rattle.joint_machine.specs.Linked.{Linkage, MayCome, opening_linkage, linkage_after, peer_after}
use Rattle.joint_machine.specs.Replaying.{AllMayCome}
use Rattle.joint_machine.specs.Lines.{is_peer_event}
use Rattle.joint_machine.specs.Managed.{Managed}
use Rattle.joint_machine.specs.PeerReplay.{PeerReplay, Marking, is_thread, swept_of, swept, peer_answer}
use Rattle.joint_machine.specs.Told.{Told, Noted, sweep_of}
use Rattle.joint_laws.specs.PeerInvariants.{PeerInvariant}
use Rattle.joint_laws.specs.States.{state_at}
use Rattle.joint_laws.proofs.Everywhere.{everywhere, from_state}
use Rattle.joint_laws.proofs.LinkedEntries.{Of, BothInvariants-entry, BothInvariants-opening}
use Rattle.joint_laws.proofs.ManagedEntries.{ManagedStep-entry}
use Rattle.joint_laws.proofs.ManagedSteps.{ManagedStep, going_on, snapping, resolving, abandoning}
use Rattle.joint_laws.proofs.PeerFreed.{entry-freed, sweep-or}

abbrev pub Grows : List ℕ → List ℕ → Type 0
Grows xs ys = (more : List ℕ) × (ys ≡ xs ++ more)

pub grows-same : (xs ys : List ℕ) → ys ≡ xs → Grows xs ys
grows-same xs ys e = ([], e ∙ sym (append-nil xs))

pub grows-then : (xs ys zs : List ℕ) → Grows xs ys → Grows ys zs → Grows xs zs
grows-then xs ys zs a b = (a.0 ++ b.0, b.1 ∙ (ap (λ z. z ++ b.0) a.1 ∙ append_assoc xs a.0 b.0))

pub grows-Contains : (xs ys : List ℕ) (x : ℕ) → Grows xs ys → Contains xs x → Contains ys x
grows-Contains xs ys x g c = subst (λ z. Contains z x) (sym g.1) (Contains-append_left xs g.0 x c)

pub managed-grows : (s : Linkage) (n : Noted) → MayCome s n → Of s → Grows s.managed.managed.heap.freed (linkage_after s n).managed.managed.heap.freed
managed-grows s n may k = by (ManagedStep-entry s n may k.managed)
  where
    by : ManagedStep s.managed.managed (linkage_after s n).managed.managed → Grows s.managed.managed.heap.freed (linkage_after s n).managed.managed.heap.freed
    by (going_on g) = grows-same _ _ g.freed
    by (snapping p) = (p.freed, ap (λ (z : Managed). z.heap.freed) p.is)
    by (resolving p) = (p.freed, ap (λ (z : Managed). z.heap.freed) p.is)
    by (abandoning p) = grows-same _ _ (ap (λ (z : Managed). z.heap.freed) p.is)

-- the peers
swept-grows : (s : PeerReplay) (x : Option Marking) (t : Thread) (freed : List ℕ) → Grows s.peers.heap.freed (swept s x t freed).state.peers.heap.freed
swept-grows s None t freed = grows-same _ _ refl
swept-grows s (Some mk) t freed = by (is_thread t C || is_thread t mk.by)
  where
    by : (b : Bool) → Grows s.peers.heap.freed (if b then swept_of s mk freed else answer (says.MarkOpen record { 0 = mk.number }) s).state.peers.heap.freed
    by true = (freed, refl)
    by false = grows-same _ _ refl

sweep-grows : (s : PeerReplay) (t : Thread) (cites : Option ℕ) (told : Told) → Grows s.peers.heap.freed (peer_answer s t op.Sweep cites told).state.peers.heap.freed
sweep-grows s t cites (sweep_of freed) = swept-grows s s.marking t freed
sweep-grows s t cites _ = swept-grows s s.marking t []

after-sweep : (s : Linkage) (m : Made) (told : Told) (o : Op) → m.op ≡ o → o ≡ op.Sweep → Grows s.peer.peers.heap.freed (peer_after s.peer m told (is_peer_event m.caller m.op)).peers.heap.freed
after-sweep s m told o e f = subst (λ z. Grows s.peer.peers.heap.freed (peer_after s.peer (record m { op = z }) told (is_peer_event m.caller z)).peers.heap.freed)
    (sym (e ∙ f)) (sweep-grows s.peer m.caller m.cites told)

pub peers-grow : (s : Linkage) (n : Noted) → PeerInvariant s.peer → Grows s.peer.peers.heap.freed (linkage_after s n).peer.peers.heap.freed
peers-grow s n k = elim (sweep-or n.entry.made.op) [
  | inl e ↦ after-sweep s n.entry.made n.told n.entry.made.op refl e
  | inr e ↦ grows-same _ _ (entry-freed s n k e)
]

-- from any state to a later one
record HaveGrown (a s : Linkage) : Type 0 where
  kept : Of s
  managed : Grows a.managed.managed.heap.freed s.managed.managed.heap.freed
  peers : Grows a.peer.peers.heap.freed s.peer.peers.heap.freed

grown : (noted : List Noted) → AllMayCome opening_linkage noted → (i more : ℕ) → HaveGrown (state_at noted i) (state_at noted (i + more))
grown noted may i more = from_state (HaveGrown (state_at noted i)) (λ s n m w. record {
  kept = BothInvariants-entry s n m w.kept;
  managed = grows-then _ _ _ w.managed (managed-grows s n m w.kept);
  peers = grows-then _ _ _ w.peers (peers-grow s n w.kept.peer);
}) noted may i more (record { kept = everywhere Of BothInvariants-opening BothInvariants-entry noted may i; managed = grows-same _ _ refl; peers = grows-same _ _ refl })

pub managed-grown : (noted : List Noted) → AllMayCome opening_linkage noted → (i more : ℕ) → Grows (state_at noted i).managed.managed.heap.freed (state_at noted (i + more)).managed.managed.heap.freed
managed-grown noted may i more = (grown noted may i more).managed

pub peers-grown : (noted : List Noted) → AllMayCome opening_linkage noted → (i more : ℕ) → Grows (state_at noted i).peer.peers.heap.freed (state_at noted (i + more)).peer.peers.heap.freed
peers-grown noted may i more = (grown noted may i more).peers
