-- Only a sweep frees peers.
use Rattle.std.proofs.Common.{◌≡◌, ℕ, ◌⊎◌, inl, inr, Bool, true, false, ◌||◌, List, [], Option, Some, None, refl}
use Rattle.joint_machine.specs.declared.names.Thread.{Thread}
use Rattle.joint_machine.specs.declared.lines.Act.TheVariants as act
use Rattle.joint_machine.specs.declared.events.Op.{Op}
use Rattle.joint_machine.specs.declared.events.Op.TheVariants as op
use Rattle.joint_machine.specs.declared.events.Made.{Made}
use Rattle.joint_machine.specs.Heaps.{slot, is_full}
use Rattle.joint_machine.specs.Lines.{is_peer_event}
use Rattle.joint_machine.specs.Linked.{Linkage, linkage_after, peer_after}
use Rattle.joint_machine.specs.Peers.{handles_full}
use Rattle.joint_machine.specs.PeerReplay.{PeerReplay, TableRow, row_of, restored_by, mirrored, peer_answer, table_target}
use Rattle.joint_machine.specs.Run.{thread_number}
use Rattle.joint_machine.specs.Told.{Told, Noted, references_of, slice_of}
use Rattle.joint_laws.specs.PeerInvariants.{PeerInvariant}
use Rattle.joint_laws.proofs.PeerQuietEvents.{quiet-line, quiet-pair, quiet-grip, quiet-land, quiet-begun, quiet-sliced}
use Rattle.joint_machine.specs.Components.{End}
use Rattle.joint_laws.proofs.Restores.{restored-any}

abbrev pub SameFreed : PeerReplay → PeerReplay → Type 0
SameFreed s t = t.peers.heap.freed ≡ s.peers.heap.freed

mirrored-freed : (s : PeerReplay) (n : ℕ) (cites : Option ℕ) (refs : List (End × End)) → SameFreed s (mirrored s n cites refs)
mirrored-freed s n None refs = refl
mirrored-freed s n (Some snap) refs = refl

restored-freed : (s : PeerReplay) (h : ℕ) (x : Option TableRow) → SameFreed s (restored_by s h x).state
restored-freed s h x = restored-any (λ a. SameFreed s a.state) s h x refl refl (λ p. refl)

peer-freed : (s : PeerReplay) (k : PeerInvariant s) (t : Thread) (o : Op) (cites : Option ℕ) (told : Told) → (o ≡ op.Sweep → ⊥) → SameFreed s (peer_answer s t o cites told).state
peer-freed s k t (op.Line (act.Slice n)) cites (slice_of closure) no_sweep = (quiet-sliced (λ h. ⊥) s s.marking t n closure refl).freed
peer-freed s k t (op.Line (act.Slice n)) cites _ no_sweep = (quiet-sliced (λ h. ⊥) s s.marking t n [] refl).freed
peer-freed s k t (op.Line a) cites told no_sweep = (quiet-line s (thread_number t) a k).freed
peer-freed s k t (op.Make sort n) cites told no_sweep = (quiet-pair (λ h. ⊥) s sort n (is_full s.peers.heap.fields || handles_full s.peers) k.handles.places).freed
peer-freed s k t (op.Land h x) cites told no_sweep = (quiet-land (λ g. g ≡ h.0) s x.0 h.0 (table_target s h.0) refl refl).freed
peer-freed s k t (op.Grip x) cites told no_sweep = (quiet-grip (λ h. ⊥) s x.0 (slot s.peers.heap.statics x.0) k.handles.places refl).freed
peer-freed s k t (op.Mirror n) cites (references_of refs) no_sweep = mirrored-freed s n.0 cites refs
peer-freed s k t op.Begin cites told no_sweep = (quiet-begun (λ h. ⊥) s s.marking t refl).freed
peer-freed s k t op.Sweep cites told no_sweep = absurd (no_sweep refl)
peer-freed s k t (op.Restore h) cites told no_sweep = restored-freed s h.0 (row_of s h.0)
peer-freed s k t _ cites told no_sweep = refl

freed-by : (s : Linkage) (m : Made) (told : Told) (b : Bool) → PeerInvariant s.peer → (m.op ≡ op.Sweep → ⊥) → SameFreed s.peer (peer_after s.peer m told b)
freed-by s m told true k n = peer-freed s.peer k m.caller m.op m.cites told n
freed-by s m told false k n = refl

pub entry-freed : (s : Linkage) (n : Noted) → PeerInvariant s.peer → (n.entry.made.op ≡ op.Sweep → ⊥) → SameFreed s.peer (linkage_after s n).peer
entry-freed s n k no_sweep = freed-by s n.entry.made n.told (is_peer_event n.entry.made.caller n.entry.made.op) k no_sweep

-- whether an event is a sweep
pub sweep-or : (o : Op) → (o ≡ op.Sweep) ⊎ (o ≡ op.Sweep → ⊥)
sweep-or op.Sweep = inl refl
sweep-or _ = inr (λ e. (let f : ⊥ = cc in f))
