-- What each entry of the peer side may do to the peers' heap: slots keep their number; made peers stay; a field comes
-- to hold only what was in a slot; only a peer in a slot has a field changed; and no freed peer comes back.
use Rattle.std.proofs.Common.{◌≡◌, ℕ, ◌+◌, ◌-◌, ◌≤◌, ◌⊎◌, inl, inr, Bool, true, false, ◌||◌, List, [], length, Option, Some, None, set, refl, sym, subst, arith}
use Rattle.std.specs.Prelude.{Contains, if◌then◌else◌, min, nat_lt}
use Rattle.std.proofs.Math.ListN.{length-set}
use Rattle.std.proofs.lemmas.List.Elements.{Contains-append_left}
use Rattle.joint_machine.specs.declared.names.Thread.{Thread}
use Rattle.joint_machine.specs.declared.names.Thread.TheVariants.{C}
use Rattle.joint_machine.specs.declared.names.Sort.{Sort}
use Rattle.joint_machine.specs.declared.names.Sort.TheVariants.{Framework}
use Rattle.joint_machine.specs.declared.lines.Act.{Act}
use Rattle.joint_machine.specs.declared.lines.Act.TheVariants as act
use Rattle.joint_machine.specs.declared.events.Op.{Op}
use Rattle.joint_machine.specs.declared.events.Op.TheVariants as op
use Rattle.joint_machine.specs.declared.events.Reply.{Reply}
use Rattle.joint_machine.specs.declared.events.Reply.TheVariants as says
use Rattle.joint_machine.specs.declared.events.Made.{Made}
use Rattle.joint_machine.specs.Heaps.{Heap, IsMade, IsLive, InSlot, Answered, answer, slot, place, fields_of, is_full, next_number, with_var, with_static, with_object, with_freed}
use Rattle.joint_machine.specs.Lines.{is_peer_event}
use Rattle.joint_machine.specs.Linked.{Linkage, linkage_after, peer_after}
use Rattle.joint_machine.specs.Peers.{Peers, Strength, strong, weak, held, raw, peer_name, with_peer, with_handle, peer_gripped, landed, name_given, peer_read, peer_line, handle_name, next_handle}
use Rattle.joint_machine.specs.Peers.{sort_of, handles_full}
use Rattle.joint_machine.specs.PeerReplay.{PeerReplay, TableRow, Marking, row_of, on_table, bring_by, peer_thread_line, is_thread, sliced, begun, swept_of, swept, restored_by, mirrored, peer_answer}
use Rattle.joint_machine.specs.PeerReplay.{table_target}
use Rattle.joint_machine.specs.Run.{thread_number}
use Rattle.joint_machine.specs.Told.{Told, Noted, references_of, slice_of, sweep_of}
use Rattle.joint_laws.proofs.Fields.{with_object-old, with_object-length}
use Rattle.joint_laws.proofs.HeapMoves.{HasMoved, heap_line-moved}
use Rattle.joint_laws.proofs.HeapKeeping.{object-field, object-was_live, moved-was_live}
use Rattle.joint_laws.proofs.JointSteps.{bring-peers}
use Rattle.joint_laws.proofs.PeerEvents.{globalised_by, freed_by, read_by}
use Rattle.joint_machine.specs.Components.{End}
use Rattle.joint_laws.proofs.Restores.{restored-any}

pub record HeapGoes (h k : Heap) : Type 0 where
  pub vars : length k.vars ≡ length h.vars
  pub statics : length k.statics ≡ length h.statics
  pub made : length h.fields ≤ length k.fields
  pub fields : (x q : ℕ) → Contains (fields_of k x) (Some q) → Contains (fields_of h x) (Some q) ⊎ InSlot h q
  pub frozen : (x : ℕ) → IsMade h x → (InSlot h x → ⊥) → fields_of k x ≡ fields_of h x
  pub back : (x : ℕ) → IsMade h x → IsLive k x → IsLive h x

pub goes-stay : (h : Heap) → HeapGoes h h
goes-stay h = record { vars = refl; statics = refl; made = omega arith; fields = λ x q c. inl c; frozen = λ x m n. refl; back = λ x m l. l }

goes-moved : (h k : Heap) → HasMoved h k → HeapGoes h k
goes-moved h k v = record {
  vars = v.vars;
  statics = v.statics;
  made = (let e = v.made in omega arith);
  fields = λ x q c. elim (v.fields x q c) [ inl w ↦ inl w | inr w ↦ inr w.1 ];
  frozen = λ x m n. v.frozen x n;
  back = λ x m l. moved-was_live h k v x l;
}

goes-object : (h : Heap) (n : ℕ) → HeapGoes h (with_object h n)
goes-object h n = record {
  vars = refl;
  statics = refl;
  made = (let e = with_object-length h n in omega arith);
  fields = λ x q c. inl (object-field h n x q c).1;
  frozen = λ x m out. with_object-old h n x m.1;
  back = λ x m l. object-was_live h n x m.1 l;
}

goes-made : (h : Heap) (n v x : ℕ) → HeapGoes h (with_var (with_object h n) v (Some x))
goes-made h n v x = record {
  vars = length-set h.vars v (Some x);
  statics = refl;
  made = (let e = with_object-length h n in omega arith);
  fields = λ y q c. inl (object-field h n y q c).1;
  frozen = λ y m out. with_object-old h n y m.1;
  back = λ y m l. object-was_live h n y m.1 (record { made = l.made; kept = l.kept });
}

goes-var : (h : Heap) (v : ℕ) (o : Option ℕ) → HeapGoes h (with_var h v o)
goes-var h v o = record { vars = length-set h.vars v o; statics = refl; made = omega arith; fields = λ x q c. inl c; frozen = λ x m n. refl; back = λ x m l. record { made = l.made; kept = l.kept } }

goes-static : (h : Heap) (i : ℕ) (o : Option ℕ) → HeapGoes h (with_static h i o)
goes-static h i o = record {
  vars = refl;
  statics = length-set h.statics i o;
  made = omega arith;
  fields = λ x q c. inl c;
  frozen = λ x m n. refl;
  back = λ x m l. record { made = l.made; kept = l.kept };
}

goes-freed : (h : Heap) (xs : List ℕ) → HeapGoes h (with_freed h xs)
goes-freed h xs = record {
  vars = refl;
  statics = refl;
  made = omega arith;
  fields = λ x q c. inl c;
  frozen = λ x m n. refl;
  back = λ x m l. record { made = l.made; kept = λ c. l.kept (Contains-append_left h.freed xs x c) };
}

abbrev Goes : PeerReplay → PeerReplay → Type 0
Goes s t = HeapGoes s.peers.heap t.peers.heap

module _ (s : PeerReplay) where
  made-goes : (v n : ℕ) (b : Bool) → HeapGoes s.peers.heap (if b then answer says.Full s.peers else answer (peer_name (next_number s.peers.heap))
      (record (with_peer s.peers Framework n) { heap = with_var (with_peer s.peers Framework n).heap v (Some (next_number s.peers.heap)) })).state.heap
  made-goes v n true = goes-stay s.peers.heap
  made-goes v n false = goes-made s.peers.heap n v (next_number s.peers.heap)

  name-goes : (g p : ℕ) (strength : Strength) (o : Option ℕ) → HeapGoes s.peers.heap (name_given s.peers g p strength o).state.heap
  name-goes g p strength (Some h) = goes-stay s.peers.heap
  name-goes g p strength None = by (handles_full s.peers)
    where
      by : (b : Bool) → HeapGoes s.peers.heap (if b then answer says.Full s.peers else answer (handle_name (next_handle s.peers))
          (record (with_handle s.peers p raw strength) { names = set s.peers.names g (Some (next_handle s.peers)) })).state.heap
      by true = goes-stay s.peers.heap
      by false = goes-stay s.peers.heap

  global-goes : (g : ℕ) (strength : Strength) (o : Option ℕ) → HeapGoes s.peers.heap (globalised_by s.peers g strength o).state.heap
  global-goes g strength None = goes-stay s.peers.heap
  global-goes g strength (Some p) = name-goes g p strength (slot s.peers.names g)

  unglobal-goes : (g : ℕ) (o : Option ℕ) → HeapGoes s.peers.heap (freed_by s.peers g o).state.heap
  unglobal-goes g None = goes-stay s.peers.heap
  unglobal-goes g (Some h) = goes-stay s.peers.heap

  read-goes : (v : ℕ) (o : Option ℕ) → HeapGoes s.peers.heap (peer_read s.peers v o).state.heap
  read-goes v None = goes-stay s.peers.heap
  read-goes v (Some p) = goes-var s.peers.heap v (Some p)

  wread-goes : (v : ℕ) (o : Option ℕ) → HeapGoes s.peers.heap (read_by (table_target s) s.peers v o).state.heap
  wread-goes v None = goes-stay s.peers.heap
  wread-goes v (Some h) = read-goes v (table_target s h)

  land-goes : (x : ℕ) (o : Option ℕ) → HeapGoes s.peers.heap (landed s.peers x o).state.heap
  land-goes x None = goes-stay s.peers.heap
  land-goes x (Some p) = goes-static s.peers.heap x (Some p)

  brought-goes : (a : Answered PeerReplay) (r : Reply) → HeapGoes s.peers.heap a.state.peers.heap → HeapGoes s.peers.heap (bring_by a r).state.peers.heap
  brought-goes a r w = subst (λ (z : Peers). HeapGoes s.peers.heap z.heap) (sym (bring-peers a r)) w

  line-goes : (t : ℕ) (a : Act) → Goes s (peer_thread_line s t a).state
  line-goes t (act.NewPeer v n) = made-goes (place t v.0) n (is_full s.peers.heap.fields)
  line-goes t (act.Global g v) = global-goes g.0 strong (slot s.peers.heap.vars (place t v.0))
  line-goes t (act.WGlobal g v) = global-goes g.0 weak (slot s.peers.heap.vars (place t v.0))
  line-goes t (act.UnGlobal g) = unglobal-goes g.0 (slot s.peers.names g.0)
  line-goes t (act.WRead v g) = brought-goes (on_table s (peer_line (table_target s) s.peers t (act.WRead v g)))
      (peer_line (table_target s) s.peers t (act.WRead v g)).reply (wread-goes (place t v.0) (slot s.peers.names g.0))
  line-goes t a = goes-moved _ _ (heap_line-moved peer_name s.peers.heap t a)

  pair-goes : (b : Bool) (n : ℕ) (sort : Sort) (r : Reply) → HeapGoes s.peers.heap
      (if b then answer says.Full s.peers else answer r (with_handle (with_peer s.peers sort n) (next_number s.peers.heap) held strong)).state.heap
  pair-goes true n sort r = goes-stay s.peers.heap
  pair-goes false n sort r = goes-object s.peers.heap n

  grip-goes : (o : Option ℕ) → HeapGoes s.peers.heap (peer_gripped s.peers o).state.heap
  grip-goes None = goes-stay s.peers.heap
  grip-goes (Some p) = by (handles_full s.peers)
    where
      by : (b : Bool) → HeapGoes s.peers.heap (if b then answer says.Full s.peers else answer
          (says.Gripped record { 0 = p } record { 0 = next_handle s.peers } (sort_of s.peers p) (length (fields_of s.peers.heap p))) (with_handle s.peers p held strong)).state.heap
      by true = goes-stay s.peers.heap
      by false = goes-stay s.peers.heap

  sliced-goes : (o : Option Marking) (t : Thread) (n : ℕ) (closure : List ℕ) → Goes s (sliced s o t n closure).state
  sliced-goes None t n closure = goes-stay s.peers.heap
  sliced-goes (Some mk) t n closure = by (is_thread t mk.by)
    where
      by : (b : Bool) → Goes s (if b
          then (let black = mk.blackened + min n (length closure - mk.blackened) in
          answer (if nat_lt black (length closure) then says.More else says.Done) (record s { marking = Some (record mk { blackened = black }) }))
          else answer (says.MarkOpen record { 0 = mk.number }) s).state
      by true = goes-stay s.peers.heap
      by false = goes-stay s.peers.heap

  begun-goes : (o : Option Marking) (t : Thread) → Goes s (begun s o t).state
  begun-goes None t = goes-stay s.peers.heap
  begun-goes (Some mk) t = goes-stay s.peers.heap

  swept-goes : (o : Option Marking) (t : Thread) (freed : List ℕ) → Goes s (swept s o t freed).state
  swept-goes None t freed = goes-stay s.peers.heap
  swept-goes (Some mk) t freed = by (is_thread t C || is_thread t mk.by)
    where
      by : (b : Bool) → Goes s (if b then swept_of s mk freed else answer (says.MarkOpen record { 0 = mk.number }) s).state
      by true = goes-freed s.peers.heap freed
      by false = goes-stay s.peers.heap

  mirrored-goes : (n : ℕ) (cites : Option ℕ) (refs : List (End × End)) → Goes s (mirrored s n cites refs)
  mirrored-goes n None refs = goes-stay s.peers.heap
  mirrored-goes n (Some snap) refs = goes-stay s.peers.heap

  restored-goes : (h : ℕ) (o : Option TableRow) → Goes s (restored_by s h o).state
  restored-goes h o = restored-any (λ a. Goes s a.state) s h o (goes-stay s.peers.heap) (goes-stay s.peers.heap) (λ p. goes-stay s.peers.heap)

  pub peer-goes : (t : Thread) (o : Op) (cites : Option ℕ) (told : Told) → Goes s (peer_answer s t o cites told).state
  peer-goes t (op.Line (act.Slice n)) cites (slice_of closure) = sliced-goes s.marking t n closure
  peer-goes t (op.Line (act.Slice n)) cites _ = sliced-goes s.marking t n []
  peer-goes t (op.Line a) cites told = line-goes (thread_number t) a
  peer-goes t (op.Make sort n) cites told = pair-goes (is_full s.peers.heap.fields || handles_full s.peers) n sort _
  peer-goes t (op.Land h x) cites told = brought-goes (on_table s (landed s.peers x.0 (table_target s h.0))) (landed s.peers x.0 (table_target s h.0)).reply (land-goes x.0 (table_target s h.0))
  peer-goes t (op.Grip x) cites told = grip-goes (slot s.peers.heap.statics x.0)
  peer-goes t (op.Mirror n) cites (references_of refs) = mirrored-goes n.0 cites refs
  peer-goes t op.Begin cites told = begun-goes s.marking t
  peer-goes t op.Sweep cites (sweep_of freed) = swept-goes s.marking t freed
  peer-goes t op.Sweep cites _ = swept-goes s.marking t []
  peer-goes t (op.Restore h) cites told = restored-goes h.0 (row_of s h.0)
  peer-goes t _ cites told = goes-stay s.peers.heap

goes-by : (s : Linkage) (m : Made) (told : Told) (b : Bool) → Goes s.peer (peer_after s.peer m told b)
goes-by s m told true = peer-goes s.peer m.caller m.op m.cites told
goes-by s m told false = goes-stay s.peer.peers.heap

pub heap-entry : (s : Linkage) (n : Noted) → Goes s.peer (linkage_after s n).peer
heap-entry s n = goes-by s n.entry.made n.told (is_peer_event n.entry.made.caller n.entry.made.op)
