-- A step leaves a mirrored cycle as it is: its entry mirrors no cycle, and weakens and restores no handle; and handles
-- that were issued stay as they were issued.
use Rattle.std.proofs.Common.{◌≡◌, ℕ, Bool, ◌||◌, [], ◌∷◌, List, Option, Some, None, refl, sym, ap, arith}
use Rattle.std.proofs.lemmas.List.{append-nil}
use Rattle.joint_machine.specs.declared.names.Sort.TheVariants.{Framework}
use Rattle.joint_machine.specs.declared.names.Thread.{Thread}
use Rattle.joint_machine.specs.declared.lines.Act.{Act}
use Rattle.joint_machine.specs.declared.lines.Act.TheVariants as act
use Rattle.joint_machine.specs.declared.events.Op.{Op}
use Rattle.joint_machine.specs.declared.events.Op.TheVariants as op
use Rattle.joint_machine.specs.declared.events.Reply.{Reply}
use Rattle.joint_machine.specs.declared.events.Reply.TheVariants as says
use Rattle.joint_machine.specs.Heaps.{Answered, answer, slot, place, is_full, next_number, fields_of, with_var}
use Rattle.joint_machine.specs.Peers.{Peers, Issued, Strength, strong, weak, held, raw, peer_name, handle_name, next_handle, handles_full, with_peer, with_handle, peer_line, peer_gripped, peer_read}
use Rattle.joint_machine.specs.Peers.{name_given, globalised, landed, sort_of}
use Rattle.joint_machine.specs.PeerReplay.{PeerReplay, bring_by, on_table, peer_answer, table_target}
use Rattle.joint_machine.specs.Run.{thread_number}
use Rattle.joint_machine.specs.Told.{nothing}
use Rattle.joint_machine.proofs.Deciding.{option-cases, test-cases}
use Rattle.std.specs.Prelude.{length, slice_set}
use Rattle.row_heap.specs.Rows.{HeapRows}
use Rattle.peer_heap.specs.Marks.{MarksNew, MarksBrought, MarksAfter}
use Rattle.peer_heap.specs.MirrorLaws.{HasFurther}
use Rattle.peer_heap.specs.Mirrors.{given_at, mirrored_at, weakened_at, restored_at}
use Rattle.peer_heap.specs.Steps.{IsPeerStep}

stays : (is : List Issued) → HasFurther is is
stays is = ([], sym (append-nil is), omega arith)

-- an event of the peers alone
abbrev Grows : Peers → Answered Peers → Type 0
Grows s a = HasFurther s.issued a.state.issued

given : (s : Peers) (g p : ℕ) (st : Strength) (o : Option ℕ) → Grows s (name_given s g p st o)
given s g p st (Some h) = stays s.issued
given s g p st None =
    test-cases (Grows s) (handles_full s) (answer says.Full s) (answer (handle_name (next_handle s)) (record (with_handle s p raw st) { names = slice_set s.names g (Some (next_handle s)) }))
    (stays s.issued) (record { peer = p; hold = raw; strength = st } ∷ [], refl, omega arith)

named : (s : Peers) (g v : ℕ) (st : Strength) → Grows s (globalised s g v st)
named s g v st = option-cases (Grows s) (answer says.Empty s) (λ p. name_given s g p st (slot s.names g)) (slot s.heap.vars v) (stays s.issued) (λ p. given s g p st (slot s.names g))

read : (s : Peers) (v : ℕ) (o : Option ℕ) → Grows s (peer_read s v o)
read s v None = stays s.issued
read s v (Some p) = stays s.issued

held-one : (s : Peers) (o : Option ℕ) → Grows s (peer_gripped s o)
held-one s None = stays s.issued
held-one s (Some p) =
    test-cases (Grows s) (handles_full s) (answer says.Full s) (answer
    (says.Gripped record { 0 = p } record { 0 = next_handle s } (sort_of s p) (length (fields_of s.heap p))) (with_handle s p held strong))
    (stays s.issued) (record { peer = p; hold = held; strength = strong } ∷ [], refl, omega arith)

put : (s : Peers) (x : ℕ) (o : Option ℕ) → Grows s (landed s x o)
put s x None = stays s.issued
put s x (Some p) = stays s.issued

-- what is brought back is no handle
brought-by : (is : List Issued) (a : Answered PeerReplay) (r : Reply) → HasFurther is a.state.peers.issued → HasFurther is (bring_by a r).state.peers.issued
brought-by is a (says.P p) w = w
brought-by is a _ w = w

line-grows : (target : ℕ → Option ℕ) (s : Peers) (t : ℕ) (a : Act) → Grows s (peer_line target s t a)
line-grows target s t (act.NewPeer v n) =
    test-cases (Grows s) (is_full s.heap.fields) (answer says.Full s)
    (let grown = with_peer s Framework n in answer (peer_name (next_number s.heap)) (record grown { heap = with_var grown.heap (place t v.0) (Some (next_number s.heap)) }))
    (stays s.issued) (stays s.issued)
line-grows target s t (act.Global g v) = named s g.0 (place t v.0) strong
line-grows target s t (act.WGlobal g v) = named s g.0 (place t v.0) weak
line-grows target s t (act.UnGlobal g) = option-cases (Grows s) (answer says.Unset s)
    (λ h. answer says.Ok (record s { names = slice_set s.names g.0 None })) (slot s.names g.0) (stays s.issued) (λ h. stays s.issued)
line-grows target s t (act.WRead v g) = option-cases (Grows s) (answer says.Unset s)
    (λ h. peer_read s (place t v.0) (target h)) (slot s.names g.0) (stays s.issued) (λ h. read s (place t v.0) (target h))
line-grows target s t _ = stays s.issued

pub issued-grows : (s : PeerReplay) (t : Thread) (o : Op) (cites : Option ℕ) → IsPeerStep t o → HasFurther s.peers.issued (peer_answer s t o cites nothing).state.peers.issued
issued-grows s t (op.Line (act.Slice n)) cites step = absurd step.2
issued-grows s t (op.Line (act.UnGlobal g)) cites step = line-grows (table_target s) s.peers (thread_number t) (act.UnGlobal g)
issued-grows s t (op.Line (act.WRead v g)) cites step =
    let a = on_table s (peer_line (table_target s) s.peers (thread_number t) (act.WRead v g)) in
    brought-by s.peers.issued a a.reply (line-grows (table_target s) s.peers (thread_number t) (act.WRead v g))
issued-grows s t (op.Line a) cites step = line-grows (table_target s) s.peers (thread_number t) a
issued-grows s t (op.Make sort n) cites step =
    test-cases (Grows s.peers) (is_full s.peers.heap.fields || handles_full s.peers) (answer says.Full s.peers)
    (answer (says.Made record { 0 = next_number s.peers.heap } record { 0 = next_handle s.peers }) (with_handle (with_peer s.peers sort n) (next_number s.peers.heap) held strong))
    (stays s.peers.issued) (record { peer = next_number s.peers.heap; hold = held; strength = strong } ∷ [], refl, omega arith)
issued-grows s t (op.Land h x) cites step = (let a = on_table s (landed s.peers x.0 (table_target s h.0)) in brought-by s.peers.issued a a.reply (put s.peers x.0 (table_target s h.0)))
issued-grows s t (op.Grip x) cites step = held-one s.peers (slot s.peers.heap.statics x.0)
issued-grows s t (op.Release h) cites step = stays s.peers.issued
issued-grows s t (op.Mirror k) cites step = absurd step
issued-grows s t (op.Weaken h) cites step = absurd step
issued-grows s t op.Begin cites step = absurd step
issued-grows s t op.Sweep cites step = absurd step
issued-grows s t (op.Restore h) cites step = absurd step
issued-grows s t (op.Clear k) cites step = absurd step
issued-grows s t (op.Adopt v k n p h) cites step = absurd step
issued-grows s t (op.Lend v x) cites step = absurd step
issued-grows s t (op.Meet v sort n p h) cites step = absurd step
issued-grows s t (op.Give v) cites step = absurd step
issued-grows s t (op.Snap k) cites step = absurd step
issued-grows s t (op.Contract k) cites step = absurd step
issued-grows s t (op.Resolve k) cites step = absurd step
issued-grows s t (op.Abandon k) cites step = absurd step
issued-grows s t (op.Refused w) cites step = absurd step

-- a step's entry tells nothing of a cycle
pub step-mirrors : (t : Thread) (o : Op) → IsPeerStep t o → mirrored_at o ≡ []
step-mirrors t (op.Mirror k) step = absurd step
step-mirrors t _ step = refl

pub step-weakens : (t : Thread) (o : Op) → IsPeerStep t o → weakened_at o ≡ []
step-weakens t (op.Weaken h) step = absurd step
step-weakens t _ step = refl

pub step-restores : (t : Thread) (o : Op) → IsPeerStep t o → restored_at o ≡ []
step-restores t (op.Restore h) step = absurd step
step-restores t _ step = refl

pub step-gives : (t : Thread) (o : Op) → IsPeerStep t o → (r : Reply) → given_at o r ≡ []
step-gives t (op.Restore h) step r = absurd step
step-gives t _ step r = refl

-- the room for references stays
room-new : (old : HeapRows) (r : Reply) (new : HeapRows) → MarksNew old r new → (new.room ≡ old.room) × (new.temps ≡ old.temps)
room-new old (says.P p) new m = (m.room, m.temps)
room-new old (says.Made p h) new m = (m.room, m.temps)
room-new old _ new m = (ap (λ (v : HeapRows). v.room) m, ap (λ (v : HeapRows). v.temps) m)

room-brought : (b : Bool) (old : HeapRows) (before : ℕ) (r : Reply) (new : HeapRows) (after : ℕ) → MarksBrought b old before r new after → (new.room ≡ old.room) × (new.temps ≡ old.temps)
room-brought b old before (says.P p) new after m = (m.room, m.temps)
room-brought b old before _ new after m = (ap (λ (v : HeapRows). v.room) m.0, ap (λ (v : HeapRows). v.temps) m.0)

pub room-after : (b : Bool) (t : Thread) (old : HeapRows) (before : ℕ) (o : Op) (r : Reply) (new : HeapRows) (after : ℕ)
    → MarksAfter b t old before o r new after → (new.room ≡ old.room) × (new.temps ≡ old.temps)
room-after b t old before (op.Line (act.NewPeer v n)) r new after m = room-new old r new m.0
room-after b t old before (op.Make sort n) r new after m = room-new old r new m.0
room-after b t old before (op.Line (act.Set v i w)) r new after m = (m.room, m.temps)
room-after b t old before (op.Line (act.WRead v g)) r new after m = room-brought b old before r new after m
room-after b t old before (op.Land h x) r new after m = room-brought b old before r new after m
room-after b t old before _ r new after m = (ap (λ (v : HeapRows). v.room) m.0, ap (λ (v : HeapRows). v.temps) m.0)
