-- No peer has more than 16 fields, so no grip names more.
use Rattle.std.proofs.Common.{◌≡◌, ⊎_elim, ℕ, zero, suc, ◌+◌, ◌<◌, ◌≤◌, Bool, true, false, ◌||◌, List, [], length, Option, Some, None, set, replicate, refl, sym, ◌∙◌, subst, arith}
use Rattle.std.specs.Prelude.{◌-◌, if◌then◌else◌, min, nat_le, nat_lt, slice_set}
use Rattle.std.proofs.Math.ListN.{length-set}
use Rattle.std.proofs.lemmas.Bool.{cases_eq, cases_lt}
use Rattle.std.proofs.lemmas.List.{length-replicate}
use Rattle.joint_machine.specs.declared.names.Thread.{Thread}
use Rattle.joint_machine.specs.declared.names.Thread.TheVariants.{M, P, C}
use Rattle.joint_machine.specs.declared.names.Sort.{Sort}
use Rattle.joint_machine.specs.declared.names.Sort.TheVariants.{Framework}
use Rattle.joint_machine.specs.declared.names.StaticNo.{StaticNo}
use Rattle.joint_machine.specs.declared.lines.Act.{Act}
use Rattle.joint_machine.specs.declared.lines.Act.TheVariants as act
use Rattle.joint_machine.specs.declared.events.Made.{Made}
use Rattle.joint_machine.specs.declared.events.Op.{Op}
use Rattle.joint_machine.specs.declared.events.Op.TheVariants as op
use Rattle.joint_machine.specs.declared.events.Reply.{Reply}
use Rattle.joint_machine.specs.declared.events.Reply.TheVariants as says
use Rattle.joint_machine.specs.Components.{End}
use Rattle.joint_machine.specs.Control.{Doing, gripped, doing_after, doing_at, control_after}
use Rattle.joint_machine.specs.Heaps.{Heap, Answered, answer, slot, numbered_at, next_number, is_full, fields_of, with_var, with_field, with_object, copied, field_stored, field_set}
use Rattle.joint_machine.specs.Heaps.{read_into, field_got, stored}
use Rattle.joint_machine.specs.Lines.{IsEvent, IsLine, is_peer_event}
use Rattle.joint_machine.specs.Linked.{Linkage, MayCome, SideLawful, peer_after, linkage_after, opening_linkage}
use Rattle.joint_machine.specs.Peers.{Peers, Strength, peer_line, peer_made, pair_made, peer_gripped, landed, name_given, globalised, name_freed, peer_read, name_read, peer_name, handle_name}
use Rattle.joint_machine.specs.Peers.{next_handle, handles_full, with_peer, with_handle, sort_of, peer_of, held, raw, strong}
use Rattle.joint_machine.specs.PeerReplay.{PeerReplay, Marking, TableRow, peer_answer, peer_thread_line, bring_by, sliced, begun, swept, swept_of, is_thread, restored_by, row_of, mirrored}
use Rattle.joint_machine.specs.PeerReplay.{table_target, renewed_on, withdrawn}
use Rattle.joint_machine.specs.Run.{thread_number}
use Rattle.joint_machine.specs.Told.{Told, Noted, references_of, slice_of, sweep_of}
use Rattle.joint_machine.proofs.Deciding.{none_some}
use Rattle.joint_machine.proofs.Numbered.{numbered-past, numbered-push_cases, numbered_set-same}
use Rattle.joint_laws.proofs.Fields.{with_field-other, with_object-old}
use Rattle.joint_laws.proofs.Hands.{doing-set_cases, opening-free}
use Rattle.joint_laws.proofs.LinkedEntries.{Of}
use Rattle.known_laws.specs.Pasts.{Lawful, end_of}
use Rattle.known_laws.proofs.Later.{past-all}

-- no object has more than 16 fields
abbrev pub AreNarrow : Heap → Type 0
AreNarrow h = (x : ℕ) → length (fields_of h x) ≤ 16

abbrev row_by : Option (List (Option ℕ)) → List (Option ℕ)
row_by o = elim o [ None ↦ [] | Some fs ↦ fs ]

row_narrow : (o : Option (List (Option ℕ))) (fs : List (Option ℕ)) → ((gs : List (Option ℕ)) → o ≡ Some gs → fs ≡ gs) → length fs ≤ 16 → length (row_by o) ≤ 16
row_narrow None fs e l = omega arith
row_narrow (Some gs) fs e l = subst (λ xs. length xs ≤ 16) (e gs refl) l

field_narrow : (h : Heap) (x i : ℕ) (o : Option ℕ) → AreNarrow h → AreNarrow (with_field h x i o)
field_narrow h x i o k y = ⊎_elim
    (λ (e : y ≡ x). subst (λ z. length (fields_of (with_field h x i o) z) ≤ 16) (sym e)
    (row_narrow (numbered_at (with_field h x i o).fields x) (set (fields_of h x) i o)
    (λ gs q. numbered_set-same h.fields x (set (fields_of h x) i o) gs q) (let w = length-set (fields_of h x) i o in let b = k x in omega arith)))
    (λ (n : y ≡ x → ⊥). subst (λ fs. length fs ≤ 16) (sym (with_field-other h x i o y n)) (k y))
    (cases_eq y x)

object_narrow : (h : Heap) (n : ℕ) → n ≤ 16 → AreNarrow h → AreNarrow (with_object h n)
object_narrow h n l k y = ⊎_elim
    (λ (q : length h.fields < y). row_narrow (numbered_at (with_object h n).fields y) (replicate n None) (new q) (let w = length-replicate {A = Option ℕ} n None in omega arith))
    (λ (p : y ≤ length h.fields). subst (λ fs. length fs ≤ 16) (sym (with_object-old h n y p)) (k y))
    (cases_lt (length h.fields) y)
  where
    new : length h.fields < y → (gs : List (Option ℕ)) → numbered_at (with_object h n).fields y ≡ Some gs → replicate n None ≡ gs
    new q gs e = ⊎_elim
        (λ (w : numbered_at h.fields y ≡ Some gs). absurd (none_some gs (sym (numbered-past h.fields y q) ∙ w)))
        (λ w. w.1)
        (numbered-push_cases h.fields (replicate n None) y gs e)

-- the events of the heap alone
module _ (h : Heap) (k : AreNarrow h) where
  copied_narrow : (v w : ℕ) → AreNarrow (copied peer_name h v w).state
  copied_narrow v w = by (slot h.vars w)
    where
      by : (o : Option ℕ) → AreNarrow (elim o as (λ z. Answered Heap) [ None ↦ answer says.Empty h | Some x ↦ answer (peer_name x) (with_var h v (Some x)) ]).state
      by None = k
      by (Some x) = k

  stored_narrow : (x i : ℕ) (w : Option ℕ) → AreNarrow (field_stored h x i w).state
  stored_narrow x i None = field_narrow h x i None k
  stored_narrow x i (Some w) = by (slot h.vars w)
    where
      by : (o : Option ℕ) → AreNarrow (elim o as (λ z. Answered Heap) [ None ↦ answer says.Empty h | Some y ↦ answer says.Ok (with_field h x i (Some y)) ]).state
      by None = k
      by (Some y) = field_narrow h x i (Some y) k

  set_narrow : (v i : ℕ) (w : Option ℕ) → AreNarrow (field_set h v i w).state
  set_narrow v i w = by (slot h.vars v)
    where
      ranged : (x : ℕ) (b : Bool) → AreNarrow (if b then answer says.Range h else field_stored h x i w).state
      ranged x true = k
      ranged x false = stored_narrow x i w

      by : (o : Option ℕ) → AreNarrow (elim o as (λ z. Answered Heap)
          [ None ↦ answer says.Empty h | Some x ↦ if nat_le (length (fields_of h x)) i then answer says.Range h else field_stored h x i w ]).state
      by None = k
      by (Some x) = ranged x (nat_le (length (fields_of h x)) i)

  into_narrow : (v : ℕ) (o : Option ℕ) → AreNarrow (read_into peer_name h v o).state
  into_narrow v None = k
  into_narrow v (Some y) = k

  got_narrow : (v w i : ℕ) → AreNarrow (field_got peer_name h v w i).state
  got_narrow v w i = by (slot h.vars w)
    where
      ranged : (x : ℕ) (b : Bool) → AreNarrow (if b then answer says.Range h else read_into peer_name h v (slot (fields_of h x) i)).state
      ranged x true = k
      ranged x false = into_narrow v (slot (fields_of h x) i)

      by : (o : Option ℕ) → AreNarrow (elim o as (λ z. Answered Heap)
          [ None ↦ answer says.Empty h | Some x ↦ if nat_le (length (fields_of h x)) i then answer says.Range h else read_into peer_name h v (slot (fields_of h x) i) ]).state
      by None = k
      by (Some x) = ranged x (nat_le (length (fields_of h x)) i)

  put_narrow : (s : ℕ) (v : Option ℕ) → AreNarrow (stored h s v).state
  put_narrow s None = k
  put_narrow s (Some v) = by (slot h.vars v)
    where
      by : (o : Option ℕ) → AreNarrow (elim o as (λ z. Answered Heap) [ None ↦ answer says.Empty h | Some x ↦ answer says.Ok (record h { statics = slice_set h.statics s (Some x) }) ]).state
      by None = k
      by (Some x) = k

-- a line makes no peer with more
abbrev MakesFew : Act → Type 0
MakesFew (act.NewPeer v n) = n ≤ 16
MakesFew a = Unit {0}

line_few : (t : Thread) (a : Act) → IsLine t a → MakesFew a
line_few (P u) (act.NewPeer v n) is = is.1.1
line_few (M u) (act.NewPeer v n) is = absurd is.1
line_few C (act.NewPeer v n) is = absurd is
line_few t a is = tt

-- the events of the peers alone
module _ (s : Peers) (k : AreNarrow s.heap) where
  made_narrow : (v n : ℕ) → n ≤ 16 → AreNarrow (peer_made s v n).state.heap
  made_narrow v n l = by (is_full s.heap.fields)
    where
      by : (b : Bool) → AreNarrow (if b then answer says.Full s else
          (let grown = with_peer s Framework n in answer (peer_name (next_number s.heap)) (record grown { heap = with_var grown.heap v (Some (next_number s.heap)) }))).state.heap
      by true = k
      by false = object_narrow s.heap n l k

  pair_narrow : (sort : Sort) (n : ℕ) → n ≤ 16 → AreNarrow (pair_made s sort n).state.heap
  pair_narrow sort n l = by (is_full s.heap.fields || handles_full s)
    where
      by : (b : Bool) → AreNarrow (if b then answer says.Full s else answer (says.Made record { 0 = next_number s.heap } record { 0 = next_handle s })
          (with_handle (with_peer s sort n) (next_number s.heap) held strong)).state.heap
      by true = k
      by false = object_narrow s.heap n l k

  gripped_narrow : (o : Option ℕ) → AreNarrow (peer_gripped s o).state.heap
  gripped_narrow None = k
  gripped_narrow (Some p) = by (handles_full s)
    where
      by : (b : Bool) → AreNarrow (if b then answer says.Full s else answer
          (says.Gripped record { 0 = p } record { 0 = next_handle s } (sort_of s p) (length (fields_of s.heap p))) (with_handle s p held strong)).state.heap
      by true = k
      by false = k

  landed_narrow : (x : ℕ) (o : Option ℕ) → AreNarrow (landed s x o).state.heap
  landed_narrow x None = k
  landed_narrow x (Some p) = k

  named_narrow : (g p : ℕ) (st : Strength) (o : Option ℕ) → AreNarrow (name_given s g p st o).state.heap
  named_narrow g p st (Some h) = k
  named_narrow g p st None = by (handles_full s)
    where
      by : (b : Bool) → AreNarrow (if b then answer says.Full s else
          (let grown = with_handle s p raw st in answer (handle_name (next_handle s)) (record grown { names = slice_set s.names g (Some (next_handle s)) }))).state.heap
      by true = k
      by false = k

  globalised_narrow : (g v : ℕ) (st : Strength) → AreNarrow (globalised s g v st).state.heap
  globalised_narrow g v st = by (slot s.heap.vars v)
    where
      by : (o : Option ℕ) → AreNarrow (elim o as (λ z. Answered Peers) [ None ↦ answer says.Empty s | Some p ↦ name_given s g p st (slot s.names g) ]).state.heap
      by None = k
      by (Some p) = named_narrow g p st (slot s.names g)

  freed_narrow : (g : ℕ) → AreNarrow (name_freed s g).state.heap
  freed_narrow g = by (slot s.names g)
    where
      by : (o : Option ℕ) → AreNarrow (elim o as (λ z. Answered Peers) [ None ↦ answer says.Unset s | Some h ↦ answer says.Ok (record s { names = slice_set s.names g None }) ]).state.heap
      by None = k
      by (Some h) = k

  read_narrow : (v : ℕ) (o : Option ℕ) → AreNarrow (peer_read s v o).state.heap
  read_narrow v None = k
  read_narrow v (Some p) = k

  name_read_narrow : (target : ℕ → Option ℕ) (v g : ℕ) → AreNarrow (name_read target s v g).state.heap
  name_read_narrow target v g = by (slot s.names g)
    where
      by : (o : Option ℕ) → AreNarrow (elim o as (λ z. Answered Peers) [ None ↦ answer says.Unset s | Some h ↦ peer_read s v (target h) ]).state.heap
      by None = k
      by (Some h) = read_narrow v (target h)

  peer_line_narrow : (target : ℕ → Option ℕ) (t : ℕ) (a : Act) → MakesFew a → AreNarrow (peer_line target s t a).state.heap
  peer_line_narrow target t (act.NewPeer v n) l = made_narrow _ n l
  peer_line_narrow target t (act.Copy v w) l = copied_narrow s.heap k _ _
  peer_line_narrow target t (act.Set v i w) l = set_narrow s.heap k _ i _
  peer_line_narrow target t (act.Get v w i) l = got_narrow s.heap k _ _ i
  peer_line_narrow target t (act.Drop v) l = k
  peer_line_narrow target t (act.Load v x) l = into_narrow s.heap k _ _
  peer_line_narrow target t (act.Store x v) l = put_narrow s.heap k _ _
  peer_line_narrow target t (act.Global g v) l = globalised_narrow _ _ _
  peer_line_narrow target t (act.WGlobal g v) l = globalised_narrow _ _ _
  peer_line_narrow target t (act.UnGlobal g) l = freed_narrow _
  peer_line_narrow target t (act.WRead v g) l = name_read_narrow target _ _
  peer_line_narrow target t a l = k

bring_narrow : (a : Answered PeerReplay) (r : Reply) → AreNarrow a.state.peers.heap → AreNarrow (bring_by a r).state.peers.heap
bring_narrow a (says.P p) k = k
bring_narrow a r k = k

thread_narrow : (s : PeerReplay) (t : ℕ) (a : Act) → MakesFew a → AreNarrow s.peers.heap → AreNarrow (peer_thread_line s t a).state.peers.heap
thread_narrow s t (act.UnGlobal g) l k = peer_line_narrow s.peers k (table_target s) t (act.UnGlobal g) tt
thread_narrow s t (act.WRead v g) l k = bring_narrow _ _ (peer_line_narrow s.peers k (table_target s) t (act.WRead v g) tt)
thread_narrow s t a l k = peer_line_narrow s.peers k (table_target s) t a l

sliced_narrow : (s : PeerReplay) (o : Option Marking) (t : Thread) (n : ℕ) (closure : List ℕ) → AreNarrow s.peers.heap → AreNarrow (sliced s o t n closure).state.peers.heap
sliced_narrow s None t n closure k = k
sliced_narrow s (Some mk) t n closure k = by (is_thread t mk.by)
  where
    by : (b : Bool) → AreNarrow (if b then (let black = mk.blackened + min n (length closure - mk.blackened) in
        answer (if nat_lt black (length closure) then says.More else says.Done) (record s { marking = Some (record mk { blackened = black }) })) else answer
        (says.MarkOpen record { 0 = mk.number }) s).state.peers.heap
    by true = k
    by false = k

begun_narrow : (s : PeerReplay) (o : Option Marking) (t : Thread) → AreNarrow s.peers.heap → AreNarrow (begun s o t).state.peers.heap
begun_narrow s None t k = k
begun_narrow s (Some mk) t k = k

swept_narrow : (s : PeerReplay) (o : Option Marking) (t : Thread) (freed : List ℕ) → AreNarrow s.peers.heap → AreNarrow (swept s o t freed).state.peers.heap
swept_narrow s None t freed k = k
swept_narrow s (Some mk) t freed k = by (is_thread t C || is_thread t mk.by)
  where
    by : (b : Bool) → AreNarrow (if b then swept_of s mk freed else answer (says.MarkOpen record { 0 = mk.number }) s).state.peers.heap
    by true = k
    by false = k

restored_narrow : (s : PeerReplay) (h : ℕ) (o : Option TableRow) → AreNarrow s.peers.heap → AreNarrow (restored_by s h o).state.peers.heap
restored_narrow s h None k = k
restored_narrow s h (Some row) k = by row.cleared
  where
    given : (p : Option ℕ) → AreNarrow (renewed_on s h p).state.peers.heap
    given None = k
    given (Some p) = k

    by : (b : Bool) → AreNarrow (if b then answer says.Cleared (withdrawn s h) else renewed_on s h (peer_of s.peers.issued h)).state.peers.heap
    by true = k
    by false = given (peer_of s.peers.issued h)

mirrored_narrow : (s : PeerReplay) (c : ℕ) (cites : Option ℕ) (refs : List (End × End)) → AreNarrow s.peers.heap → AreNarrow (mirrored s c cites refs).peers.heap
mirrored_narrow s c None refs k = k
mirrored_narrow s c (Some snap) refs k = k

-- no event makes a peer with more
event_narrow : (s : PeerReplay) (t : Thread) (o : Op) (cites : Option ℕ) (told : Told) → IsEvent t o → AreNarrow s.peers.heap → AreNarrow (peer_answer s t o cites told).state.peers.heap
event_narrow s t (op.Line (act.Slice n)) cites (slice_of closure) e k = sliced_narrow s s.marking t n closure k
event_narrow s t (op.Line (act.Slice n)) cites told e k = sliced_narrow s s.marking t n [] k
event_narrow s t (op.Line a) cites told e k = thread_narrow s (thread_number t) a (line_few t a e.0) k
event_narrow s t (op.Make sort n) cites told e k = pair_narrow s.peers k sort n e.1
event_narrow s t (op.Land h x) cites told e k = bring_narrow _ _ (landed_narrow s.peers k x.0 (table_target s h.0))
event_narrow s t (op.Grip x) cites told e k = gripped_narrow s.peers k (slot s.peers.heap.statics x.0)
event_narrow s t (op.Mirror c) cites (references_of refs) e k = mirrored_narrow s c.0 cites refs k
event_narrow s t op.Begin cites told e k = begun_narrow s s.marking t k
event_narrow s t op.Sweep cites (sweep_of freed) e k = swept_narrow s s.marking t freed k
event_narrow s t op.Sweep cites told e k = swept_narrow s s.marking t [] k
event_narrow s t (op.Restore h) cites told e k = restored_narrow s h.0 (row_of s h.0) k
event_narrow s t o cites told e k = k

-- a peer that a thread has gripped has no more than 16 fields
abbrev pub GripsFew : Doing → Type 0
GripsFew (gripped n line p h sort f) = f ≤ 16
GripsFew d = Unit {0}

abbrev IsGrip : Op → Type 0
IsGrip (op.Grip x) = Unit {0}
IsGrip o = ⊥

grips_none : (num line : ℕ) (o : Op) (reply : Reply) → (IsGrip o → ⊥) → GripsFew (doing_after num line o reply)
grips_none num line (op.Grip x) reply n = absurd (n tt)
grips_none num line (op.Make sort n) (says.Made p h) w = tt
grips_none num line (op.Make sort n) _ w = tt
grips_none num line (op.Lend v y) (says.H g) w = tt
grips_none num line (op.Lend v y) _ w = tt
grips_none num line (op.Give v) (says.H g) w = tt
grips_none num line (op.Give v) _ w = tt
grips_none num line (op.Meet v sort f q g) (says.New m) w = tt
grips_none num line (op.Meet v sort f q g) _ w = tt
grips_none num line _ reply w = tt

grips_few : (num line : ℕ) (s : Peers) (x : StaticNo) (o : Option ℕ) (reply : Reply) → AreNarrow s.heap → reply ≡ (peer_gripped s o).reply → GripsFew (doing_after num line (op.Grip x) reply)
grips_few num line s x None reply k e = subst (λ z. GripsFew (doing_after num line (op.Grip x) z)) (sym e) tt
grips_few num line s x (Some q) reply k e = by (handles_full s) e
  where
    by : (b : Bool) → reply ≡ (if b then answer says.Full s else answer (says.Gripped record { 0 = q } record { 0 = next_handle s } (sort_of s q) (length (fields_of s.heap q)))
        (with_handle s q held strong)).reply → GripsFew (doing_after num line (op.Grip x) reply)
    by true f = subst (λ z. GripsFew (doing_after num line (op.Grip x) z)) (sym f) tt
    by false f = subst (λ z. GripsFew (doing_after num line (op.Grip x) z)) (sym f) (k q)

-- both hold at the end of every past
record HasFewFields (s : Linkage) : Type 0 where
  heap : AreNarrow s.peer.peers.heap
  grips : (t : ℕ) → GripsFew (doing_at s.control t)

few_step : (s : Linkage) (n : Noted) → Of s → MayCome s n → HasFewFields s → HasFewFields (linkage_after s n)
few_step s n kept may w = let r = by n.entry.made.caller n.entry.made.op n.told may.event may.lawful in record { heap = r.0; grips = r.1 }
  where
    num : ℕ
    num = n.entry.number

    line : ℕ
    line = n.entry.made.index

    made_of : Thread → Op → Made
    made_of t o = record { caller = t; index = line; op = o; reply = n.entry.made.reply; cites = n.entry.made.cites }

    heap_after : (t : Thread) (o : Op) (told : Told) (b : Bool) → IsEvent t o → AreNarrow (peer_after s.peer (made_of t o) told b).peers.heap
    heap_after t o told true e = event_narrow s.peer t o n.entry.made.cites told e w.heap
    heap_after t o told false e = w.heap

    new : (u : ℕ) (o : Op) (told : Told) → SideLawful (is_peer_event (M u) o) s (made_of (M u) o) told → GripsFew (doing_after num line o n.entry.made.reply)
    new u (op.Grip x) told l = grips_few num line s.peer.peers x (slot s.peer.peers.heap.statics x.0) n.entry.made.reply w.heap l.replies
    new u o told l = grips_none num line o n.entry.made.reply (λ z. z)

    by : (t : Thread) (o : Op) (told : Told) → IsEvent t o → SideLawful (is_peer_event t o) s (made_of t o) told
        → AreNarrow (peer_after s.peer (made_of t o) told (is_peer_event t o)).peers.heap × ((v : ℕ) → GripsFew (doing_at (control_after s.control t num line o n.entry.made.reply told) v))
    by (M u) o told e l = (
      heap_after (M u) o told (is_peer_event (M u) o) e,
      λ v. ⊎_elim
          (λ z. subst GripsFew (sym z.1) (new u o told l))
          (λ z. subst GripsFew (sym z.0) (w.grips v))
          (doing-set_cases s.control.doing u (doing_after num line o n.entry.made.reply) v),
    )
    by (P u) o told e l = (heap_after (P u) o told (is_peer_event (P u) o) e, w.grips)
    by C o told e l = (heap_after C o told (is_peer_event C o) e, w.grips)

none_made : (x : ℕ) → length (fields_of opening_linkage.peer.peers.heap x) ≤ 16
none_made zero = omega arith
none_made (suc x) = omega arith

pub past_grips_few : (h : List Noted) → Lawful h → (t : ℕ) → GripsFew (doing_at (end_of h).control t)
past_grips_few h l = (past-all HasFewFields (record { heap = none_made; grips = λ t. subst GripsFew (sym (opening-free 9 t)) tt }) few_step
    (λ s p w. record { heap = w.heap; grips = w.grips }) h l).grips
